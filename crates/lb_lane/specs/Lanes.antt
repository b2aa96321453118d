-- What a lane has and keeps beside its side of the entries that it draws at queues: a looker at versions, its rows, and
-- the domains that its turn looks at. Of its own list it keeps what the merge of all lists asks of a lane.
-- Cited by the contracts of `Lane::end`, `Lane::keeps`, `Lane::domains` and `look_due`; also by `lb_cpu`,
-- `lb_lane_laws` and other crates.
use Rattle.std.specs.Prelude.{ℕ, ◌≡◌, ◌<◌, ◌≤◌, Bool, true, false, List, length, map, take, All}
use base.Stored.{Coded}
use Rattle.logbook.specs.Pages.{Book}
use Rattle.atomic_table.specs.Seated.{TableId}
use Rattle.lb_levels.specs.Faults.{CanBeRead}
use Rattle.lb_domain.specs.declared.domain.Domain.{Domain}
use Rattle.lb_domain.specs.Domains.{domains_of}
use Rattle.lb_domain.specs.Topologies.{AreFew}
use Rattle.lb_topub.specs.Versions.{VersionsSeen}
use Rattle.lb_trace.specs.declared.trace.Header.{Header}
use Rattle.lb_trace.specs.declared.trace.Row.{Row}
use Rattle.lb_trace.specs.declared.trace.TheConstants.{MAX_ROWS}
use Rattle.lb_trace.specs.Accepted.{is_command}
use Rattle.lb_core.specs.Course.{named_at}
use Rattle.lb_core.specs.declared.course.Form.{Form}
use Rattle.lb_core.specs.declared.course.Form.TheVariants.{Due}
use Rattle.lb_core.specs.OfTrace.{rows_drawn}
use Rattle.lb_journal.specs.Journal.{Journal}
use Rattle.lb_cell.specs.Kinds.{is_of_lane}
use Rattle.lb_journal.specs.Owners.{SeatUses}
use Rattle.lb_board.specs.Board.{seen_at}
use Rattle.lb_cell.specs.Cells.{LaneIs as SideIs}
use Rattle.lb_cell.specs.Reads.{SawAll}
use Rattle.lb_lane.specs.Vouched.{Vouches}

-- it vouches for the first `vouched` versions that it has seen; `domains` are those of the CPU `turned` in the version that
-- it used last
pub record LaneIs : Type 0 where
  pub side : SideIs
  pub looker : VersionsSeen
  pub rows : List Row
  pub vouched : ℕ
  pub turned : ℕ
  pub domains : List Domain

-- in this form a turn is due, of a CPU that the lane has taken up no version for
abbrev pub is_due : Form → Bool
is_due Due = true
is_due form = false

pub record LaneKeeps (h : Header) (board : List TableId) (versions : Book) (code : Coded Journal) (l : LaneIs) : Type 0 where
  -- ---- the machine: it can be read, and the board has a cell for each CPU
  pub machine : CanBeRead h.cpus h.distances
  pub cells : length board ≡ length h.cpus
  -- ---- its versions
  pub looker : l.looker.book ≡ versions
  pub vouches : Vouches h code l.side.seat.read l.side.seat.next l.looker.topologies l.vouched
  pub some : 1 ≤ l.vouched
  pub seen : l.vouched ≤ length l.looker.topologies
  pub version : l.side.course.named_version ≤ length l.looker.topologies
  -- ---- its turn: that of the CPU `turned`, whose domains it has, until one of another CPU is due
  pub turned : l.turned < length h.cpus
  pub turns : is_due l.side.course.form ≡ false → l.turned ≡ l.side.course.cpu
  pub domains : l.domains ≡ domains_of h.cpus h.distances l.side.course.masks l.turned
  pub few : AreFew l.domains
  -- ---- its rows, of which those of its list are the first
  pub owned : All (λ r. r.lane ≡ l.side.number) l.rows
  pub declared : All (λ r. is_command h r.command ≡ true) l.rows
  pub short : length l.rows ≤ MAX_ROWS
  pub within : l.side.course.rows ≤ length l.rows
  pub rows : rows_drawn (map (λ d. d.item.entry) l.side.seat.list) ≡ take l.side.course.rows l.rows
  -- ---- its list: the versions that it uses were read, the figures that it names were seen, and it is of a lane's kinds,
  -- none of which closes the history
  pub uses : SeatUses h code l.side.seat
  pub saw : SawAll l.side.known.reader l.side.seat.list
  pub goes_on : All (λ d. is_of_lane d.item.entry.what ≡ true) l.side.seat.list
  -- ---- its figures: of each CPU it has seen the greatest number that it drew or named
  pub numbers : (cpu : ℕ) → cpu < length h.cpus → named_at l.side.course cpu < length (seen_at l.side.known.reader cpu)
