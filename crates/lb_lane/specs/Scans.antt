-- A scan of a lane after a tick's turn: what it asks, and what it draws.
-- Cited by the contracts of `Lane::can_scan`, `Lane::scan` and `scan_at`; also by `lb_cpu` and `lb_service`.
use Rattle.std.specs.Prelude.{ℕ, ◌≡◌, ◌<◌, ◌≤◌, true, Option, List, length}
use Rattle.lb_base.specs.declared.mask.Mask.{Mask}
use Rattle.lb_base.specs.Mask.{has, without}
use Rattle.lb_base.specs.Sets.{least}
use Rattle.lb_trace.specs.declared.trace.Header.{Header}
use Rattle.lb_core.specs.declared.course.Course.{Course}
use Rattle.lb_core.specs.declared.course.Form.TheVariants.{ScanDue}
use Rattle.lb_core.specs.declared.entry.CpuFig.{CpuFig}
use Rattle.lb_core.specs.declared.entry.What.{What}
use Rattle.lb_core.specs.declared.entry.What.TheVariants.{Scan}
use Rattle.lb_core.specs.Course.{named_at, turn_domains, widest_span}
use Rattle.lb_core.specs.Sight.{tickless_in}
use Rattle.lb_journal.specs.Journal.{names_of}
use Rattle.lb_board.specs.Board.{seen_at}
use Rattle.lb_cell.specs.Cells.{LaneIs as SideIs}
use Rattle.lb_lane.specs.Lanes.{LaneIs}
use Rattle.lb_lane.specs.Own.{SameRest}
use Rattle.lb_lane.specs.Figures.{DrewAbove}

-- a scan is due, and the turn's CPU has domains
pub record ScanAsks (h : Header) (l : LaneIs) : Type 0 where
  pub due : l.side.course.form ≡ ScanDue
  pub some : 0 < length (turn_domains h l.side.course)

-- the CPUs whose figures the scan reads: those of the widest domain
abbrev pub scanned_at : Header → Course → Mask
scanned_at h c = without (widest_span h c) c.excluded

-- the CPU that is to be kicked: the least that these figures show tickless
abbrev pub target_among : List CpuFig → Option ℕ
target_among figs = least (tickless_in figs)

abbrev pub scan_of : List CpuFig → What
scan_of figs = Scan (names_of figs) (target_among figs)

-- on a machine of so many CPUs it was drawn, above the tickets of the figures: one of each CPU of the widest domain, which
-- were read in this call
pub record Scanned (h : Header) (cpus : ℕ) (l l' : SideIs) (target : Option ℕ) : Type 0 where
  pub drew : DrewAbove h cpus (scanned_at h l.course) l l' scan_of
  pub answer : target ≡ target_among drew.figs

pub record LaneScanned (h : Header) (cpus : ℕ) (l l' : LaneIs) (target : Option ℕ) : Type 0 where
  pub scanned : Scanned h cpus l.side l'.side target
  pub rest : SameRest l l'

-- ---- of the side alone
-- so the side may scan
pub record MayScan (h : Header) (cpus : ℕ) (l : SideIs) : Type 0 where
  pub due : l.course.form ≡ ScanDue
  pub inside : (k : ℕ) → has (widest_span h l.course) k ≡ true → k < cpus
  pub named : cpus ≤ length l.course.named
  pub numbers : (k : ℕ) → k < cpus → named_at l.course k < length (seen_at l.known.reader k)
