-- The figures that a lane's items carry are those that it saw, and so, once what it saw of each CPU is known to be a
-- beginning of what its queue published, those that the queues published under these numbers.
-- Cited by the laws `look_sees_more`, `saw_stays`, `saw_is_read` and `plain_is_kept`, and `Lane::reserve`,
-- `Lane::mark` and others; also by `lb_cpu` and `lb_lane`.
use Rattle.std.specs.Prelude.{ℕ, ◌≡◌, ◌<◌, List, Some, slice_get, All}
use mathlib.Core.List.{IsPrefix}
use base.Stored.{Coded}
use Rattle.lb_trace.specs.declared.trace.Header.{Header}
use Rattle.lb_core.specs.declared.entry.CpuFig.{CpuFig}
use Rattle.lb_ticket.specs.declared.item.Drawn.{Drawn}
use Rattle.lb_ticket.specs.Seats.{SeatIs}
use Rattle.lb_journal.specs.Journal.{Journal}
use Rattle.lb_journal.specs.Merge.{queue_list}
use Rattle.lb_journal.specs.Owners.{published, ReadsAll, SeatUses}
use Rattle.lb_board.specs.Board.{Sight, seen_at, see}
use Rattle.lb_cell.specs.Cells.{IsPlain, LaneIs}

-- the figure was seen under its number, and is of an earlier ticket
pub record Saw (s : Sight) (ticket : ℕ) (f : CpuFig) : Type 0 where
  pub is : slice_get (seen_at s f.cpu) f.fig.n ≡ Some f.fig
  pub before : f.fig.ticket < ticket

-- all figures of a lane's items
abbrev pub SawAll : Sight → List (Drawn Journal) → Type 0
SawAll s list = All (λ d. All (Saw s d.ticket) d.item.figs) list

-- of each CPU as much was seen, or more
abbrev pub SeesMore : Sight → Sight → Type 0
SeesMore s t = (cpu : ℕ) → IsPrefix (seen_at s cpu) (seen_at t cpu)

-- a look at one CPU
abbrev pub LookSeesMore : Type 0
LookSeesMore =
    (s t : Sight) (cpu : ℕ) → t ≡ see s cpu (seen_at t cpu) → IsPrefix (seen_at s cpu) (seen_at t cpu) → SeesMore s t

-- it stays as more is seen
abbrev pub SawStays : Type 0
SawStays = (s t : Sight) (list : List (Drawn Journal)) → SeesMore s t → SawAll s list → SawAll t list

-- where what was seen of each CPU is a beginning of what its queue published, each carried figure was published
abbrev pub SawIsRead : Type 0
SawIsRead =
    (h : Header) (lists : List (List (Drawn Journal))) (s : Sight) (list : List (Drawn Journal)) →
    ((cpu : ℕ) → IsPrefix (seen_at s cpu) (published h cpu (queue_list lists cpu))) → SawAll s list →
    All (ReadsAll h lists) list

-- what a cell keeps of its entries is what the merge asks of a queue's seat
abbrev pub PlainIsKept : Type 0
PlainIsKept =
    (h : Header) (code : Coded Journal) (lists : List (List (Drawn Journal))) (s : SeatIs Journal) →
    All (IsPlain h) s.list →
    All (λ d. d.item.header ≡ h) s.list × SeatUses h code s × All (ReadsAll h lists) s.list

-- ---- what a lane may do with its seat between two entries
-- all but the seat is as it was, and of the seat the list
pub record SameBut (l l' : LaneIs) : Type 0 where
  pub number : l'.number ≡ l.number
  pub course : l'.course ≡ l.course
  pub known : l'.known ≡ l.known
  pub landing : l'.landing ≡ l.landing
  pub list : l'.seat.list ≡ l.seat.list
