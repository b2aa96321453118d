-- What stands behind the lock of a queue, and what a lane has of its own. Each keeps of its list what the merge of all
-- lists asks of its owner.
-- Cited by the contracts of `Cell::answer`, `Cell::keeps`, `Cell::end` and others; also by `lb_cpu`, `lb_end` and
-- other crates.
use Rattle.std.specs.Prelude.{ℕ, ◌≡◌, ◌+◌, ◌<◌, ◌≤◌, ◌^◌, true, false, None, List, [], length, map, All}
use base.Stored.{Coded}
use Rattle.atomic_table.specs.Seated.{TableId}
use Rattle.lb_base.specs.declared.mask.TheConstants.{MAX_CPUS}
use Rattle.lb_queue.specs.Queue.{BookedQueue}
use Rattle.lb_queue.specs.Tasks.{ids}
use Rattle.lb_trace.specs.declared.trace.Header.{Header}
use Rattle.lb_core.specs.declared.course.Course.{Course}
use Rattle.lb_core.specs.declared.course.Form.TheVariants.{Rest}
use Rattle.lb_core.specs.Course.{source_of}
use Rattle.lb_core.specs.Placed.{is_flight}
use Rattle.lb_ticket.specs.declared.item.Drawn.{Drawn}
use Rattle.lb_ticket.specs.Seats.{SeatIs}
use Rattle.lb_ticket.specs.Tickets.{pair}
use Rattle.lb_journal.specs.Journal.{Journal, Left, replay}
use Rattle.lb_journal.specs.Merge.{closing_out}
use Rattle.lb_journal.specs.Owners.{published}
use Rattle.lb_board.specs.Board.{IsOfBoard}
use Rattle.lb_cell.specs.declared.log.Log.{Log}
use Rattle.lb_cell.specs.declared.known.Known.{Known}
use Rattle.lb_cell.specs.declared.parts.CellParts.{CellParts}
use Rattle.lb_cell.specs.declared.parts.LaneParts.{LaneParts}
use Rattle.lb_cell.specs.Kinds.{is_of_queue}
use Rattle.lb_cell.specs.LastEntries.{IsLast}

-- ---- behind the lock
-- the queue, its list with its figures, and how many entries are booked
pub record CellIs : Type 0 where
  pub queue : BookedQueue
  pub log : Log
  pub room : ℕ

-- the same, by the parts that the code has
abbrev pub cell_of : CellParts → CellIs
cell_of c = record { queue = c.queue; log = c.log; room = c.room }

-- there is room for an entry more than are booked
abbrev pub HasRoom : CellIs → Type 0
HasRoom c = (c.room < c.log.seat.spare) × (length c.log.seat.list + c.room + 1 < 2 ^ 40)

-- what is kept of each entry of a queue: it has the header of the machine, and names no figures; its kind is one of a
-- queue, and it does not close the history
pub record IsPlain (h : Header) (d : Drawn Journal) : Type 0 where
  pub header : d.item.header ≡ h
  pub figs : d.item.figs ≡ []
  pub of_queue : is_of_queue d.item.entry.what ≡ true
  pub goes_on : closing_out d.item ≡ false

-- the queue is the replay of the seat's list, and the published figures are those after each entry of it; of the room
-- for entries there is as much as is booked
pub record CellKeeps (h : Header) (book : TableId) (board : List TableId) (c : CellIs) : Type 0 where
  pub table : c.log.seat.table ≡ book
  pub number : c.log.seat.number ≡ 17 + c.log.writer.cpu
  pub declared : c.log.writer.cpu < length h.cpus
  pub of_board : IsOfBoard board c.log.writer
  pub replayed : c.queue.state ≡ replay h c.log.writer.cpu (map pair c.log.seat.list)
  pub figures : c.log.writer.figures ≡ published h c.log.writer.cpu (map pair c.log.seat.list)
  pub plain : All (IsPlain h) c.log.seat.list
  pub room : c.room ≤ c.log.seat.spare
  pub short : length c.log.seat.list + c.room < 2 ^ 40

-- ---- of a lane
-- its number and course, what it knows of its last entry and of the figures, its own list, and the ids that its next
-- landing names
pub record LaneIs : Type 0 where
  pub number : ℕ
  pub course : Course
  pub known : Known
  pub seat : SeatIs Journal
  pub landing : List ℕ

-- the same, by the parts that the code has
abbrev pub lane_of : LaneParts → LaneIs
lane_of l = record { number = l.number; course = l.course; known = l.known; seat = l.seat; landing = l.landing }

-- the CPU of its turn, the position in work and the source of its last pull are small numbers
pub record IsInRange (c : Course) : Type 0 where
  pub cpu : c.cpu < MAX_CPUS
  pub position : c.position < MAX_CPUS
  pub source : source_of c.decision < MAX_CPUS

-- at rest no command is in service, and no look is kept
abbrev pub IsQuiet : Course → Type 0
IsQuiet c = c.form ≡ Rest → (c.command ≡ None) × (c.decision ≡ None)

pub record LaneKeeps (h : Header) (book : TableId) (board : List TableId) (code : Coded Left) (l : LaneIs) : Type 0 where
  pub number : l.number < h.lanes
  pub table : l.seat.table ≡ book
  pub owner : l.seat.number ≡ l.number + 1
  pub cells : l.known.reader.cells ≡ board
  pub last : IsLast book code (length h.cpus) l.number l.course l.known.ticket l.known.note
  -- a lane that drew nothing has no list
  pub first : l.known.ticket ≡ 0 → l.seat.list ≡ []
  pub named : length l.course.named ≡ length h.cpus
  pub headers : All (λ d. d.item.header ≡ h) l.seat.list
  pub range : IsInRange l.course
  pub quiet : IsQuiet l.course
  -- the landing names the tasks in the hand
  pub landing : is_flight l.course.form ≡ true → l.landing ≡ ids l.course.hand
