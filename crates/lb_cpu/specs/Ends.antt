-- What is left of each cell and of each lane when the locks and the lanes of a machine are taken apart, and what is known of
-- the lanes then.
-- Cited by the contracts of `end_cells`, `end_lanes`, `Cpus::rest` and others; also by `lb_threads`.
use Rattle.std.specs.Prelude.{ℕ, Option, ◌≤◌, ◌≡◌, ◌+◌, ◌<◌, true, false, List, [], ◌++◌, Some, length, map, take, slice_get, All}
use mathlib.Core.List.{IsPrefix}
use base.Stored.{Coded}
use Rattle.atomic_table.specs.Seated.{TableId}
use Rattle.logbook.specs.Pages.{Book}
use Rattle.lb_domain.specs.Topologies.{DomainsWithin}
use Rattle.lb_queue.specs.Queue.{BookedQueue}
use Rattle.lb_trace.specs.declared.trace.Header.{Header}
use Rattle.lb_trace.specs.Accepted.{IsHeader}
use Rattle.lb_core.specs.declared.course.Course.{Course}
use Rattle.lb_core.specs.declared.course.Form.TheVariants.{Rest}
use Rattle.lb_core.specs.Course.{opening_course}
use Rattle.lb_core.specs.OfTrace.{rows_drawn}
use Rattle.lb_ticket.specs.Facts.{HasFact}
use Rattle.lb_ticket.specs.Seats.{BookIs, NoteIs, Numbered, SeatIs}
use Rattle.lb_ticket.specs.Tickets.{pair}
use Rattle.lb_journal.specs.Journal.{Journal, Left, replay}
use Rattle.lb_journal.specs.Known.{KnowsRest}
use Rattle.lb_journal.specs.Merge.{closing_out, is_end, queue_list}
use Rattle.lb_journal.specs.Owners.{InAll, ReadsAll, SeatUses, lists_of, own_rows, published}
use Rattle.lb_board.specs.Board.{IsOfBoard, WriterIs}
use Rattle.lb_topub.specs.Versions.{VersionsSeen}
use Rattle.lb_cell.specs.Cells.{IsPlain}
use Rattle.lb_cell.specs.Kinds.{is_of_lane}
use Rattle.lb_cell.specs.LastEntries.{IsLast, fact_left}
use Rattle.lb_cell.specs.Reads.{SawAll}
use Rattle.lb_end.specs.Ends.{IsFirstCourse, KnowsLast}
use Rattle.lb_lane.specs.Lanes.{LaneIs}
use Rattle.lb_lane.specs.Publishers.{PublisherKeeps}

-- ---- one by one
-- what is left of the cell of a CPU
pub record LeftCell (h : Header) (book : TableId) (board : List TableId) (cpu : ℕ) (q : BookedQueue) (s : SeatIs Journal)
    (w : WriterIs) : Type 0 where
  pub table : s.table ≡ book
  pub number : s.number ≡ 17 + cpu
  pub plain : All (IsPlain h) s.list
  pub replayed : q.state ≡ replay h cpu (map pair s.list)
  pub cpu_is : w.cpu ≡ cpu
  pub of_board : IsOfBoard board w
  pub figures : w.figures ≡ published h cpu (map pair s.list)

-- the note that is left of a lane: that of lane 0
pub record LeftNote (book : TableId) (left : Coded Left) (cpus lane : ℕ) (l : LaneIs) (note : Option NoteIs) : Type 0 where
  pub first : lane ≡ 0 → IsLast book left cpus 0 l.side.course l.side.known.ticket note

-- what is left of a lane: its seat
pub record LeftLane (h : Header) (book : TableId) (board : List TableId) (versions : Book) (code : Coded Journal)
    (left : Coded Left) (lane : ℕ) (l : LaneIs) (s : SeatIs Journal) : Type 0 where
  pub table : s.table ≡ book
  pub number : s.number ≡ 1 + lane
  pub list : s.list ≡ l.side.seat.list
  pub read : s.read ≡ l.side.seat.read
  pub headers : All (λ d. d.item.header ≡ h) s.list
  pub own : All (λ d. is_of_lane d.item.entry.what ≡ true) s.list
  pub rows : rows_drawn (map (λ d. d.item.entry) s.list) ≡ take l.side.course.rows l.rows
  pub uses : SeatUses h code s
  pub last : KnowsLast left (length h.cpus) lane l.side.course l.side.known.ticket s
  pub course : IsFirstCourse h l.side.course
  -- what its reader and its looker saw
  pub cells : l.side.known.reader.cells ≡ board
  pub sizes : length l.side.known.reader.seen ≡ length board
  pub saw : SawAll l.side.known.reader s.list
  pub versions_are : l.looker.book ≡ versions

-- ---- as the lanes left it
-- the lane has a seat with its list and with what it read, whose rows are the first so many of its own; it knows how the lane was left
pub record LaneIsLeft (left : Coded Left) (seats : List (SeatIs Journal)) (lane : ℕ) (l : LaneIs) : Type 0 where
  pub seat : SeatIs Journal
  pub there : slice_get seats (lane + 1) ≡ Some seat
  pub list : seat.list ≡ l.side.seat.list
  pub read : seat.read ≡ l.side.seat.read
  pub rows : own_rows (lists_of seats) lane ≡ take l.side.course.rows l.rows
  pub rest : 1 ≤ lane → l.side.course.form ≡ Rest → (seat.list ≡ [] → ⊥) → KnowsRest left (seat.fresh ++ seat.known) lane

-- what was published up to the end, of which each lane's looker saw a beginning; the publisher's list has a `pub` of each
-- version but the first
pub record VersionsAreSeen (h : Header) (book : TableId) (versions : Book) (seats : List (SeatIs Journal))
    (lookers : List VersionsSeen) : Type 0 where
  pub topologies : List DomainsWithin
  pub seat : SeatIs Journal
  pub there : slice_get seats 0 ≡ Some seat
  pub kept : PublisherKeeps h book versions (record {
    publisher = record { book = versions; topologies = topologies };
    seat = seat;
  })
  pub seen : All (λ l. IsPrefix l.topologies topologies) lookers
