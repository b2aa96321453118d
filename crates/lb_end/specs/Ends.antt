-- A machine whose lanes are done, out of its locks: the seats of all owners with their lists, the queues, and of each
-- lane its course and its last ticket. Of the lists it keeps what their merge asks of the owners, but for the closing.
-- Cited by the contracts of `Ended::new`, `Ended::keeps`, `Ended::close` and others; also by `lb_cpu` and
-- `lb_threads`.
use Rattle.std.specs.Prelude.{ℕ, Option, ◌≤◌, ◌≡◌, ◌+◌, ◌<◌, false, List, [], Some, length, map, slice_get, All}
use base.Stored.{Coded}
use Rattle.atomic_table.specs.Seated.{TableId}
use Rattle.lb_queue.specs.Queue.{BookedQueue}
use Rattle.lb_trace.specs.declared.trace.Header.{Header}
use Rattle.lb_trace.specs.Accepted.{IsHeader}
use Rattle.lb_core.specs.declared.course.Course.{Course}
use Rattle.lb_core.specs.Course.{opening_course}
use Rattle.lb_ticket.specs.Facts.{HasFact}
use Rattle.lb_ticket.specs.Seats.{BookIs, NoteIs, Numbered, SeatIs}
use Rattle.lb_ticket.specs.Tickets.{pair}
use Rattle.lb_journal.specs.Journal.{Journal, Left, replay}
use Rattle.lb_journal.specs.Merge.{closing_out, is_end, queue_list}
use Rattle.lb_journal.specs.Owners.{InAll, ReadsAll, SeatUses, lists_of}
use Rattle.lb_cell.specs.Cells.{IsQuiet}
use Rattle.lb_cell.specs.LastEntries.{IsLast, fact_left}

-- of a lane whose last entry has this ticket and left this course, the seat knows the fact of that entry; ticket 0 says that
-- the lane drew none. Of lane 0 no seat knows it: its note is kept for the entry that closes the history first
pub record KnowsLast (left : Coded Left) (cpus lane : ℕ) (course : Course) (ticket : ℕ) (s : SeatIs Journal) : Type 0 where
  pub none : ticket ≡ 0 → (s.list ≡ []) × (course ≡ opening_course cpus)
  pub some : 1 ≤ lane → 0 < ticket → HasFact (fact_left left lane course ticket) s.known

-- what a caller sees
pub record EndedIs : Type 0 where
  pub header : Header
  pub book : BookIs
  pub seats : List (SeatIs Journal)
  pub queues : List BookedQueue
  pub courses : List Course
  pub tickets : List ℕ
  pub notes : List (Option NoteIs)

-- what the owners keep of their lists: one header, the versions that they use were read, and the figures that they name
-- were published
pub record KeptLists (h : Header) (code : Coded Journal) (seats : List (SeatIs Journal)) : Type 0 where
  pub headers : All (λ s. All (λ d. d.item.header ≡ h) s.list) seats
  pub uses : All (SeatUses h code) seats
  pub figures : All (λ s. All (ReadsAll h (lists_of seats)) s.list) seats

-- each queue is the replay of its list
abbrev pub AreReplays : Header → List (SeatIs Journal) → List BookedQueue → Type 0
AreReplays h seats queues =
    (cpu : ℕ) (q : BookedQueue) → slice_get queues cpu ≡ Some q → q.state ≡ replay h cpu (queue_list (lists_of seats) cpu)

-- the note of lane 0, where its last entry has this ticket and left this course, before any other note
abbrev pub HoldsFirst : TableId → Coded Left → ℕ → List Course → List ℕ → List (Option NoteIs) → Type 0
HoldsFirst book left cpus courses tickets notes =
    (c : Course) (t : ℕ) (note : Option NoteIs) → slice_get courses 0 ≡ Some c → slice_get tickets 0 ≡ Some t →
    slice_get notes 0 ≡ Some note → IsLast book left cpus 0 c t note

-- such a course may be lane 0's: it has a number for each CPU, and at rest nothing is in service
abbrev pub IsFirstCourse : Header → Course → Type 0
IsFirstCourse h c = (length c.named ≡ length h.cpus) × IsQuiet c

-- each lane's seat knows the fact of its last entry
abbrev pub KnowLasts : Coded Left → ℕ → List Course → List ℕ → List (SeatIs Journal) → Type 0
KnowLasts left cpus courses tickets seats =
    (lane : ℕ) (c : Course) (t : ℕ) (s : SeatIs Journal) → slice_get courses lane ≡ Some c →
    slice_get tickets lane ≡ Some t → slice_get seats (lane + 1) ≡ Some s → KnowsLast left cpus lane c t s

pub record EndedKeeps (h : Header) (book : TableId) (code : Coded Journal) (left : Coded Left) (e : EndedIs) : Type 0 where
  pub header_is : e.header ≡ h
  pub accepted : IsHeader h
  pub book_is : e.book.table ≡ book
  pub numbered : Numbered e.book.table 0 e.seats
  pub owners : e.book.owners ≡ 17 + length h.cpus
  pub all_seats : length e.seats ≡ e.book.owners
  pub all_queues : length e.queues ≡ length h.cpus
  pub all_courses : length e.courses ≡ h.lanes
  pub all_tickets : length e.tickets ≡ h.lanes
  pub all_notes : length e.notes ≡ h.lanes
  pub lists : KeptLists h code e.seats
  pub replays : AreReplays h e.seats e.queues
  pub lasts : KnowLasts left (length h.cpus) e.courses e.tickets e.seats
  -- lane 0, which closes the history: its course, and the note of its last entry
  pub quiet : (c : Course) → slice_get e.courses 0 ≡ Some c → IsFirstCourse h c
  pub first : HoldsFirst book left (length h.cpus) e.courses e.tickets e.notes

-- nothing closes yet
abbrev pub NothingCloses : List (SeatIs Journal) → Type 0
NothingCloses seats = InAll (λ d. (closing_out d.item ≡ false) × (is_end d.item.entry.what ≡ false)) (lists_of seats)
