-- One entry that lane 0 draws when all lanes are at rest: the `out` and the `in` of a stop request in a queue's list, and
-- the end in its own.
-- Cited by the contracts of `Ended::next_stop`, `Ended::wait_until_served`, `Ended::make_room` and others.
use Rattle.std.specs.Prelude.{ℕ, ◌≡◌, ◌+◌, ◌^◌, ◌<◌, ◌≤◌, true, false, Option, [], ◌∷◌, ◌++◌, map, length, slice_get, slice_set, All}
use Rattle.std.specs.List.{slice_index_or}
use base.Stored.{Coded}
use Rattle.atomic_table.specs.Seated.{TableId}
use Rattle.lb_queue.specs.declared.answers.Stop.{Stop}
use Rattle.lb_queue.specs.Queue.{QueueState, knows}
use Rattle.lb_trace.specs.declared.trace.Header.{Header}
use Rattle.lb_core.specs.declared.course.Course.{Course}
use Rattle.lb_core.specs.declared.entry.Owner.{Owner}
use Rattle.lb_core.specs.declared.entry.What.{What}
use Rattle.lb_core.specs.Course.{opening_course}
use Rattle.lb_journal.specs.Journal.{Journal, Left, replay}
use Rattle.lb_ticket.specs.declared.item.Drawn.{Drawn}
use Rattle.lb_ticket.specs.Seats.{NoteIs, SeatIs}
use Rattle.lb_ticket.specs.Tickets.{AllBelow, InLists}
use Rattle.lb_cell.specs.LastEntries.{DrewOne, IsLast}
use Rattle.lb_journal.specs.Owners.{lists_of, with_item}
use Rattle.lb_journal.specs.Merge.{queue_list, closing_out}
use Rattle.lb_end.specs.Ends.{EndedIs}
use Rattle.lb_end.specs.Seats.{list_at, next_at, spare_at}

-- ---- of lane 0
-- its course, and the ticket of its last entry
abbrev pub first_course : EndedIs → Course
first_course e = slice_index_or e.courses 0 (opening_course 0)

abbrev pub first_ticket : EndedIs → ℕ
first_ticket e = slice_index_or e.tickets 0 0

-- ---- of a queue
-- its state, which is the replay of its list, and how many landings are booked there
abbrev pub state_at : Header → EndedIs → ℕ → QueueState
state_at h e cpu = replay h cpu (queue_list (lists_of e.seats) cpu)

abbrev pub booked_at : EndedIs → ℕ → ℕ
booked_at e cpu = slice_index_or (map (λ q. q.booked) e.queues) cpu 0

-- ---- an entry
-- that of an owner, upon a course that it leaves as `after`, where the lane's last entry has this ticket
abbrev pub item_of : Header → Owner → Course → Course → ℕ → What → Journal
item_of h owner course after prev what = record {
  header = h;
  entry = record { owner = owner; lane = 0; prev = prev; what = what };
  course = course;
  after = after;
  masks = [];
  figs = [];
}

-- a seat drew it at a ticket, and the lane holds the note of it
pub record DrewItem (table : TableId) (code : Coded Left) (item : Journal) (s s' : SeatIs Journal) (ticket : ℕ)
    (note : Option NoteIs) : Type 0 where
  pub list : s'.list ≡ s.list ++ record { ticket = ticket; item = item } ∷ []
  pub seat : DrewOne s s'
  pub above : (s.next ≤ ticket) × AllBelow ticket s.list
  pub next : s'.next ≡ ticket + 1
  pub last : IsLast table code (length item.header.cpus) item.entry.lane item.after ticket note
  pub some : 0 < ticket

-- it was drawn at a ticket: the list of the owner has grown by it, and lane 0 holds it; the ticket is above all that the
-- owner drew, and not below its next one
pub record Drew (k : ℕ) (item : Journal) (e e' : EndedIs) : Type 0 where
  pub ticket : ℕ
  pub inside : k < length (lists_of e.seats)
  pub lists : lists_of e'.seats ≡ with_item (lists_of e.seats) k (record { ticket = ticket; item = item })
  pub others : (j : ℕ) → (j ≡ k → ⊥) → slice_get e'.seats j ≡ slice_get e.seats j
  pub nexts : (j : ℕ) → (j ≡ k → ⊥) → next_at e'.seats j ≡ next_at e.seats j
  pub spares : (j : ℕ) → (j ≡ k → ⊥) → spare_at e'.seats j ≡ spare_at e.seats j
  pub own : All (λ d. d.ticket < ticket) (list_at e.seats k)
  pub above : next_at e.seats k ≤ ticket
  pub next : next_at e'.seats k ≡ ticket + 1
  pub some : 0 < ticket
  pub quoted : item.entry.prev ≡ first_ticket e
  pub held : first_ticket e' ≡ ticket
  pub course : e'.courses ≡ slice_set e.courses 0 item.after

-- an `out` that closes the history is the last entry of lane 0
pub record HasLeft (e : EndedIs) : Type 0 where
  pub out : Drawn Journal
  pub there : InLists out (lists_of e.seats)
  pub ticket : out.ticket ≡ first_ticket e
  pub closes : closing_out out.item ≡ true

-- a stop request of a queue can be served: it goes to another CPU of the machine, whose queue does not know the task, and
-- both lists can take an entry more
pub record CanMove (h : Header) (e : EndedIs) (cpu : ℕ) (stop : Stop) : Type 0 where
  pub declared : stop.to < length h.cpus
  pub elsewhere : stop.to ≡ cpu → ⊥
  pub unknown : knows (state_at h e stop.to) stop.id ≡ false
  pub leaves : length (list_at e.seats (17 + cpu)) + 1 < 2 ^ 40
  pub lands : length (list_at e.seats (17 + stop.to)) + 1 < 2 ^ 40

-- and its landing can be booked
abbrev pub CanServe : Header → EndedIs → ℕ → Stop → Type 0
CanServe h e cpu stop = CanMove h e cpu stop × (booked_at e stop.to + 1 < 2 ^ 32)
