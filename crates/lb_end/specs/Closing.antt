-- The closing of a history entry by entry: what is known between two entries of it, and how one leads to the next.
-- Cited by the contracts of `Ended::next_stop`, `Ended::serve_all`, `Ended::depart` and others.
use Rattle.std.specs.Prelude.{ℕ, ◌≡◌, ◌+◌, ◌-◌, ◌<◌, ◌≤◌, Option, List, find, length, slice_get}
use Rattle.std.specs.List.{range_with_len}
use mathlib.Core.List.{IsPrefix}
use Rattle.lb_queue.specs.Requests.{has_pending}
use Rattle.lb_trace.specs.declared.trace.Header.{Header}
use Rattle.lb_ticket.specs.Seats.{SeatIs}
use Rattle.lb_journal.specs.Journal.{Journal}
use Rattle.lb_journal.specs.Owners.{ClosesSoFar, InAll, lists_of, own_rows}
use Rattle.lb_end.specs.Ends.{EndedIs}
use Rattle.lb_end.specs.Seats.{list_at, next_at}
use Rattle.lb_end.specs.Drawing.{first_ticket, state_at}

-- the least CPU with a pending stop request
abbrev pub pending_now : Header → EndedIs → Option ℕ
pending_now h e = find (λ cpu. has_pending (state_at h e cpu)) (range_with_len 0 (length h.cpus))

-- the next ticket of lane 0's seat is above all that was drawn
abbrev pub StandsAbove : List (SeatIs Journal) → Type 0
StandsAbove seats = InAll (λ d. d.ticket < next_at seats 1) (lists_of seats)

-- the entries after the ticket `cut` close the history as far as they go; while lane 0 has drawn nothing there are none
pub record IsClosing (h : Header) (cut : ℕ) (e : EndedIs) : Type 0 where
  pub so_far : ClosesSoFar h (lists_of e.seats) cut
  pub above : StandsAbove e.seats
  pub late : cut ≤ next_at e.seats 1 - 1
  pub first : first_ticket e ≡ 0 → InAll (λ d. d.ticket ≤ cut) (lists_of e.seats)

-- what was drawn between two such states goes on from it: no list lost an item, no row was taken up, and the lists and what
-- the seats of the other lanes know are as they were
pub record GoesOn (h : Header) (e e' : EndedIs) : Type 0 where
  pub lists : (k : ℕ) → IsPrefix (list_at e.seats k) (list_at e'.seats k)
  pub rows : (lane : ℕ) → own_rows (lists_of e'.seats) lane ≡ own_rows (lists_of e.seats) lane
  pub others : (lane : ℕ) → 1 ≤ lane → lane < h.lanes → slice_get e'.seats (lane + 1) ≡ slice_get e.seats (lane + 1)

-- and if the entries before close the history as far as they go, so do those that were drawn; none is lane 0's own
pub record ClosesOn (h : Header) (e e' : EndedIs) : Type 0 where
  pub goes_on : GoesOn h e e'
  pub own : list_at e'.seats 1 ≡ list_at e.seats 1
  pub closing : (cut : ℕ) → IsClosing h cut e → IsClosing h cut e'
