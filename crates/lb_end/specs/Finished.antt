-- The entries that close a history: what has been drawn once the pending stop requests are served and the end stands.
-- Cited by the contracts of `Ended::finish`, `Ended::serve_all`, `Ended::move_task` and `Ended::serve`; also by
-- `lb_threads`.
use Rattle.std.specs.Prelude.{ℕ, ◌≡◌, ◌+◌, ◌<◌, ◌≤◌, ◌++◌, [], ◌∷◌, Some, List, slice_get, All}
use mathlib.Core.List.{IsPrefix}
use Rattle.std.specs.List.{slice_index_or}
use Rattle.lb_base.specs.declared.mask.Mask.{Mask}
use Rattle.lb_trace.specs.declared.trace.Header.{Header}
use Rattle.lb_core.specs.declared.course.Course.{Course}
use Rattle.lb_core.specs.declared.course.Form.TheVariants.{Rest}
use Rattle.lb_core.specs.declared.entry.What.TheVariants.{End}
use Rattle.lb_ticket.specs.declared.item.Drawn.{Drawn}
use Rattle.lb_ticket.specs.Seats.{SeatIs}
use Rattle.lb_journal.specs.Journal.{Journal}
use Rattle.lb_journal.specs.Owners.{ClosesFrom, lists_of, own_rows}
use Rattle.lb_end.specs.Ends.{EndedIs}

-- each lane is at rest
abbrev pub AllRest : List Course → Type 0
AllRest courses = All (λ c. c.form ≡ Rest) courses

-- lane 0's list has one item more: the end, with these CPUs
pub record DrewEnd (e e' : EndedIs) (unserved : Mask) : Type 0 where
  pub seat : SeatIs Journal
  pub seat' : SeatIs Journal
  pub before : slice_get e.seats 1 ≡ Some seat
  pub after : slice_get e'.seats 1 ≡ Some seat'
  pub item : Drawn Journal
  pub list : seat'.list ≡ seat.list ++ item ∷ []
  pub what : item.item.entry.what ≡ End unserved

-- the entries after a ticket close the history, and its end says that the active requests of these CPUs are
-- unserved
pub record Finished (h : Header) (e e' : EndedIs) (unserved : Mask) : Type 0 where
  pub cut : ℕ
  pub closing : ClosesFrom h (lists_of e'.seats) cut
  pub ended : DrewEnd e e' unserved
  -- each list goes on from what it was, and no row was taken up
  pub goes_on : (k : ℕ) → IsPrefix (slice_index_or (lists_of e.seats) k []) (slice_index_or (lists_of e'.seats) k [])
  pub rows : (lane : ℕ) → own_rows (lists_of e'.seats) lane ≡ own_rows (lists_of e.seats) lane
  -- what the seats of the other lanes drew and know is as it was
  pub others : (lane : ℕ) → 1 ≤ lane → lane < h.lanes → slice_get e'.seats (lane + 1) ≡ slice_get e.seats (lane + 1)
