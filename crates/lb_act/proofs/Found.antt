-- A turn finds as many counters as its CPU has domains: those that are kept of the version, or fresh ones.
-- For `open_turn`.
use Rattle.std.proofs.Common.{ℕ, ◌≡◌, Option, Some, None, List, length, sym, inl, inr}
use Rattle.std.proofs.lemmas.List.{length-map}
use Rattle.std.proofs.lemmas.Bool.{cases_eq, eq-eqb, ne_eqb}
use Rattle.lb_base.specs.declared.shape.Shape.{Shape}
use Rattle.lb_interval.specs.declared.Counters.{Counters}
use Rattle.lb_queue.specs.Queue.{QueueState, clock_at, milliseconds}
use Rattle.lb_queue.specs.Turns.{counters_found, counters_or_fresh, fresh_at, FitCounters}
use Rattle.std.specs.Prelude.{MatchOption}

or_fresh : (cs : Option (List Counters)) (shapes : List Shape)
    → MatchOption cs (Unit {0}) (λ cs. length shapes ≡ length cs) → length (counters_or_fresh cs shapes) ≡ length shapes
or_fresh None shapes fit = length-map shapes (fresh_at 0)
or_fresh (Some cs) shapes fit = sym fit

pub found_length : (q : QueueState) (at version : ℕ) (shapes : List Shape) → FitCounters q version shapes
    → length (counters_found q at version shapes) ≡ length shapes
unfolding counters_found
found_length q at version shapes fit = elim (cases_eq version q.version) [
  | inl e ↦ rw (eq-eqb version q.version e) (or_fresh q.counters shapes (fit e))
  | inr d ↦ rw (ne_eqb version q.version d) (length-map shapes (fresh_at (milliseconds (clock_at q at))))
]
