-- The least member of a mask, the counters that a turn finds, and its positions, which are those of
-- domains.
-- For the lemmas of `Turning` and `Turns`, and so for the laws `turns_fit`, `turns_stay_open` and others; cited by
-- `lb_service` too.
use Rattle.std.proofs.Common.{◌≡◌, ℕ, ◌<◌, Bool, true, false, cond, ◌==◌, ◌&&◌, ltb, List, length, map, Option, Some, None, MatchOption, refl, sym, arith}
use Rattle.std.specs.List.{range_with_len}
use Rattle.std.proofs.lemmas.Bool.{and_parts, ltb-true, eqb-true}
use Rattle.std.proofs.lemmas.List.{length-map}
use Rattle.lb_base.specs.declared.mask.Mask.{Mask}
use Rattle.lb_base.specs.declared.shape.Kind.{Kind}
use Rattle.lb_base.specs.declared.shape.Shape.{Shape}
use Rattle.lb_base.specs.Mask.{has}
use Rattle.lb_base.specs.Sets.{least, least_above}
use Rattle.lb_interval.specs.declared.Counters.{Counters}
use Rattle.lb_queue.specs.Queue.{QueueState, clock_at, milliseconds}
use Rattle.lb_queue.specs.Turns.{fresh_at, counters_or_fresh, counters_found, positions_found}
use Rattle.lb_queue.proofs.Opening.{positions_within}
use Rattle.lb_queue.proofs.Counts.{found}

-- ---- members of masks
pub least_has : (m : Mask) (p : ℕ) → least m ≡ Some p → has m p ≡ true
unfolding least
least_has m p e = (found (has m) (λ k. k) (range_with_len 0 64) p e).passes

pub above_has : (m : Mask) (cpu p : ℕ) → least_above m cpu ≡ Some p → (cpu < p) × (has m p ≡ true)
unfolding least_above
above_has m cpu p e = let k = and_parts (ltb cpu p) (has m p)
    (found (λ (k : ℕ). ltb cpu k && has m k) (λ k. k) (range_with_len 0 64) p e).passes in (ltb-true cpu p k.0, k.1)

-- ---- counters
-- counters of the queue's version are as many as its shapes
abbrev pub AreMany : Option (List Counters) → ℕ → Type 0
AreMany None n = Unit {0}
AreMany (Some cs) n = length cs ≡ n

fresh_many : (o : Option (List Counters)) (shapes : List Shape) → AreMany o (length shapes)
    → length (counters_or_fresh o shapes) ≡ length shapes
fresh_many None shapes h = length-map shapes (fresh_at 0)
fresh_many (Some cs) shapes h = h

pub found_many : (q : QueueState) (at version : ℕ) (shapes : List Shape)
    → (version ≡ q.version → AreMany q.counters (length shapes)) → length (counters_found q at version shapes) ≡ length shapes
unfolding counters_found
found_many q at version shapes h = by_version (version == q.version) refl
  where
    by_version : (b : Bool) → (version == q.version) ≡ b
        → length (cond b (counters_or_fresh q.counters shapes) (map (fresh_at (milliseconds (clock_at q at))) shapes)) ≡
        length shapes
    by_version true e = fresh_many q.counters shapes (h (eqb-true version q.version e))
    by_version false e = length-map shapes (fresh_at (milliseconds (clock_at q at)))

as_many : (o : Option (List Counters)) (shapes : List Shape) → AreMany o (length shapes)
    → MatchOption o (Unit {0}) (λ cs. length shapes ≡ length cs)
as_many None shapes h = tt
as_many (Some cs) shapes h = sym h

pub positions_below : (q : QueueState) (at : ℕ) (k : Kind) (version p : ℕ) (shapes : List Shape)
    → (version ≡ q.version → AreMany q.counters (length shapes)) → has (positions_found q at k version shapes) p ≡ true
    → p < length shapes
positions_below q at k version p shapes many h =
    let w = positions_within q at k version shapes p (λ same. as_many q.counters shapes (many same)) h in
    let l = found_many q at version shapes many in
    omega arith
