-- The loops of `is_nested_at` of src/rows.rt.
use Rattle.std.proofs.Common.{◌≡◌, ℕ, ◌<◌, length, true}
use Rattle.std.specs.List.{range_with_len, list_all}
use Rattle.lb_levels.specs.Rows.{are_nested}
use Rattle.lb_levels.proofs.rows.is_nested_at.Given as goal

abbrev pub invariant-loop-a : goal.invariant-loop-a
invariant-loop-a l =
    (k : ℕ) → k < l.a → list_all (are_nested l.distances l.d k) (range_with_len 0 (length l.distances)) ≡ true
