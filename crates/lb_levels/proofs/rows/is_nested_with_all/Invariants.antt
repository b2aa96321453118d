-- The loops of `is_nested_with_all` of src/rows.rt: whether the nodes within distance `d` of node `a` are
-- nested with those of each node.
use Rattle.std.proofs.Common.{◌≡◌, ℕ, ◌<◌, true}
use Rattle.lb_levels.specs.Rows.{are_nested}
use Rattle.lb_levels.proofs.rows.is_nested_with_all.Given as goal

abbrev pub invariant-loop-b : goal.invariant-loop-b
invariant-loop-b l = (k : ℕ) → k < l.b → are_nested l.distances l.d l.a k ≡ true
