-- The loops of `is_inside` of src/rows.rt: whether each node within distance `d` of `a` is within it of `b`.
use Rattle.std.proofs.Common.{◌≡◌, ℕ, ◌<◌, ◌||◌, not, true}
use Rattle.lb_levels.specs.Rows.{is_within}
use Rattle.lb_levels.proofs.rows.is_inside.Given as goal

abbrev pub invariant-loop-node : goal.invariant-loop-node
invariant-loop-node l = (k : ℕ) → k < l.node → (not (is_within l.distances l.d l.a k) || is_within l.distances l.d l.b k) ≡ true
