-- The loops of `is_apart` of src/rows.rt: whether no node is within distance `d` of both.
use Rattle.std.proofs.Common.{◌≡◌, ℕ, ◌<◌, ◌&&◌, not, true}
use Rattle.lb_levels.specs.Rows.{is_within}
use Rattle.lb_levels.proofs.rows.is_apart.Given as goal

abbrev pub invariant-loop-node : goal.invariant-loop-node
invariant-loop-node l = (k : ℕ) → k < l.node → (not (is_within l.distances l.d l.a k && is_within l.distances l.d l.b k)) ≡ true
