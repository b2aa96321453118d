-- The loops of `first_not_nested` of src/rows.rt: the least distance at which the nodes are not nested.
use Rattle.std.proofs.Common.{◌≡◌, ℕ, ◌<◌, ◌&&◌, not, false}
use Rattle.lb_levels.specs.Rows.{is_entry, is_nested_at}
use Rattle.lb_levels.proofs.rows.first_not_nested.Given as goal

abbrev pub invariant-loop-d : goal.invariant-loop-d
invariant-loop-d l = (k : ℕ) → k < l.d → (is_entry l.distances k && not (is_nested_at l.distances k)) ≡ false
