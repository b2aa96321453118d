-- The loops of `first_misfit` of src/rows.rt: the first row that is missing, too many or of the wrong size.
use Rattle.std.proofs.Common.{◌≡◌, ℕ, ◌<◌, false}
use Rattle.lb_levels.specs.Faults.{is_misfit}
use Rattle.lb_levels.proofs.rows.first_misfit.Given as goal

abbrev pub invariant-loop-a : goal.invariant-loop-a
invariant-loop-a l = (k : ℕ) → k < l.a → is_misfit l.nodes l.distances k ≡ false
