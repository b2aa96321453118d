-- The loops of `copy_of` of src/machine.rt.
use Rattle.std.proofs.Common.{◌≡◌, take}
use Rattle.lb_levels.proofs.machine.copy_of.Given as goal

abbrev pub invariant-loop-row : goal.invariant-loop-row
invariant-loop-row l = l.copy ≡ take l.row-index l.distances
