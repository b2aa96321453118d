-- The loops of `are_same` of src/leaving.rt: whether two lists of ids are equal.
use Rattle.std.proofs.Common.{◌≡◌, drop}
use Rattle.lb_core.specs.Same.{same_numbers}
use Rattle.lb_judge.proofs.leaving.are_same.Given as goal

abbrev pub invariant-loop-i : goal.invariant-loop-i
invariant-loop-i l = same_numbers l.one l.other ≡ same_numbers (drop l.i l.one) (drop l.i l.other)
