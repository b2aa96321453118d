-- The loops of `zeros` of src/opening.rt: so many zeros.
use Rattle.std.proofs.Common.{◌≡◌, replicate}
use Rattle.lb_course.proofs.opening.zeros.Given as goal

abbrev pub invariant-loop : goal.invariant-loop
invariant-loop l = l.numbers ≡ replicate l.counter 0
