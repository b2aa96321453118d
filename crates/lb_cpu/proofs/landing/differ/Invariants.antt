-- The loops of `differ` of src/landing.rt: whether the ids of the tasks differ.
use Rattle.std.proofs.Common.{length}
use Rattle.lb_cpu.proofs.Differing.{Differ}
use Rattle.lb_cpu.proofs.landing.differ.Given as goal

abbrev pub invariant-loop-task : goal.invariant-loop-task
invariant-loop-task l = Differ l.rest → Differ l.fn.tasks

abbrev pub decreases-loop-task : goal.decreases-loop-task
decreases-loop-task l = length l.rest
