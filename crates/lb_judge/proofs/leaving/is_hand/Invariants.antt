-- The loops of `is_hand` of src/leaving.rt: whether these are the tasks in the hand, in their order.
use Rattle.std.proofs.Common.{◌≡◌, drop}
use Rattle.lb_queue.specs.Tasks.{ids}
use Rattle.lb_core.specs.Same.{same_numbers}
use Rattle.lb_judge.proofs.leaving.is_hand.Given as goal

abbrev pub invariant-loop-i : goal.invariant-loop-i
invariant-loop-i l = same_numbers l.tasks (ids l.course.hand) ≡ same_numbers (drop l.i l.tasks) (drop l.i (ids l.course.hand))
