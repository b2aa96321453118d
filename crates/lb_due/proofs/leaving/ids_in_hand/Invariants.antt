-- The loops of `ids_in_hand` of src/leaving.rt: the ids of the tasks in the hand, in their order.
use Rattle.std.proofs.Common.{◌≡◌, take}
use Rattle.lb_queue.specs.Tasks.{ids}
use Rattle.lb_due.proofs.leaving.ids_in_hand.Given as goal

abbrev pub invariant-loop-task : goal.invariant-loop-task
invariant-loop-task l = l.list ≡ take l.task-index (ids l.course.hand)
