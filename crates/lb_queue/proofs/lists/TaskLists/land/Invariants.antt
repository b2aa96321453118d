-- The loops of `TaskLists::land` of src/lists.rt: tasks land, one after the other, for which landings are
-- booked.
use Rattle.std.proofs.Common.{vec_len}
use Rattle.lb_queue.proofs.Landing.{IsLanding}
use Rattle.lb_queue.proofs.lists.TaskLists.land.Given as goal

abbrev pub invariant-loop-tasks : goal.invariant-loop-tasks
invariant-loop-tasks l = IsLanding l.clock l.fn.self l.fn.tasks.items l.self l.tasks.items

abbrev pub decreases-loop-tasks : goal.decreases-loop-tasks
decreases-loop-tasks l = vec_len l.tasks
