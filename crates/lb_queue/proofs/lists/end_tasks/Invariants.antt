-- The loops of `end_tasks` of src/lists.rt: the tasks of a list end.
use Rattle.std.proofs.Common.{vec_len}
use Rattle.lb_queue.proofs.lists.end_tasks.Given as goal

abbrev pub decreases-loop-task : goal.decreases-loop-task
decreases-loop-task l = vec_len l.tasks
