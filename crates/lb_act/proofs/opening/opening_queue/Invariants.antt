-- The loops of `opening_queue` of src/opening.rt: the queue of a CPU before any entry: the tasks that are at
-- home there sleep.
use Rattle.std.proofs.Common.{◌≡◌, length, take}
use Rattle.lb_act.proofs.Declaring.{sleeping}
use Rattle.lb_act.proofs.opening.opening_queue.Given as goal

abbrev pub invariant-loop-id : goal.invariant-loop-id
invariant-loop-id l = l.queue ≡ sleeping l.cpu (length l.header.cpus) (take l.id l.header.tasks)
