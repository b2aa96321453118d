-- The loops of `least_asked` of src/stops.rt: the least id of the tasks that are asked to leave.
use Rattle.std.proofs.Common.{take}
use Rattle.lb_queue.specs.Lists.{IsLeastAsked}
use Rattle.lb_queue.proofs.stops.least_asked.Given as goal

abbrev pub invariant-loop-a : goal.invariant-loop-a
invariant-loop-a l = IsLeastAsked l.owed (take l.a-index l.awake) l.least
