-- The loops of `load_all` of src/queue/hands.rt: tasks that wait leave in a hand, one after the other.
use Rattle.std.proofs.Common.{take}
use Rattle.lb_queue.proofs.Taking.{IsTaking}
use Rattle.lb_queue.proofs.queue.hands.load_all.Given as goal

abbrev pub invariant-loop-id : goal.invariant-loop-id
invariant-loop-id l = IsTaking l.cpu l.clock (take l.id-index l.ids) l.fn.lists l.fn.hand l.lists l.hand
