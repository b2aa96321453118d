-- For `least_asked` of src/stops.rt: the least id of the tasks that are asked to leave.
use Rattle.lb_queue.proofs.Leasts.{least_more}
use Rattle.lb_queue.proofs.stops.least_asked.Goals as goal

pub loop-a-preserved : goal.loop-a-preserved
loop-a-preserved c =
    least_more c.args.owed c.args.awake.now c.loop-a.a-index c.loop-a.least c.least_with-least.result c.a-item.result
    c.loop-a-test.true c.a-item.is c.least_with-least.ensures c.loop-a.invariant
