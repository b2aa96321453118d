-- For `out_of_queue` of src/leaving.rt: what is to leave the queue, if anything is due there.
use Rattle.std.proofs.Common.{rules}
use Rattle.lb_due.proofs.Outgoing.{served_stop}
use Rattle.lb_due.proofs.leaving.out_of_queue.Goals as goal

pub returns-in-Some : goal.returns-in-Some
returns-in-Some c =
    rw (served_stop _ c.args.engine.now.machine.header c.args.course.now c.args.queue.now.state _ c.in-Serving.is
    c.in-Some.ensures.value)
    (search rules)
