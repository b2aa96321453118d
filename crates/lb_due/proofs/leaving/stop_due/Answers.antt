-- For `stop_due` of src/leaving.rt: the stop that is due.
use Rattle.std.proofs.Common.{sym}
use Rattle.lb_due.proofs.Outgoing.{stop_is}
use Rattle.lb_due.proofs.leaving.stop_due.Goals as goal

pub returns-in_ok-from_slice-in-Some : goal.returns-in_ok-from_slice-in-Some
returns-in_ok-from_slice-in-Some c = λ at. stop_is _ c.args.queue.now.state at c.in-Some.stop _
    (sym c.in-Some.ensures.value) c.in-Some.ensures.goes c.in_ok-from_slice-in-Some.ensures
