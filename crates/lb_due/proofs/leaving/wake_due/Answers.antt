-- For `wake_due` of src/leaving.rt: the wake that is due elsewhere.
use Rattle.std.proofs.Common.{rules, sym}
use Rattle.lb_due.proofs.Outgoing.{wake_is}
use Rattle.lb_due.proofs.leaving.wake_due.Goals as goal

pub returns-in_ok-from_slice-in-Some : goal.returns-in_ok-from_slice-in-Some
returns-in_ok-from_slice-in-Some c = λ at. wake_is c.args.command.now c.args.queue.now.state at c.in-Some-Wake.task _
    _ (search rules) (sym c.in-Some.ensures) c.in_ok-from_slice-in-Some.ensures
