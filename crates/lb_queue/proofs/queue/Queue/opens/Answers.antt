-- For `Queue::opens` of src/queue/turns.rt: what [`Queue::turn`] with these arguments would answer.
use Rattle.std.proofs.Common.{◌∙◌, sym, ap, is_some}
use Rattle.lb_queue.specs.Queue.{BookedQueue}
use Rattle.lb_queue.proofs.Opening.{opens_not, opens_so}
use Rattle.lb_queue.proofs.queue.Queue.opens.Goals as goal

pub returns-in-Some : goal.returns-in-Some
returns-in-Some c =
    opens_not c.args.self.now.state c.args.at c.args.kind c.args.version c.args.shapes.now
    (sym (ap (λ (b : BookedQueue). is_some b.state.open_turn) c.self.view_is) ∙ ap is_some c.in-Some.is)

pub returns-in-None : goal.returns-in-None
returns-in-None c =
    opens_so c.args.self.now.state c.args.at c.args.kind c.args.version c.args.shapes.now c.positions.result
    (sym (ap (λ (b : BookedQueue). is_some b.state.open_turn) c.self.view_is) ∙ ap is_some c.in-None.is) c.positions.ensures
