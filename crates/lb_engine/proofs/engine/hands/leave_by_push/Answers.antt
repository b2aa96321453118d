-- For `leave_by_push` of src/engine/hands.rt: a task leaves by the active request, if one is pending.
use Rattle.std.proofs.Common.{sym, ◌∙◌}
use Rattle.lb_engine.proofs.Leaving.{push_goes, left_by_push}
use Rattle.lb_engine.proofs.engine.hands.leave_by_push.Goals as goal

pub returns-in-Some-clause-left : goal.returns-in-Some-clause-left
returns-in-Some-clause-left c =
    left_by_push _ c.args.hand.now.to _ _ _ _ _
    (push_goes _ c.in-Some.field-0 c.args.at c.args.queue.now.state _ (sym c.active.ensures ∙ c.in-Some.is) c.requires.goes)
    c.requires.empty c.take_push-pushed.ensures.step c.take_push-pushed.ensures.hand
