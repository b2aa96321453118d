-- For `leave_asleep` of src/engine/hands.rt: the task leaves, where it has to wake elsewhere.
use Rattle.std.proofs.Common.{sym, ◌∙◌}
use Rattle.lb_engine.proofs.Leaving.{left_asleep}
use Rattle.lb_engine.proofs.engine.hands.leave_asleep.Goals as goal

pub returns-in-Some-clause-left : goal.returns-in-Some-clause-left
returns-in-Some-clause-left c =
    left_asleep _ c.in-Some.field-0 _ _ _ _ _ _
    (sym c.away.ensures ∙ c.in-Some.is) c.requires.empty c.leave.ensures.step c.leave.ensures.hand
