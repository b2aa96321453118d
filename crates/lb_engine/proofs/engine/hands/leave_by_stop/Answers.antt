-- For `leave_by_stop` of src/engine/hands.rt: the task of the next stop request leaves, of the owed requests
-- only if asked.
use Rattle.std.proofs.Common.{sym, ◌∙◌}
use Rattle.lb_engine.proofs.Leaving.{left_by_stop}
use Rattle.lb_engine.proofs.engine.hands.leave_by_stop.Goals as goal

pub returns-in-Some-clause-left : goal.returns-in-Some-clause-left
returns-in-Some-clause-left c =
    left_by_stop _ c.in-Some.stop _ _ _ _ _
    (sym c.next_stop.ensures.value ∙ c.in-Some.is) c.requires.empty c.take_stop.ensures.step c.take_stop.ensures.hand
