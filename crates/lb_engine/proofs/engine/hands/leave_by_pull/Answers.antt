-- For `leave_by_pull` of src/engine/hands.rt: tasks leave by a pull, if one is due.
use Rattle.std.proofs.Common.{Some, ap}
use Rattle.lb_queue.specs.declared.answers.Taken.{Taken}
use Rattle.lb_engine.proofs.Leaving.{left_by_pull}
use Rattle.lb_engine.proofs.engine.hands.leave_by_pull.Goals as goal

pub returns-in-Some-clause-left : goal.returns-in-Some-clause-left
returns-in-Some-clause-left c =
    left_by_pull _ c.in-Some.env _ _ _ _ _ _ c.in-Some.is c.requires.empty c.take.ensures.step c.take.ensures.hand
    (ap (λ (t : Taken). Some t) c.take.ensures.answer)
