-- For `breaks_decision` of src/figures.rt: whether the entry breaks the rule `decision`.
use Rattle.lb_judge.proofs.Staged.{staged_look}
use Rattle.lb_judge.proofs.figures.breaks_decision.Goals as goal

pub decision_among-requires-clause-position : goal.decision_among-requires-clause-position
decision_among-requires-clause-position c =
    rw c.course-course.ensures (staged_look c.args.engine.now.machine c.args.entry.now _ _ _ _ c.requires.ready
    c.requires.stage c.in-Look.is)
