-- For `breaks_figure` of src/figures.rt: whether the entry breaks the rule `figure`.
use Rattle.lb_judge.proofs.Staged.{staged_look, staged_look_due, staged_scan, staged_scan_due}
use Rattle.lb_judge.proofs.figures.breaks_figure.Goals as goal

pub are_wrong-requires-clause-turn : goal.are_wrong-requires-clause-turn
are_wrong-requires-clause-turn c = rw c.course-course.ensures
    (staged_look c.args.engine.now.machine c.args.entry.now _ _ _ _ c.requires.ready c.requires.stage c.in-Look.is).turn

pub are_wrong-requires-clause-due : goal.are_wrong-requires-clause-due
are_wrong-requires-clause-due c = rw c.course-course.ensures
    (staged_look_due c.args.engine.now.machine c.args.entry.now _ _ _ _ c.requires.ready c.requires.stage c.in-Look.is)

pub are_wrong-requires-in-Scan-clause-turn : goal.are_wrong-requires-in-Scan-clause-turn
are_wrong-requires-in-Scan-clause-turn c =
    rw c.course-course.ensures (staged_scan c.args.engine.now.machine c.args.entry.now _ _ c.requires.ready
    c.requires.stage c.in-Scan.is)

pub are_wrong-requires-in-Scan-clause-due : goal.are_wrong-requires-in-Scan-clause-due
are_wrong-requires-in-Scan-clause-due c =
    rw c.course-course.ensures (staged_scan_due c.args.engine.now.machine c.args.entry.now _ _ c.requires.ready
    c.requires.stage c.in-Scan.is)
