-- For `draws_use` of src/stage.rt: whether a version may be taken up for a turn of this kind of the CPU.
use Rattle.lb_judge.proofs.Undrawn.{use_undrawn}
use Rattle.lb_judge.proofs.stage.draws_use.Goals as goal

pub returns-in_default : goal.returns-in_default
returns-in_default c = λ h q lane v. use_undrawn _ h c.args.course.now q lane v c.args.kind c.args.cpu
    c.in_default.not-Serving c.in_default.not-Due
