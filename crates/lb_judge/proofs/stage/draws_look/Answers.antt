-- For `draws_look` of src/stage.rt: whether a look is due at the position in work.
use Rattle.lb_judge.proofs.Undrawn.{look_undrawn}
use Rattle.lb_judge.proofs.stage.draws_look.Goals as goal

pub returns-in_default : goal.returns-in_default
returns-in_default c = λ q lane p x names d. look_undrawn _ c.args.engine.now.machine.header c.args.course.now q lane p
    x names d c.in_default.not-Position c.in_default.not-Landed
