-- For `draws_close` of src/stage.rt: whether the position in work closes.
use Rattle.lb_judge.proofs.Undrawn.{close_undrawn}
use Rattle.lb_judge.proofs.stage.draws_close.Goals as goal

pub returns-in_default : goal.returns-in_default
returns-in_default c = λ q lane p w i f. close_undrawn _ c.args.engine.now.machine.header c.args.course.now q lane p w
    i f c.in_default.not-Looked c.in_default.not-Landed
