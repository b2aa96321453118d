-- For `draws_kick` of src/stage.rt: whether a kick is due.
use Rattle.lb_judge.proofs.Undrawn.{kick_undrawn}
use Rattle.lb_judge.proofs.stage.draws_kick.Goals as goal

pub returns-in_default : goal.returns-in_default
returns-in_default c = λ h q lane r. kick_undrawn _ h c.args.course.now q lane r c.in_default.not-Kicking
