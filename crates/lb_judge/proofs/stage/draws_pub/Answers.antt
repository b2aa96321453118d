-- For `draws_pub` of src/stage.rt: whether a publication is due.
use Rattle.lb_judge.proofs.Undrawn.{pub_undrawn}
use Rattle.lb_judge.proofs.stage.draws_pub.Goals as goal

pub returns-in_default : goal.returns-in_default
returns-in_default c = λ h q lane v. pub_undrawn _ h c.args.course.now q lane v c.in_default.not-Asked
