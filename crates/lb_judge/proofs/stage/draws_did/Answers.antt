-- For `draws_did` of src/stage.rt: whether a queue's answer is due.
use Rattle.lb_judge.proofs.Undrawn.{did_undrawn}
use Rattle.lb_judge.proofs.stage.draws_did.Goals as goal

pub returns-in_default : goal.returns-in_default
returns-in_default c = λ h q lane r. did_undrawn _ h c.args.course.now q lane r c.in_default.not-Asked
