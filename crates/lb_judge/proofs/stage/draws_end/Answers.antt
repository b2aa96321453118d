-- For `draws_end` of src/stage.rt: whether the history may end.
use Rattle.lb_judge.proofs.Undrawn.{end_undrawn}
use Rattle.lb_judge.proofs.stage.draws_end.Goals as goal

pub returns-in_default : goal.returns-in_default
returns-in_default c = λ h c' q cpus. end_undrawn _ h c' q c.args.lane cpus c.in_default.not-Rest
