-- For `draws_out` of src/stage.rt: whether tasks may leave the owner's queue.
use Rattle.lb_judge.proofs.Undrawn.{out_undrawn}
use Rattle.lb_core.specs.Machine.{owned_queue}
use Rattle.lb_judge.proofs.stage.draws_out.Goals as goal

pub returns-in_default : goal.returns-in_default
returns-in_default c = λ cause to ids. out_undrawn _ c.args.engine.now.machine.header c.args.course.now
    (owned_queue c.args.owner c.args.engine.now.machine) c.args.lane cause to ids c.in_default.not-Rest
    c.in_default.not-Asked c.in_default.not-Serving c.in_default.not-Looked
