-- For `taken_may_run` of src/laws.rt: each task that leaves by a call may run where it goes.
use Rattle.lb_queue.proofs.Allowed.{taken_may_run}
use Rattle.lb_queue.proofs.laws.taken_may_run.Goals as goal

pub returns : goal.returns
returns c = taken_may_run c.picked_is_sound.ensures
