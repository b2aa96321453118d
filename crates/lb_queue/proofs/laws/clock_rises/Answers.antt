-- For `clock_rises` of src/laws.rt: the clock never falls, whatever calls are made.
use Rattle.lb_queue.proofs.Reached.{clock_rises}
use Rattle.lb_queue.proofs.laws.clock_rises.Goals as goal

pub returns : goal.returns
returns c = clock_rises
