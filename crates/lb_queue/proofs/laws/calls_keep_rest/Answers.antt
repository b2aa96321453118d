-- For `calls_keep_rest` of src/laws.rt: a queue stays that of its CPU and its machine.
use Rattle.lb_queue.proofs.Resting.{calls_keep_rest}
use Rattle.lb_queue.proofs.laws.calls_keep_rest.Goals as goal

pub returns : goal.returns
returns c = calls_keep_rest
