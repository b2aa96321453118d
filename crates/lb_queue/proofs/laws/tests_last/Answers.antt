-- For `tests_last` of src/laws.rt: what holds of each task of a queue, by tests that neither time nor leaving
-- ends, holds of each after a call too, and of those that leave by it; only of what comes in, and of a task
-- that is changed, it has to be asked.
use Rattle.lb_queue.proofs.Lasting.{tests_last}
use Rattle.lb_queue.proofs.laws.tests_last.Goals as goal

pub returns : goal.returns
returns c = tests_last
