-- For `next_stops` of src/laws.rt: a stop request is next exactly where a task is asked to leave (`asked`),
-- and it may be taken where no awake task's mask is empty (`taken`).
use Rattle.lb_queue.proofs.Allowed.{asked_is_next, next_may_be_taken}
use Rattle.lb_queue.proofs.laws.next_stops.Goals as goal

pub returns-clause-asked : goal.returns-clause-asked
returns-clause-asked c = asked_is_next

pub returns-clause-taken : goal.returns-clause-taken
returns-clause-taken c = next_may_be_taken
