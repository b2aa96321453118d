-- For `source_queue` of src/laws.rt: the source queue is found wherever a CPU may be it, and there is only
-- one.
use Rattle.lb_busiest.proofs.Order.{source_of_picks, source_of-found}
use Rattle.lb_busiest.proofs.laws.source_queue.Goals as goal

pub returns-clause-found : goal.returns-clause-found
returns-clause-found c = source_of_picks

pub returns-clause-unique : goal.returns-clause-unique
returns-clause-unique c = source_of-found
