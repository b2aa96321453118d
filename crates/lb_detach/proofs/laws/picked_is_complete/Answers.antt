-- For `picked_is_complete` of src/laws.rt: no task is left that the rule takes.
use Rattle.lb_detach.proofs.Complete.{complete}
use Rattle.lb_detach.proofs.laws.picked_is_complete.Goals as goal

pub returns : goal.returns
returns c = complete
