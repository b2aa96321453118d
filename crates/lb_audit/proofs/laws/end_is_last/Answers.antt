-- For `end_is_last` of src/laws.rt: the last entry of a legal history is the end, so it has one and nothing
-- follows it.
use Rattle.lb_audit.proofs.Last.{end_is_last}
use Rattle.lb_audit.proofs.laws.end_is_last.Goals as goal

pub returns : goal.returns
returns c = end_is_last
