-- For `accepted` of src/laws.rt: the trace that a text is keeps to the limits, has a machine and masks
-- without a fault, and its rows name what is declared alone.
use Rattle.lb_trace.proofs.AcceptedFacts.{reading_is_trace}
use Rattle.lb_trace.proofs.laws.accepted.Goals as goal

pub returns : goal.returns
returns c = reading_is_trace
