-- For `are_accepted` of src/laws.rt: the text of a drawn trace with at most 100,000 rows is accepted, and
-- reads as that trace.
use Rattle.lb_generator.proofs.Accepted.{accepted}
use Rattle.lb_generator.proofs.laws.are_accepted.Goals as goal

pub returns : goal.returns
returns c = accepted
