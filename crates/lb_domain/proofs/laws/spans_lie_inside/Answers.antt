-- For `spans_lie_inside` of src/laws.rt: the span of a domain lies within the machine, and within the mask
-- that has the CPU.
use Rattle.lb_domain.proofs.Positions.{inside}
use Rattle.lb_domain.proofs.laws.spans_lie_inside.Goals as goal

pub returns : goal.returns
returns c = inside
