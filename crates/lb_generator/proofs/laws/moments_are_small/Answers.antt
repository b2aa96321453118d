-- For `moments_are_small` of src/laws.rt: each moment of such a trace is below 5,000,000,000 ns.
use Rattle.lb_generator.proofs.Accepted.{small}
use Rattle.lb_generator.proofs.laws.moments_are_small.Goals as goal

pub returns : goal.returns
returns c = small
