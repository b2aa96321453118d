-- For `domains_stand_in_order` of src/laws.rt: the domains of a CPU stand at their positions: the one at
-- position p has position p.
use Rattle.lb_domain.proofs.Positions.{at_position}
use Rattle.lb_domain.proofs.laws.domains_stand_in_order.Goals as goal

pub returns : goal.returns
returns c = at_position
