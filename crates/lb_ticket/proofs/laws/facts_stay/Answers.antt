-- For `facts_stay` of src/laws.rt: a fact that a seat holds stays with it as more are learnt, and as entries
-- of other tickets are quoted or noted.
use Rattle.lb_ticket.proofs.Learnt.{facts_stay}
use Rattle.lb_ticket.proofs.laws.facts_stay.Goals as goal

pub returns : goal.returns
returns c = facts_stay
