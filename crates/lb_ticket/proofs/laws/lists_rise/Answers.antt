-- For `lists_rise` of src/laws.rt: on each list of a closed book the tickets rise.
use Rattle.lb_ticket.proofs.Learnt.{lists_rise}
use Rattle.lb_ticket.proofs.laws.lists_rise.Goals as goal

pub returns : goal.returns
returns g c = lists_rise g.I.Item.means
