-- For `steps_are_places` of src/laws.rt: what is counted is counted of the places of the history: for each
-- entry, with the machine that the entries before it lead to.
use Rattle.lb_summary.proofs.Places.{steps_are_places}
use Rattle.lb_summary.proofs.laws.steps_are_places.Goals as goal

pub returns : goal.returns
returns c = steps_are_places
