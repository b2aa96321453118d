-- For `lists_fit` of src/laws.rt: a list names CPUs that a mask has room for.
use Rattle.lb_text.proofs.RoundTrip.{lists_fit}
use Rattle.lb_text.proofs.laws.lists_fit.Goals as goal

pub returns : goal.returns
returns c = lists_fit
