-- For `hands_may_land` of src/laws.rt: the hands of a ready machine can land where they go: so it can be let
-- go.
use Rattle.lb_state.proofs.Landings.{hands_may_land}
use Rattle.lb_state.proofs.laws.hands_may_land.Goals as goal

pub returns : goal.returns
returns c = hands_may_land
