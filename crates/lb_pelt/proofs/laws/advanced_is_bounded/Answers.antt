-- For `advanced_is_bounded` of src/laws.rt: a signal that keeps the bounds still keeps them when it is
-- advanced.
use Rattle.lb_pelt.proofs.Signals.{advanced_bounded}
use Rattle.lb_pelt.proofs.laws.advanced_is_bounded.Goals as goal

pub returns : goal.returns
returns c = advanced_bounded
