-- For `value_is_bounded` of src/laws.rt: of a signal that keeps the bounds the load is at most the task's
-- weight, and runnable and util are at most 1,025.
use Rattle.lb_pelt.proofs.Signals.{value_within}
use Rattle.lb_pelt.proofs.laws.value_is_bounded.Goals as goal

pub returns : goal.returns
returns c = value_within
