-- For `turns_fit` of src/laws.rt: after every legal front a queue's counters are as many as its CPU has
-- domains in the version that they are kept for, and an open turn has counters and balances positions of
-- these domains alone (docs/rules/counters.md).
use Rattle.lb_core.proofs.Turning.{turns_fit_always}
use Rattle.lb_core.proofs.laws.turns_fit.Goals as goal

pub returns : goal.returns
returns c = turns_fit_always (record { rest = c.calls_keep_rest.ensures; order = c.domains_stand_in_order.ensures })
