-- For `busiest` of src/group.rt: the place of the busiest group among the statistics of a domain's groups, or
-- None where no group but the local one has tasks (docs/rules/decision.md).
use Rattle.std.proofs.Common.{arith}
use Rattle.lb_busiest.proofs.Order.{busiest_of-found}
use Rattle.lb_busiest.proofs.group.busiest.Goals as goal

pub returns-clause-value : goal.returns-clause-value
returns-clause-value c = busiest_of-found c.args.stats.now c.loop-i.i c.loop-i.best (omega arith) c.loop-i.invariant
