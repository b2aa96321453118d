-- The loops of `busiest` of src/group.rt: the place of the busiest group among the statistics of a domain's
-- groups, or None where no group but the local one has tasks (docs/rules/decision.md).
use Rattle.lb_base.specs.Greatest.{Picks}
use Rattle.lb_busiest.specs.Ranking.{is_busier_at, may_be_busiest}
use Rattle.lb_busiest.proofs.group.busiest.Given as goal

abbrev pub invariant-loop-i : goal.invariant-loop-i
invariant-loop-i l = Picks (may_be_busiest l.stats) (is_busier_at l.stats) l.i l.best
