-- The loops of `source` of src/queue.rt: the CPU of `group` that a pull takes from, or None where no CPU of
-- it has something to give (docs/rules/decision.md).
use Rattle.lb_busiest.specs.Sources.{may_be_source, has_more}
use Rattle.lb_busiest.proofs.Walk.{Walks, left}
use Rattle.lb_busiest.proofs.queue.source.Given as goal

abbrev pub invariant-loop-next : goal.invariant-loop-next
invariant-loop-next l = Walks (may_be_source l.figs l.group l.kind l.imbalance) (has_more l.figs l.kind) l.group l.best l.next

abbrev pub decreases-loop-next : goal.decreases-loop-next
decreases-loop-next l = left l.next
