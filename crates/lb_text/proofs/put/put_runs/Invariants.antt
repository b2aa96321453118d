-- The loops of `put_runs` of src/put.rt: appends the runs of a mask.
use Rattle.lb_text.proofs.RunFacts.{IsPut, turns_left}
use Rattle.lb_text.proofs.put.put_runs.Given as goal

abbrev pub invariant-loop-next : goal.invariant-loop-next
invariant-loop-next l = IsPut l.fn.to.items l.mask l.to.items l.next

abbrev pub decreases-loop-next : goal.decreases-loop-next
decreases-loop-next l = turns_left l.next
