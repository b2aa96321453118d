-- The loops of `leads` of src/number.rt: whether some number from `least` to `most` begins with the digits of
-- `value`.
use Rattle.lb_text.proofs.Leading.{IsCut}
use Rattle.lb_text.proofs.number.leads.Given as goal

abbrev pub invariant-loop-least : goal.invariant-loop-least
invariant-loop-least l = IsCut l.fn.least l.fn.most l.value l.least l.most

abbrev pub decreases-loop-least : goal.decreases-loop-least
decreases-loop-least l = l.least
