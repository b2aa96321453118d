-- The loops of `head_of` of src/header.rt: reads the lines at the head that can be repeated.
use Rattle.std.proofs.Common.{length}
use Rattle.lb_read.proofs.HeadFacts.{HeadSoFar}
use Rattle.lb_read.proofs.header.head_of.Given as goal

abbrev pub invariant-loop-line : goal.invariant-loop-line
invariant-loop-line l = HeadSoFar l.fn.text l.trace.items l.lines l.parted l.rest

abbrev pub decreases-loop-line : goal.decreases-loop-line
decreases-loop-line l = length l.rest
