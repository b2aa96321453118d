-- The loops of `list_of` of src/list.rt: the CPUs that a list names: none where it is empty, else those of
-- its items, which are split by `;`.
use Rattle.std.proofs.Common.{length}
use Rattle.lb_text.proofs.Taken.{IsReading}
use Rattle.lb_text.proofs.list.list_of.Given as goal

abbrev pub invariant-loop-item : goal.invariant-loop-item
invariant-loop-item l = IsReading l.text l.items l.start l.mask

abbrev pub decreases-loop-item : goal.decreases-loop-item
decreases-loop-item l = length l.items
