-- The loops of `asleep_sums` of src/sums.rt: over sleeping tasks, at a moment.
use Rattle.std.proofs.Common.{take}
use Rattle.lb_queue.specs.Figures.{asleep_value}
use Rattle.lb_queue.specs.Sums.{AreSums}
use Rattle.lb_queue.proofs.sums.asleep_sums.Given as goal

abbrev pub invariant-loop-t : goal.invariant-loop-t
invariant-loop-t l = AreSums (asleep_value l.now) (take l.t-index l.tasks) l.sums
