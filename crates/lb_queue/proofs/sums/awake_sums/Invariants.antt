-- The loops of `awake_sums` of src/sums.rt: over awake tasks, at a moment.
use Rattle.std.proofs.Common.{take}
use Rattle.lb_queue.specs.Figures.{awake_value}
use Rattle.lb_queue.specs.Sums.{AreSums}
use Rattle.lb_queue.proofs.sums.awake_sums.Given as goal

abbrev pub invariant-loop-a : goal.invariant-loop-a
invariant-loop-a l = AreSums (awake_value l.now) (take l.a-index l.awake) l.sums
