-- The loops of `imbalance_flags` of src/queue/values.rt: the flags of the positions that are marked as
-- imbalanced.
use Rattle.lb_queue.proofs.Flags.{IsCounted}
use Rattle.lb_queue.proofs.queue.values.imbalance_flags.Given as goal

abbrev pub invariant-loop-p : goal.invariant-loop-p
invariant-loop-p l = IsCounted l.counters l.p l.flags
