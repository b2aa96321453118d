-- The loops of `preempt_all` of src/lists.rt: the running task is put down and waits.
use Rattle.std.proofs.Common.{◌≡◌}
use Rattle.lb_queue.specs.Tasks.{preempted}
use Rattle.lb_queue.proofs.Mapped.{mapped}
use Rattle.lb_queue.proofs.lists.preempt_all.Given as goal

abbrev pub invariant-loop-a : goal.invariant-loop-a
invariant-loop-a l = l.a-items ≡ mapped (preempted l.fn.clock) l.a-index l.fn.awake.items
