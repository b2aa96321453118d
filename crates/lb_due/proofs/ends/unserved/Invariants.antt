-- The loops of `unserved` of src/ends.rt: the CPUs whose active request is unserved.
use Rattle.std.proofs.Common.{◌≡◌, ◌&&◌, ℕ, ltb, is_some}
use Rattle.lb_base.specs.Mask.{has}
use Rattle.lb_core.specs.Machine.{queue_at}
use Rattle.lb_due.proofs.ends.unserved.Given as goal

abbrev pub invariant-loop-cpu : goal.invariant-loop-cpu
invariant-loop-cpu l = (k : ℕ) → has l.mask k ≡ (ltb k l.cpu && is_some (queue_at l.engine.machine.queues k).active)
