-- The loops of `first_pending` of src/readers.rt: the least CPU with a pending stop request.
use Rattle.std.proofs.Common.{◌≡◌, ◌<◌, ℕ, false}
use Rattle.lb_queue.specs.Requests.{has_pending}
use Rattle.lb_core.specs.Machine.{queue_at}
use Rattle.lb_due.proofs.readers.first_pending.Given as goal

abbrev pub invariant-loop-cpu : goal.invariant-loop-cpu
invariant-loop-cpu l = (k : ℕ) → k < l.cpu → has_pending (queue_at l.engine.machine.queues k) ≡ false
