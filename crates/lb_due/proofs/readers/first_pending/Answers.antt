-- For `first_pending` of src/readers.rt: the least CPU with a pending stop request.
use Rattle.std.proofs.Common.{rules, arith, length}
use Rattle.lb_base.proofs.Ranges.{found, not_found}
use Rattle.lb_queue.specs.Requests.{has_pending}
use Rattle.lb_core.specs.Machine.{queue_at}
use Rattle.lb_core.specs.Elsewhere.{first_pending}
use Rattle.lb_due.proofs.readers.first_pending.Goals as goal

pub returns-then-has_pending : goal.returns-then-has_pending
unfolding first_pending
returns-then-has_pending c = found (λ cpu. has_pending (queue_at c.args.engine.now.machine.queues cpu))
    (length c.args.engine.now.machine.queues) c.loop-cpu.cpu (omega arith) c.loop-cpu.invariant (search rules)

pub returns : goal.returns
unfolding first_pending
returns c = not_found (λ cpu. has_pending (queue_at c.args.engine.now.machine.queues cpu))
    (length c.args.engine.now.machine.queues) (λ k lt. c.loop-cpu.invariant k (omega (arith, lt)))
