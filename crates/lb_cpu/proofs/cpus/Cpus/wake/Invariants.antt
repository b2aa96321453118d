-- The loops of `Cpus::wake` of src/waking.rt: serves a wake: the queue where the task sleeps answers it, or
-- the task leaves for the CPU where it has to wake, whose queue is booked before.
use Rattle.std.proofs.Common.{◌≡◌}
use Rattle.lb_cpu.proofs.cpus.Cpus.wake.Given as goal

abbrev pub invariant-loop : goal.invariant-loop
invariant-loop g l =
    (goal.iterator-loop g).can_next l.iterator' × (goal.iterator-loop g).is_finite l.iterator' × (l.lane ≡ l.initial.lane)
