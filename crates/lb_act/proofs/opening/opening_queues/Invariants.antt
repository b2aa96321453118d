-- The loops of `opening_queues` of src/opening.rt: the queues of all CPUs before any entry, in their order:
-- the tasks that are at home at each sleep there.
use Rattle.std.proofs.Common.{◌≡◌, ◌≤◌, length, map, vec_capacity}
use Rattle.std.specs.List.{range_with_len}
use Rattle.lb_core.specs.Machine.{opening_queue}
use Rattle.lb_act.proofs.opening.opening_queues.Given as goal

abbrev pub invariant-loop-cpu : goal.invariant-loop-cpu
invariant-loop-cpu l =
    (l.queues.items ≡ map (λ cpu. record { state = opening_queue l.header cpu; booked = 0 }) (range_with_len 0 l.cpu))
    × (length l.queues.items ≡ l.cpu) × (length l.header.cpus ≤ vec_capacity l.queues)
