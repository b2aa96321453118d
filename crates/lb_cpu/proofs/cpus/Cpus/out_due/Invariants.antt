-- The loops of `Cpus::out_due` of src/serving.rt: the `out` of a stop or a push that is due at the queue of
-- the ticked CPU, in a hand whose landing is booked.
use Rattle.std.proofs.Common.{◌≡◌}
use Rattle.lb_cpu.proofs.cpus.Cpus.out_due.Given as goal

abbrev pub invariant-loop : goal.invariant-loop
invariant-loop g l =
    (goal.iterator-loop g).can_next l.iterator' × (goal.iterator-loop g).is_finite l.iterator' × (l.lane ≡ l.initial.lane)
