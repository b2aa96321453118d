-- The loops of `Cpus::choose` of src/turning.rt: a version that the lane vouches for.
use Rattle.lb_cpu.specs.Turns.{LooksOn}
use Rattle.lb_cpu.proofs.cpus.Cpus.choose.Given as goal

abbrev pub invariant-loop : goal.invariant-loop
invariant-loop g l =
    (goal.iterator-loop g).can_next l.iterator' × (goal.iterator-loop g).is_finite l.iterator' × LooksOn l.initial.lane l.lane
