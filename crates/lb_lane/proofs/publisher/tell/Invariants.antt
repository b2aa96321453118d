-- The loops of `tell` of src/publisher.rt: tells a looker of all versions.
use Rattle.std.proofs.Common.{◌≡◌}
use Rattle.lb_lane.proofs.publisher.tell.Given as goal

abbrev pub invariant-loop : goal.invariant-loop
invariant-loop g l =
    (goal.iterator-loop g).can_next l.iterator' × (goal.iterator-loop g).is_finite l.iterator' × (l.looker ≡ l.initial.looker)
    × (l.publisher ≡ l.initial.publisher)
