-- The loops of `new_looker` of src/copies.rt: a looker that knows what is shown.
use Rattle.std.proofs.Common.{◌≡◌}
use Rattle.lb_topub.proofs.copies.new_looker.Given as goal

abbrev pub invariant-loop : goal.invariant-loop
invariant-loop g l = (goal.iterator-loop g).can_next l.iterator' × (goal.iterator-loop g).is_finite l.iterator'
    × (l.copies ≡ l.initial.copies)
