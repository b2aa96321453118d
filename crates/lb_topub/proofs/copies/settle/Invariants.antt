-- The loops of `settle` of src/copies.rt: shows all that is pending.
use Rattle.std.proofs.Common.{◌≡◌, drop}
use Rattle.lb_topub.proofs.copies.settle.Given as goal

abbrev pub invariant-loop : goal.invariant-loop
invariant-loop g l =
    (goal.iterator-loop g).can_next l.iterator' × (goal.iterator-loop g).is_finite l.iterator'
    × (l.copies.desk.shown.value.known ≡ l.initial.copies.desk.shown.value.known)
    × (drop l.copies.behind l.copies.log.items ≡ drop l.initial.copies.behind l.initial.copies.log.items)
