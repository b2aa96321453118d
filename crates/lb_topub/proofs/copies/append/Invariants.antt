-- The loops of `append` of src/copies.rt: puts a version behind what is pending.
use Rattle.std.proofs.Common.{◌≡◌, drop}
use Rattle.lb_topub.proofs.copies.append.Given as goal

abbrev pub invariant-loop : goal.invariant-loop
invariant-loop g l =
    (goal.iterator-loop g).can_next l.iterator' × (goal.iterator-loop g).is_finite l.iterator'
    × (l.copies.desk ≡ l.initial.copies.desk)
    × (drop l.copies.behind l.copies.log.items ≡ drop l.initial.copies.behind l.initial.copies.log.items)
    × (l.next ≡ l.initial.next)
