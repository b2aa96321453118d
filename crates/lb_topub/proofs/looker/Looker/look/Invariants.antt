-- The loops of `Looker::look` of src/looker.rt: a look at one version, which is not earlier than any that
-- this looker saw or was told of.
use Rattle.left_right.specs.Sides.{view}
use Rattle.lb_topub.specs.Shown.{Knows}
use Rattle.lb_topub.proofs.looker.Looker.look.Given as goal

abbrev pub invariant-loop : goal.invariant-loop
invariant-loop g l =
    (goal.iterator-loop g).can_next l.iterator' × (goal.iterator-loop g).is_finite l.iterator'
    × Knows l.known-inside.seen.book (view l.side.place)
