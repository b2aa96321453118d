-- The loops of `read_small` of src/look.rt: the figures of a domain without the excluded CPUs, read again
-- until their sums are small enough to decide on.
use Rattle.lb_lane.specs.Figures.{Sees}
use Rattle.lb_lane.proofs.look.read_small.Given as goal

abbrev pub invariant-loop : goal.invariant-loop
invariant-loop g l =
    (goal.iterator-loop g).can_next l.iterator' × (goal.iterator-loop g).is_finite l.iterator' × Sees l.initial.side l.side
