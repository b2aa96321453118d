-- The loops of `mark_above` of src/figures.rt: marks until each further ticket of the lane is above this one.
use Rattle.std.proofs.Common.{◌≡◌, ◌≤◌}
use Rattle.lb_cell.specs.Reads.{SameBut}
use Rattle.lb_lane.proofs.figures.mark_above.Given as goal

abbrev pub invariant-loop : goal.invariant-loop
invariant-loop g l =
    (goal.iterator-loop g).can_next l.iterator' × (goal.iterator-loop g).is_finite l.iterator' × SameBut l.initial.side l.side
    × (l.initial.side.seat.next ≤ l.side.seat.next) × (l.side.seat.read ≡ l.initial.side.seat.read)
    × (l.side.seat.spare ≡ l.initial.side.seat.spare)
