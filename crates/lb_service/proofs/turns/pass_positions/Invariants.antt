-- The loops of `pass_positions` of src/turns.rt: passes the positions of an open turn, in their order.
use Rattle.std.proofs.Common.{◌≡◌, false}
use Rattle.lb_core.specs.Placed.{is_flight}
use Rattle.lb_lane_laws.specs.Stays.{SameRows}
use Rattle.lb_service.specs.Services.{IsTurning}
use Rattle.lb_service.proofs.turns.pass_positions.Given as goal

-- the turn is open, and it is the same lane
abbrev pub invariant-loop : goal.invariant-loop
invariant-loop g l =
    (goal.iterator-loop g).can_next l.iterator' × (goal.iterator-loop g).is_finite l.iterator'
    × IsTurning g.N.Names.header l.lane.side.course × SameRows l.initial.lane l.lane
