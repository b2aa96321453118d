-- The loops of `serve` of src/services.rt: serves all that is due, until the lane is at rest.
use Rattle.lb_lane_laws.specs.Stays.{SameRows}
use Rattle.lb_service.specs.Services.{StillDue}
use Rattle.lb_service.proofs.services.serve.Given as goal

-- the lane is in service, and it is the same lane
abbrev pub invariant-loop : goal.invariant-loop
invariant-loop g l =
    (goal.iterator-loop g).can_next l.iterator' × (goal.iterator-loop g).is_finite l.iterator'
    × StillDue g.N.Names.header l.lane.side.course × SameRows l.initial.lane l.lane
