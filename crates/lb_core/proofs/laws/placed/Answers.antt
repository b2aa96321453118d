-- For `placed` of src/laws.rt: after every legal front of an accepted header, each declared task stands at
-- exactly one place, once: in one list of one queue or in one hand, where the map has it; and no other number
-- stands anywhere, in no hand either (docs/rules/lanes.md).
use Rattle.lb_core.proofs.Opening.{placed_always}
use Rattle.lb_core.proofs.laws.placed.Goals as goal

pub returns : goal.returns
returns c = placed_always c.calls_move.ensures
