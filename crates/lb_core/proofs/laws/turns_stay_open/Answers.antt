-- For `turns_stay_open` of src/laws.rt: after every legal front, a lane that is in a turn took up a published
-- version, and its turn stays open at the queue of its CPU until the lane ends it; the position in work is
-- one of the turn's, and each of these is one of the CPU's domains (docs/rules/lanes.md).
use Rattle.lb_core.proofs.OpenTurns.{turns_stay_open}
use Rattle.lb_core.proofs.laws.turns_stay_open.Goals as goal

pub returns : goal.returns
returns c = turns_stay_open (record { rest = c.calls_keep_rest.ensures; order = c.domains_stand_in_order.ensures })
