-- For `pulls_are_within` of src/laws.rt: the level of a pull is that of the domain at the position that its
-- lane has in work, among those that its turn's CPU has within the published version that the lane took up
-- (docs/rules/lanes.md).
use Rattle.lb_summary.proofs.Within.{pulls_are_within}
use Rattle.lb_summary.proofs.laws.pulls_are_within.Goals as goal

pub returns : goal.returns
returns c = pulls_are_within c.turns_stay_open.ensures
