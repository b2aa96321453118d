-- For `merged_back` of src/laws.rt: the entries of a history, cut into the lists of their owners and merged
-- by their tickets, are the history.
use Rattle.std.proofs.Common.{refl}
use Rattle.lb_journal_rows.proofs.laws.merged_back.Goals as goal

pub returns-clause-one_lane : goal.returns-clause-one_lane
returns-clause-one_lane c = refl

pub returns-clause-two_lanes : goal.returns-clause-two_lanes
returns-clause-two_lanes c = refl

pub returns-clause-rebuilt : goal.returns-clause-rebuilt
returns-clause-rebuilt c = refl
