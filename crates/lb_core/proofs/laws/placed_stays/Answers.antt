-- For `placed_stays` of src/laws.rt: the opening state of an accepted header has each declared task at its
-- one place, and each hand is empty unless its lane is in flight; each entry that may be added keeps both.
use Rattle.lb_core.proofs.Opening.{placed_opens, placed_stays}
use Rattle.lb_core.proofs.laws.placed_stays.Goals as goal

pub returns-clause-opens : goal.returns-clause-opens
returns-clause-opens c = placed_opens

pub returns-clause-stays : goal.returns-clause-stays
returns-clause-stays c = placed_stays c.calls_move.ensures
