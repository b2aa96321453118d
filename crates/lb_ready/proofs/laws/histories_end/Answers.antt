-- For `histories_end` of src/laws.rt: a history of an accepted trace has at most 811,405 entries for each row
-- of the trace, and its end.
use Rattle.lb_ready.proofs.Histories.{histories_end}
use Rattle.lb_ready.proofs.laws.histories_end.Goals as goal

pub returns : goal.returns
returns c = histories_end c.ready.ensures.opens c.ready.ensures.stays c.entries_fall.ensures
