-- For `plain_is_kept` of src/laws.rt: what a cell keeps of its entries is what the merge asks of a queue's
-- seat: one header, no versions, no figures.
use Rattle.lb_cell.proofs.Plain.{plain_kept}
use Rattle.lb_cell.proofs.laws.plain_is_kept.Goals as goal

pub returns : goal.returns
returns c = plain_kept
