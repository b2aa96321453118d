-- For `owners_merge` of src/laws.rt: what the owners keep of their lists, and the closed book, give all
-- premises of the merge, and that the entries in the order of their tickets are a history of the trace.
use Rattle.lb_journal.proofs.Owning.{owners_merge}
use Rattle.lb_journal.proofs.laws.owners_merge.Goals as goal

pub returns : goal.returns
returns c = owners_merge c.merge_is_run.ensures
