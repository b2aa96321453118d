-- For `owners_can_keep` of src/laws.rt: there are seats that keep all that is asked of owners: lane 1 wakes a
-- task and is answered, and lane 0, which drew nothing, draws the end.
use Rattle.lb_journal_rows.proofs.Kept.{kept}
use Rattle.lb_journal_rows.proofs.laws.owners_can_keep.Goals as goal

pub returns : goal.returns
returns c id code left = kept id code left
