-- For `judged_text` of src/works.rt: what `check` writes of the history that an input reads as, where it is
-- legal.
use Rattle.lb.proofs.works.judged_text.Goals as goal

pub check-requires-clause-header : goal.check-requires-clause-header
check-requires-clause-header c = (c.texts_may_be_judged.ensures _ _ c.in_ok-read.ensures.read).0

pub check-requires-clause-entries : goal.check-requires-clause-entries
check-requires-clause-entries c = (c.texts_may_be_judged.ensures _ _ c.in_ok-read.ensures.read).1
