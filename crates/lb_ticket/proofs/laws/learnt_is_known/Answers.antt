-- For `learnt_is_known` of src/laws.rt: once a note is learnt, its fact is known, so that it may be quoted,
-- and its ticket is below the next one.
use Rattle.lb_ticket.proofs.Learnt.{learnt_is_known}
use Rattle.lb_ticket.proofs.laws.learnt_is_known.Goals as goal

pub returns : goal.returns
returns c = learnt_is_known
