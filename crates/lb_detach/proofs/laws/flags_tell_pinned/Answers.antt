-- For `flags_tell_pinned` of src/laws.rt: the flags speak of the masks of the examined tasks.
use Rattle.lb_detach.proofs.Pinned.{tells}
use Rattle.lb_detach.proofs.laws.flags_tell_pinned.Goals as goal

pub returns : goal.returns
returns c = tells
