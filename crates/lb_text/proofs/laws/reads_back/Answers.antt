-- For `reads_back` of src/laws.rt: a list that is written is read back as its mask.
use Rattle.lb_text.proofs.RoundTrip.{reads_back}
use Rattle.lb_text.proofs.laws.reads_back.Goals as goal

pub returns : goal.returns
returns c = reads_back
