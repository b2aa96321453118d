-- For `none_ticked` of src/read.rt: no CPU has ticked yet.
use Rattle.lb_trace.proofs.TickFacts.{none_ticked}
use Rattle.lb_trace.proofs.read.none_ticked.Goals as goal

pub returns : goal.returns
returns c = none_ticked 64
