-- For `read_all` of src/whole.rt: all bytes up to the end of the input, of which there may be at most `max`.
use Rattle.lb_io.proofs.OneAfterAnother.{consumes_then}
use Rattle.lb_io.proofs.whole.read_all.Goals as goal

pub returns-then-len-count-clause-refused : goal.returns-then-len-count-clause-refused
returns-then-len-count-clause-refused g c = (_, consumes_then _ _ _ _ _ c.loop-count.invariant.read c.in-Ok.ensures.bytes.0)

pub returns-then-is_err-clause-refused : goal.returns-then-is_err-clause-refused
returns-then-is_err-clause-refused g c = (_, consumes_then _ _ _ _ _ c.loop-count.invariant.read c.in-Ok.ensures.bytes.0)
