-- For `input_of` of src/reading.rt: the input of a work: all that its source has, or nothing where it reads
-- nothing.
use Rattle.std.proofs.Common.{ap, Err}
use Rattle.lb.specs.Invocation.{Stream, stream_of}
use Rattle.lb.specs.Works.{Fails}
use Rattle.lb.specs.Failures.{status_of_read_error}
use Rattle.lb.proofs.Unread.{made_into, read_failed}
use Rattle.lb.proofs.reading.input_of.Goals as goal

pub returns-in_err-read_all-in-Some-clause-failed : goal.returns-in_err-read_all-in-Some-clause-failed
returns-in_err-read_all-in-Some-clause-failed g c =
    let e = c.in_err-read_all-in-Some in
    let source : Stream = stream_of g.S.Source.left g.S.Source.faults c.args.src.now c.read_all.new.src in
    let fails : Fails c.args.work source (status_of_read_error e.field-0.0) =
    read_failed c.args.work source c.in-Some.most e.field-0.0 c.in-Some.ensures.most.1 c.in-Some.ensures.most.0
    (λ is. e.ensures.fault (ap Err is)) (λ is. e.ensures.too_long (ap Err is))
    in
    made_into c.from_residual.result (status_of_read_error e.field-0.0) (λ s. Fails c.args.work source s)
    c.from_residual.ensures.1 fails
