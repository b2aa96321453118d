-- For `report` of src/status.rt: writes the text of a status, and answers the status that stands then: a
-- write fault where a write failed, and want of memory where there is none for a text that names what was
-- found.
use Rattle.std.proofs.Common.{sym, subst}
use Rattle.lb.specs.declared.status.Status.{Status}
use Rattle.lb.specs.Invocation.{Stream, stream_of}
use Rattle.lb.specs.Answers.{Reports}
use Rattle.lb.proofs.status.report.Goals as goal

pub returns-in-Illegal : goal.returns-in-Illegal
returns-in-Illegal g c =
    let error : Stream = stream_of g.E.Sink.taken g.E.Sink.faults c.args.err.now c.tell_made-in-Illegal.new.err in
    subst (λ (s : Status). Reports s c.tell_made-in-Illegal.result error) (sym c.in-Illegal.is) c.tell_made-in-Illegal.ensures
