-- For `first_bad` of src/laws.rt: a text is refused with a line and a code exactly where it is too long, or
-- else where that line is the first bad one and the code the first that holds of it.
use Rattle.lb_trace.proofs.FirstBadLaws.{refuses_first_bad, accepts_none_bad}
use Rattle.lb_trace.proofs.laws.first_bad.Goals as goal

pub returns-clause-refused : goal.returns-clause-refused
returns-clause-refused c = refuses_first_bad

pub returns-clause-accepted : goal.returns-clause-accepted
returns-clause-accepted c = accepts_none_bad
