-- For `Reading::take_line` of src/reading.rt: takes the next line, before which the reader of fields stands.
use Rattle.std.proofs.Common.{rules}
use Rattle.lb_trace.proofs.LineFacts.{empty_line}
use Rattle.lb_trace.proofs.reading.Reading.take_line.Goals as goal

pub returns-then-is_empty-clause-step : goal.returns-then-is_empty-clause-step
returns-then-is_empty-clause-step c tail stands = (empty_line c.args.self.now c.args.line.now (search rules) (search rules), tt)
