-- The loops of `Run::serve_rows` of src/run.rt: serves the rows of the trace in file order, each to its end.
use Rattle.std.proofs.Common.{drop}
use Rattle.lb_serial.specs.Fronts.{IsAtRest}
use Rattle.lb_serial.proofs.run.Run.serve_rows.Given as goal

abbrev pub invariant-loop-place : goal.invariant-loop-place
invariant-loop-place l = IsAtRest l.trace (drop l.place l.trace.rows) l.self
