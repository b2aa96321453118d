-- The loops of `Run::serve` of src/run.rt: serves the row of the trace at this place, from 0: its lane takes
-- it up, and goes on until it rests.
use Rattle.std.proofs.Common.{◌+◌, ◌-◌, drop, length}
use Rattle.lb_serial.specs.Fronts.{most_entries, IsServing}
use Rattle.lb_serial.proofs.run.Run.serve.Given as goal

abbrev pub invariant-loop-self : goal.invariant-loop-self
invariant-loop-self l = IsServing l.trace l.lane (drop (l.place + 1) l.trace.rows) l.self

abbrev pub decreases-loop-self : goal.decreases-loop-self
decreases-loop-self l = most_entries l.trace - length l.self.history.entries
