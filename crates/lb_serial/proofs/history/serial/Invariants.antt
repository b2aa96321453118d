-- The loops of `serial` of src/history.rt: the serial history of a trace: the rows in file order, each with
-- all that follows it until its lane rests, and the end (docs/rules/lanes.md).
use Rattle.std.proofs.Common.{◌-◌, length}
use Rattle.lb_serial.specs.Fronts.{most_entries, IsClosing}
use Rattle.lb_serial.proofs.history.serial.Given as goal

abbrev pub invariant-loop-run : goal.invariant-loop-run
invariant-loop-run l = IsClosing l.trace l.run

abbrev pub decreases-loop-run : goal.decreases-loop-run
decreases-loop-run l = most_entries l.trace - length l.run.history.entries
