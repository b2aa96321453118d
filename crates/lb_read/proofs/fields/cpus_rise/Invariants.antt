-- The loops of `cpus_rise` of src/fields.rt: whether each figure's CPU is greater than that of the figure
-- before it.
use Rattle.std.proofs.Common.{◌≡◌, drop}
use Rattle.lb_core.specs.Ranges.{rise_after, cpus_rise}
use Rattle.lb_read.proofs.fields.cpus_rise.Given as goal

abbrev pub invariant-loop-figure : goal.invariant-loop-figure
invariant-loop-figure l = rise_after l.last (drop l.figure-index l.figures) ≡ cpus_rise l.figures
