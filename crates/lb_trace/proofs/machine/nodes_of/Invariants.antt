-- The loops of `nodes_of` of src/machine.rt: how many nodes there are: 0 to the greatest that a CPU names.
use Rattle.std.proofs.Common.{◌≡◌, take}
use Rattle.lb_levels.specs.Faults.{nodes_of}
use Rattle.lb_trace.proofs.machine.nodes_of.Given as goal

abbrev pub invariant-loop-row : goal.invariant-loop-row
invariant-loop-row l = l.nodes ≡ nodes_of (take l.row-index l.cpus)
