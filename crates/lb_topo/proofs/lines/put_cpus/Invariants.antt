-- The loops of `put_cpus` of src/lines.rt: appends the lines of all CPUs, of which there are so many.
use Rattle.std.proofs.Common.{◌≡◌, ◌++◌, drop}
use Rattle.lb_topo.specs.Text.{cpus_lines}
use Rattle.lb_topo.proofs.lines.put_cpus.Given as goal

abbrev pub invariant-loop-cpu : goal.invariant-loop-cpu
invariant-loop-cpu l = l.to.items ++ cpus_lines l.cpu (drop l.cpu l.topology.all) ≡ l.fn.to.items ++ cpus_lines 0 l.topology.all
