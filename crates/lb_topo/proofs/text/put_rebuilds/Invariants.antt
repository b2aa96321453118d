-- The loops of `put_rebuilds` of src/text.rt: appends the version of each rebuild of a trace, from version 2
-- on.
use Rattle.std.proofs.Common.{◌≡◌, ◌+◌, ◌≤◌, ◌++◌, drop}
use Rattle.std.specs.List.{filter_map}
use Rattle.lb_topo.specs.Text.{versions_text, rebuilt}
use Rattle.lb_topo.proofs.text.put_rebuilds.Given as goal

abbrev pub invariant-loop-row : goal.invariant-loop-row
invariant-loop-row l = record {
  written : l.to.items ++ versions_text l.machine.cpus l.machine.distances l.version
      (filter_map (λ row. rebuilt row.command) (drop l.row-index l.trace.rows))
      ≡ l.fn.to.items ++ versions_text l.machine.cpus l.machine.distances 2
      (filter_map (λ row. rebuilt row.command) l.trace.rows);
  few : l.version ≤ l.row-index + 2;
}
