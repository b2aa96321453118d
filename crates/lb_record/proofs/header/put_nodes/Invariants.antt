-- The loops of `put_nodes` of src/header.rt: the lines of the distances of nodes.
use Rattle.std.proofs.Common.{◌≡◌, ◌++◌, map, drop}
use Rattle.lb_text.specs.Lines.{lines_text, StillStands}
use Rattle.lb_record.specs.Header.{distances_line}
use Rattle.lb_record.proofs.header.put_nodes.Given as goal

abbrev pub invariant-loop-distances : goal.invariant-loop-distances
invariant-loop-distances l = record {
  written : l.to.items ++ lines_text
      (map distances_line (drop l.distances-index l.nodes)) ≡ l.fn.to.items ++ lines_text
      (map distances_line l.nodes);
  stands : StillStands l.fn.to.items l.to.items;
}
