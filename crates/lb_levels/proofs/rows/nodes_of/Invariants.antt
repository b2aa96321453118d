-- The loops of `nodes_of` of src/rows.rt: how many nodes there are.
use Rattle.std.proofs.Common.{◌≡◌, ◌≤◌, take}
use Rattle.lb_levels.specs.Faults.{nodes_of}
use Rattle.lb_levels.proofs.rows.nodes_of.Given as goal

abbrev pub invariant-loop-row : goal.invariant-loop-row
invariant-loop-row l = record { count : l.nodes ≡ nodes_of (take l.row-index l.cpus); few : l.nodes ≤ 16 }
