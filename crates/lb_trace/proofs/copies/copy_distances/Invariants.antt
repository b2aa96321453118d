-- The loops of `copy_distances` of src/copies.rt: a copy of a table of distances.
use Rattle.std.proofs.Common.{◌≡◌, take}
use Rattle.lb_trace.proofs.copies.copy_distances.Given as goal

abbrev pub invariant-loop-row : goal.invariant-loop-row
invariant-loop-row l = l.rows ≡ take l.row-index l.table
