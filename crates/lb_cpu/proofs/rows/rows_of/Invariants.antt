-- The loops of `rows_of` of src/rows.rt: the rows of one lane, in their order.
use Rattle.std.proofs.Common.{◌≡◌, take}
use Rattle.lb_core.specs.OfTrace.{of_lane}
use Rattle.lb_cpu.proofs.rows.rows_of.Given as goal

abbrev pub invariant-loop-row : goal.invariant-loop-row
invariant-loop-row l = l.own ≡ of_lane l.lane (take l.row-index l.rows)
