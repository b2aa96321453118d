-- The loops of `rows_of_lanes` of src/rows.rt: the rows of each lane, in their order.
use Rattle.std.proofs.Common.{◌≡◌, ◌≤◌, length, map, vec_capacity}
use Rattle.std.specs.List.{range_with_len}
use Rattle.lb_core.specs.OfTrace.{of_lane}
use Rattle.lb_cpu.proofs.rows.rows_of_lanes.Given as goal

abbrev pub invariant-loop-lane : goal.invariant-loop-lane
invariant-loop-lane l =
    (l.lists.items ≡ map (λ lane. of_lane lane l.rows) (range_with_len 0 l.lane))
    × (length l.lists.items ≡ l.lane) × (l.lanes ≤ vec_capacity l.lists)
