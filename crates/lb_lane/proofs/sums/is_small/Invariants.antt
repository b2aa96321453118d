-- The loops of `is_small` of src/sums.rt: whether the sum over all groups, without the excluded CPUs, is
-- below the limit.
use Rattle.std.proofs.Common.{◌≡◌, ◌<◌, take}
use Rattle.std.specs.List.{sum_by}
use Rattle.lb_base.specs.Mask.{without}
use Rattle.lb_base.specs.Figures.{total}
use Rattle.lb_lane.specs.Figures.{number_of}
use Rattle.lb_lane.proofs.sums.is_small.Given as goal

abbrev pub invariant-loop-i : goal.invariant-loop-i
invariant-loop-i l = record {
  so_far : l.sum ≡ sum_by (λ g. total (number_of l.fn.number) l.figs (without g l.excluded)) (take l.i l.groups);
  below : l.sum < 1099511627776;
}
