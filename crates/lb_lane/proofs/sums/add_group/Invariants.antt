-- The loops of `add_group` of src/sums.rt: a sum with the numbers of all CPUs of a group; None where it is
-- not below the limit.
use Rattle.std.proofs.Common.{◌≡◌, ◌+◌, ◌-◌, ◌<◌}
use Rattle.std.specs.List.{sum_by}
use Rattle.lb_base.specs.declared.mask.TheConstants.{MAX_CPUS}
use Rattle.lb_base.specs.Mask.{members_below}
use Rattle.lb_base.specs.Figures.{fig_at}
use Rattle.lb_base.proofs.Walks.{passed, Stands}
use Rattle.lb_lane.specs.Figures.{number_of}
use Rattle.lb_lane.proofs.sums.add_group.Given as goal

abbrev pub invariant-loop-next : goal.invariant-loop-next
invariant-loop-next l = record {
  at : Stands l.group l.next;
  so_far : l.sum ≡ l.fn.before + sum_by (λ cpu. number_of l.fn.number (fig_at l.figs cpu))
      (members_below l.group (passed l.next));
  below : l.sum < 1099511627776;
}

abbrev pub decreases-loop-next : goal.decreases-loop-next
decreases-loop-next l = MAX_CPUS - passed l.next
