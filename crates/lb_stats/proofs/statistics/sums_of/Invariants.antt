-- The loops of `sums_of` of src/statistics.rt.
use Rattle.std.proofs.Common.{◌≤◌, ◌-◌}
use Rattle.lb_base.specs.declared.mask.TheConstants.{MAX_CPUS}
use Rattle.lb_base.specs.Mask.{members_below}
use Rattle.lb_base.proofs.Walks.{passed, Stands}
use Rattle.lb_stats.proofs.Running.{IsSumOver}
use Rattle.lb_stats.proofs.statistics.sums_of.Given as goal

abbrev pub invariant-loop-next : goal.invariant-loop-next
invariant-loop-next l = record {
  at : Stands l.group l.next;
  so_far : IsSumOver l.position l.figs (members_below l.group (passed l.next)) l.sums;
  few_idle : l.sums.idle ≤ passed l.next;
}

abbrev pub decreases-loop-next : goal.decreases-loop-next
decreases-loop-next l = MAX_CPUS - passed l.next
