-- The loops of `newest` of src/figures.rt: the names of the last figures that are due.
use Rattle.std.proofs.Common.{◌≡◌, ◌-◌}
use Rattle.lb_base.specs.declared.mask.TheConstants.{MAX_CPUS}
use Rattle.lb_base.specs.Mask.{members_below}
use Rattle.lb_base.proofs.Walks.{passed, Stands}
use Rattle.lb_ready.specs.Next.{newest}
use Rattle.lb_due.proofs.figures.newest.Given as goal

abbrev pub invariant-loop-next : goal.invariant-loop-next
invariant-loop-next l = record {
  at : Stands l.mask l.next;
  so_far : l.names ≡ newest l.engine.machine (members_below l.mask (passed l.next));
}

abbrev pub decreases-loop-next : goal.decreases-loop-next
decreases-loop-next l = MAX_CPUS - passed l.next
