-- The loops of `first_idle` of src/destination.rt.
use Rattle.std.proofs.Common.{◌-◌}
use Rattle.lb_base.specs.declared.mask.TheConstants.{MAX_CPUS}
use Rattle.lb_base.proofs.Walks.{passed, Stands}
use Rattle.lb_imbalance.proofs.Idle.{NoneIdle}
use Rattle.lb_imbalance.proofs.destination.first_idle.Given as goal

abbrev pub invariant-loop-next : goal.invariant-loop-next
invariant-loop-next l = record { at : Stands l.group l.next; none : NoneIdle l.figs l.group (passed l.next) }

abbrev pub decreases-loop-next : goal.decreases-loop-next
decreases-loop-next l = MAX_CPUS - passed l.next
