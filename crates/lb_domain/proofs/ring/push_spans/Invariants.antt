-- The loops of `push_spans` of src/ring.rt: adds the spans of these CPUs at a step.
use Rattle.std.proofs.Common.{◌≡◌, ◌-◌, ◌++◌, map}
use Rattle.lb_base.specs.declared.mask.TheConstants.{MAX_CPUS}
use Rattle.lb_base.specs.Mask.{members_below}
use Rattle.lb_domain.specs.Steps.{step_span}
use Rattle.lb_base.proofs.Walks.{passed, Stands}
use Rattle.lb_domain.proofs.ring.push_spans.Given as goal

abbrev pub invariant-loop-next : goal.invariant-loop-next
invariant-loop-next l = record {
  next : Stands l.leaders l.next;
  pushed : l.groups ≡ l.initial.groups ++ map (step_span l.machine.cpus l.machine.distances l.part l.step)
      (members_below l.leaders (passed l.next));
}

abbrev pub decreases-loop-next : goal.decreases-loop-next
decreases-loop-next l = MAX_CPUS - passed l.next
