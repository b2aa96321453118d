-- For `push_spans` of src/ring.rt: adds the spans of these CPUs at a step.
use Rattle.std.proofs.Common.{ℕ, ◌+◌, [], ◌∷◌, ◌++◌, map, List, sym, ◌∙◌, ap}
use Rattle.lb_base.specs.declared.mask.Mask.{Mask}
use Rattle.lb_base.proofs.Members.{members_all}
use Rattle.lb_domain.specs.Steps.{step_span}
use Rattle.lb_base.proofs.Walks.{stands}
use Rattle.lb_domain.proofs.Rings.{walk_from, walk_on}
use Rattle.lb_domain.proofs.ring.push_spans.Goals as goal

pub loop-next-init : goal.loop-next-init
loop-next-init c = record {
  next = stands c.args.leaders 0 c.first-next.result c.first-next.ensures.cpus;
  pushed = walk_from (step_span c.args.machine.now.cpus c.args.machine.now.distances c.args.part c.args.step)
      c.args.leaders c.args.groups.now c.first-next.result c.first-next.ensures.cpus;
}

pub loop-next-preserved : goal.loop-next-preserved
loop-next-preserved c =
    let at = (rw c.in-Some.is at c.loop-next.invariant) in
    record {
      next = stands c.args.leaders (c.in-Some.cpu + 1) c.next_after-next.result c.next_after-next.ensures.cpus;
      pushed = c.in_ok-push.ensures.ok ∙ ap (λ (m : Mask). c.loop-next.groups ++ m ∷ []) c.step_span.ensures
          ∙ walk_on (step_span c.args.machine.now.cpus c.args.machine.now.distances c.args.part c.args.step)
          c.args.leaders c.args.groups.now c.loop-next.groups c.in-Some.cpu c.next_after-next.result at.next
          at.pushed c.next_after-next.ensures.cpus;
    }

pub returns : goal.returns
returns c =
    let at = (rw c.in_default.is at c.loop-next.invariant) in
    at.pushed ∙ ap (λ (ks : List ℕ). c.args.groups.now ++ map
    (step_span c.args.machine.now.cpus c.args.machine.now.distances c.args.part c.args.step) ks)
    (sym (members_all c.args.leaders))
