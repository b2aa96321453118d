-- For `ring` of src/ring.rt: the groups that these CPUs lead at a step, from that of the CPU's own group on.
use Rattle.std.proofs.Common.{◌++◌, map, List, ◌∙◌, ap}
use Rattle.std.specs.Prelude.{unwrap_or}
use Rattle.lb_base.specs.declared.mask.Mask.{Mask}
use Rattle.lb_base.specs.Mask.{members}
use Rattle.lb_base.specs.Sets.{least}
use Rattle.lb_domain.specs.Steps.{step_span}
use Rattle.lb_domain.proofs.Rings.{ring_is}
use Rattle.lb_domain.proofs.ring.ring.Goals as goal

pub returns : goal.returns
returns c =
    let span = step_span c.args.machine.now.cpus c.args.machine.now.distances c.args.part c.args.step in
    let later = c.in_ok-push_spans.ensures ∙ ap (λ (g : List Mask). g ++ map span (members c.without.result))
    c.new-groups.ensures in
    c.in_ok-push_spans-2.ensures ∙ ap (λ (g : List Mask). g ++ map span (members c.and.result)) later
    ∙ ring_is span c.args.leaders c.all-before.result c.without.result c.and.result c.first_or_zero-own.result c.args.cpu
    (c.first_or_zero-own.ensures.first ∙ ap (λ (m : Mask). unwrap_or (least m) 0) c.step_span.ensures)
    c.all-before.ensures.cpus c.without.ensures.cpus c.and.ensures.cpus
