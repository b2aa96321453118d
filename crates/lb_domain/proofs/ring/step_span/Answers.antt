-- For `step_span` of src/ring.rt: the span of a CPU at a step, within its part.
use Rattle.std.proofs.Common.{sym, ◌∙◌, ap, arith}
use Rattle.lb_base.specs.declared.mask.Mask.{Mask}
use Rattle.lb_base.specs.Mask.{both}
use Rattle.lb_domain.specs.Domains.{cut_span}
use Rattle.lb_domain.proofs.Rings.{step_above}
use Rattle.lb_domain.proofs.ring.step_span.Goals as goal

pub returns-else-step-eq0 : goal.returns-else-step-eq0
unfolding cut_span
returns-else-step-eq0 c =
    c.and.ensures.value ∙ ap (λ (m : Mask). both m c.args.part) c.span.ensures
    ∙ sym (step_above c.args.machine.now.cpus c.args.machine.now.distances c.args.part c.args.step c.args.cpu (omega arith))
