-- For `has_past` of src/masks.rt: whether a mask has an undeclared CPU.
use Rattle.std.proofs.Common.{Bool, ◌&&◌, not, ◌∙◌, ap}
use Rattle.lb_base.specs.Mask.{has}
use Rattle.lb_base.proofs.Sets.{below_is}
use Rattle.lb_trace.proofs.masks.has_past.Goals as goal

pub returns : goal.returns
returns c =
    c.is_some.ensures
    ∙ below_is c.args.mask c.without.result c.args.cpus c.first.result
    (λ k. c.without.ensures.cpus k ∙ ap (λ (b : Bool). has c.args.mask k && not b) (c.all.ensures.cpus k)) c.first.ensures.cpus
