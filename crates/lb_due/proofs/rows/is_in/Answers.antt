-- For `is_in` of src/rows.rt: whether a mask has CPUs of a machine of so many alone.
use Rattle.std.proofs.Common.{sym, ◌∙◌, ap, Bool, not, ◌&&◌}
use Rattle.lb_base.specs.Mask.{has}
use Rattle.lb_base.proofs.Sets.{below_is}
use Rattle.lb_due.proofs.Tests.{same_unless}
use Rattle.lb_due.proofs.rows.is_in.Goals as goal

pub returns : goal.returns
returns c = same_unless _ _ (sym c.is_none.ensures
    ∙ below_is c.args.mask c.without.result c.args.cpus c.first.result
    (λ k. c.without.ensures.cpus k ∙ ap (λ (b : Bool). has c.args.mask k && not b) (c.all.ensures.cpus k)) c.first.ensures.cpus)
