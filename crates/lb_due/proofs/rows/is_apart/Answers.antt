-- For `is_apart` of src/rows.rt: whether two masks share no CPU.
use Rattle.std.proofs.Common.{sym, ◌∙◌}
use Rattle.lb_base.proofs.Sets.{apart_is}
use Rattle.lb_due.proofs.Tests.{same_unless}
use Rattle.lb_due.proofs.rows.is_apart.Goals as goal

pub returns : goal.returns
returns c = same_unless _ _ (sym c.is_none.ensures
    ∙ apart_is c.args.mask c.args.other c.and.result c.first.result c.and.ensures.cpus c.first.ensures.cpus)
