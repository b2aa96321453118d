-- For `shares` of src/parts.rt.
use Rattle.std.proofs.Common.{◌∙◌}
use Rattle.lb_base.proofs.Sets.{apart_is}
use Rattle.lb_levels.proofs.parts.shares.Goals as goal

pub returns : goal.returns
returns c = c.is_some.ensures ∙ apart_is c.args.a c.args.b c.and.result c.first.result c.and.ensures.cpus c.first.ensures.cpus
