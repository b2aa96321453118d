-- For `is_bad` of src/queue/commands.rt: whether a mask is empty, or has a CPU past the machine.
use Rattle.std.proofs.Common.{rules, ◌≡◌, ◌<◌, ◌^◌, ◌∙◌, sym, ap, false}
use Rattle.std.specs.Prelude.{is_none}
use Rattle.lb_base.specs.Sets.{is_empty, is_below}
use Rattle.lb_queue.proofs.Masks.{below_is, bad_by, none_not_some}
use Rattle.lb_queue.proofs.queue.commands.is_bad.Goals as goal

pub returns : goal.returns
returns c =
    let fits : c.args.mask.bits < 2 ^ 64 = search rules in
    let some : is_empty c.args.mask ≡ false =
    ap is_none (sym c.first.ensures.value) ∙ none_not_some c.first.result c.is_none.result c.is_none.ensures ∙
    c.if-is_none.false in
    bad_by (is_empty c.args.mask) (is_below c.args.mask c.args.cpus) c.subset.result some
    (below_is c.args.mask c.all.result c.args.cpus c.subset.result fits c.all.ensures.cpus c.subset.ensures.0 c.subset.ensures.1)
