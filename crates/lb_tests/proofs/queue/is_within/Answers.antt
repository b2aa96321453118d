-- For `is_within` of src/queue.rt.
use Rattle.std.proofs.Common.{rules, ◌<◌, ◌^◌}
use Rattle.lb_queue.proofs.Masks.{below_is}
use Rattle.lb_tests.proofs.queue.is_within.Goals as goal

pub returns : goal.returns
returns c =
    let fits : c.args.mask.bits < 2 ^ 64 = search rules in
    below_is c.args.mask c.all.result c.args.cpus c.subset.result fits c.all.ensures.cpus c.subset.ensures.0 c.subset.ensures.1
