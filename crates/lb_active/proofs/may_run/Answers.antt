-- For `may_run` of src/lib.rt: whether the mask has the CPU; it has none past the last.
use Rattle.std.proofs.Common.{rules, ◌<◌, ◌^◌, sym}
use Rattle.lb_base.proofs.Members.{has_above}
use Rattle.lb_active.proofs.may_run.Goals as goal

pub returns-else-cpu-lt-MAX_CPUS : goal.returns-else-cpu-lt-MAX_CPUS
returns-else-cpu-lt-MAX_CPUS c =
    let fits : c.args.mask.bits < 2 ^ 64 = search rules in
    sym (has_above c.args.mask c.args.cpu fits c.if-cpu-lt-MAX_CPUS.false)
