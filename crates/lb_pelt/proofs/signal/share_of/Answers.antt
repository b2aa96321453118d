-- For `share_of` of src/signal.rt: what some units add, from a part of a period on.
use Rattle.std.proofs.Common.{◌+◌, ◌-◌, ◌/◌, arith, rules}
use Rattle.lb_pelt.proofs.Decays.{decayed_le, room}
use Rattle.lb_pelt.proofs.signal.share_of.Goals as goal

pub overflow_sub-result : goal.overflow_sub-result
overflow_sub-result c = omega (arith, (room ((c.args.part + c.args.units) / 1024) (omega arith)).period, c.decay.ensures)

pub overflow_sub-result-else-periods-eq0 : goal.overflow_sub-result-else-periods-eq0
overflow_sub-result-else-periods-eq0 c = omega
    (arith, (room ((c.args.part + c.args.units) / 1024) (omega arith)).period, c.decay.ensures)

pub overflow_add-result : goal.overflow_add-result
overflow_add-result c = let small = decayed_le (1024 - c.args.part) ((c.args.part + c.args.units) / 1024) in search (rules, small)

pub overflow_add-result-else-periods-eq0 : goal.overflow_add-result-else-periods-eq0
overflow_add-result-else-periods-eq0 c = let small =
    decayed_le (1024 - c.args.part) ((c.args.part + c.args.units) / 1024) in search (rules, small)
