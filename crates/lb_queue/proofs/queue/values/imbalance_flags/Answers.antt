-- For `imbalance_flags` of src/queue/values.rt: the flags of the positions that are marked as imbalanced.
use Rattle.std.proofs.Common.{◌≤◌, ◌^◌, ◌+◌, arith}
use Rattle.std.proofs.Math.Pow.{pow_mono}
use Rattle.lb_queue.specs.Turns.{no_counters}
use Rattle.lb_queue.proofs.Flags.{flags_below, counted_next, counted_all}
use Rattle.lb_queue.proofs.queue.values.imbalance_flags.Goals as goal

pub overflow_add-flags-then-counters-p : goal.overflow_add-flags-then-counters-p
overflow_add-flags-then-counters-p c =
    let m : 2 ^ (8 + c.loop-p.p) ≤ 2 ^ 28 = pow_mono {i = 8 + c.loop-p.p} {j = 28} (omega arith) in
    let n = counted_next c.args.counters.now c.loop-p.p c.loop-p.flags no_counters c.loop-p.invariant c.loop-p-test.true in
    let s = flags_below c.args.counters.now c.requires in
    omega arith

pub returns-clause-small : goal.returns-clause-small
returns-clause-small c =
    let s = flags_below c.args.counters.now c.requires in
    let e = counted_all c.args.counters.now c.loop-p.p c.loop-p.flags c.loop-p.invariant c.loop-p-test.false in
    omega arith
