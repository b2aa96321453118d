-- For `due_counted` of src/queue/turns.rt: the positions of counters that are due.
use Rattle.std.proofs.Common.{◌≡◌, ◌&&◌, nat_lt, ℕ, arith, subst, length}
use Rattle.lb_base.specs.Mask.{has}
use Rattle.lb_interval.specs.After.{is_due}
use Rattle.lb_queue.specs.Turns.{counters_at, due_positions}
use Rattle.lb_queue.proofs.Positions.{position_step, positions_are}
use Rattle.lb_queue.proofs.queue.turns.due_counted.Goals as goal

pub loop-p-preserved : goal.loop-p-preserved
loop-p-preserved c = λ k. position_step (λ p. is_due
    (counters_at c.args.counters.now p) c.args.busy c.args.cpus c.args.now) c.loop-p.p k c.due.result
    (has c.loop-p.mask k) _ (c.with_position-mask.ensures k) (c.loop-p.invariant k) c.due.ensures

pub returns : goal.returns
unfolding due_positions
returns c =
    let cs = c.args.counters.now in
    let test = λ (p : ℕ). is_due (counters_at cs p) c.args.busy c.args.cpus c.args.now in
    let same : c.loop-p.p ≡ length cs = omega arith in
    positions_are test (length cs) c.loop-p.mask (omega arith)
    (λ k. subst (λ (n : ℕ). has c.loop-p.mask k ≡ (nat_lt k n && test k)) same (c.loop-p.invariant k))
