-- For `idle_positions` of src/queue/turns.rt: the positions of a newly-idle turn, which opens none where
-- somebody is awake.
use Rattle.std.proofs.Common.{◌≡◌, ℕ, nat_lt, arith, subst}
use Rattle.lb_base.specs.Mask.{has}
use Rattle.lb_queue.specs.Turns.{idle_levels}
use Rattle.lb_queue.proofs.Positions.{levels_are}
use Rattle.lb_queue.proofs.queue.turns.idle_positions.Goals as goal

pub returns-then-idle : goal.returns-then-idle
returns-then-idle c =
    let n = idle_levels c.args.avg_idle 0 c.args.shapes.now in
    let few = c.levels.ensures.few in
    let same = c.levels.ensures.value in
    rw c.if-idle.true (levels_are n c.all.result (omega arith)
    (λ k. subst (λ (m : ℕ). has c.all.result k ≡ nat_lt k m) same (c.all.ensures.cpus k)))
