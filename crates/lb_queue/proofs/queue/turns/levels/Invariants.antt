-- The loops of `levels` of src/queue/turns.rt: how many levels a newly-idle turn goes up.
use Rattle.std.proofs.Common.{◌≡◌, ◌+◌, ◌*◌, ◌≤◌, drop}
use Rattle.lb_queue.specs.Turns.{idle_levels}
use Rattle.lb_queue.proofs.queue.turns.levels.Given as goal

abbrev pub invariant-loop-shape : goal.invariant-loop-shape
invariant-loop-shape l = (l.level ≡ l.shape-index)
    × (idle_levels l.avg_idle 0 l.shapes ≡ l.level + idle_levels l.avg_idle l.spent (drop l.shape-index l.shapes))
    × (l.spent ≤ 64000 * l.level)
