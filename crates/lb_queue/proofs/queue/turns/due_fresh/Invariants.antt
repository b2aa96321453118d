-- The loops of `due_fresh` of src/queue/turns.rt: the positions that are due by counters that are fresh at
-- some milliseconds.
use Rattle.std.proofs.Common.{◌≡◌, ◌&&◌, nat_lt, ℕ, map}
use Rattle.lb_base.specs.Mask.{has}
use Rattle.lb_interval.specs.After.{is_due}
use Rattle.lb_queue.specs.Turns.{counters_at, fresh_at}
use Rattle.lb_queue.proofs.queue.turns.due_fresh.Given as goal

abbrev pub invariant-loop-p : goal.invariant-loop-p
invariant-loop-p l = (k : ℕ) → has l.mask
    k ≡ (nat_lt k l.p && is_due (counters_at (map (fresh_at l.made) l.shapes) k) l.busy l.cpus l.now)
