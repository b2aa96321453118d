-- The loops of `due_counted` of src/queue/turns.rt: the positions of counters that are due.
use Rattle.std.proofs.Common.{◌≡◌, ◌&&◌, nat_lt, ℕ}
use Rattle.lb_base.specs.Mask.{has}
use Rattle.lb_interval.specs.After.{is_due}
use Rattle.lb_queue.specs.Turns.{counters_at}
use Rattle.lb_queue.proofs.queue.turns.due_counted.Given as goal

abbrev pub invariant-loop-p : goal.invariant-loop-p
invariant-loop-p l = (k : ℕ) → has l.mask k ≡ (nat_lt k l.p && is_due (counters_at l.counters k) l.busy l.cpus l.now)
