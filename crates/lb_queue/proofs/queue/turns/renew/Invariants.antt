-- The loops of `renew` of src/queue/turns.rt: the counters of each shape are made fresh.
use Rattle.std.proofs.Common.{◌≡◌, map, take, vec_capacity, vec_len}
use Rattle.lb_queue.specs.Turns.{fresh_at}
use Rattle.lb_queue.proofs.queue.turns.renew.Given as goal

abbrev pub invariant-loop-shape : goal.invariant-loop-shape
invariant-loop-shape l = (l.counters.items ≡ map (fresh_at l.now) (take l.shape-index l.shapes))
    × (vec_len l.counters ≡ l.shape-index) × (vec_capacity l.counters ≡ vec_capacity l.fn.counters)
