-- The loops of `land_all` of src/engine/ending.rt: each hand lands where it goes, the last lane's first.
use Rattle.std.proofs.Common.{map, vec_len}
use Rattle.lb_engine.specs.Ending.{CanLand}
use Rattle.lb_engine.proofs.engine.ending.land_all.Given as goal

abbrev pub invariant-loop-slot : goal.invariant-loop-slot
invariant-loop-slot l = CanLand l.hands.items (map (λ q. q.state) l.queues) (map (λ q. q.booked) l.queues)

abbrev pub decreases-loop-slot : goal.decreases-loop-slot
decreases-loop-slot l = vec_len l.hands
