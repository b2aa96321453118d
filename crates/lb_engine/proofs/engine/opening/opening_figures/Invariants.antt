-- The loops of `opening_figures` of src/engine/opening.rt: the figures of the queues before any entry.
use Rattle.std.proofs.Common.{◌≡◌, map, take, [], ◌∷◌}
use Rattle.lb_queue.specs.Figures.{figure}
use Rattle.lb_engine.proofs.engine.opening.opening_figures.Given as goal

abbrev pub invariant-loop-queue : goal.invariant-loop-queue
invariant-loop-queue l = map (λ b. b.items) l.figures.items ≡ map (λ q. figure q.state 0 0 ∷ []) (take l.queue-index l.queues)
