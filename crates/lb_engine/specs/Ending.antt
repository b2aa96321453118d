-- What is asked of hands and queues so that each hand can land before they are let go.
-- Cited by the contracts of `Engine::end`, `land_last` and `land_all`; also by `lb_state`.
use Rattle.std.specs.Prelude.{◌≡◌, ℕ, ◌+◌, ◌<◌, ◌≤◌, Option, Some, None, IfSome, All, List, length, sum_by}
use Rattle.lb_queue.specs.Hands.{HandState}
use Rattle.lb_queue.specs.Queue.{QueueState}
use Rattle.lb_queue.specs.Tasks.{ids, awake_ids, occurs}
use Rattle.lb_core.specs.Machine.{queue_at}
use Rattle.lb_engine.specs.Held.{held_for, booked_at}

-- how often an id stands in a hand, and in all hands
abbrev pub times_in : ℕ → Option HandState → ℕ
times_in id None = 0
times_in id (Some h) = occurs id (ids h.tasks)

abbrev pub times_held : ℕ → List (Option HandState) → ℕ
times_held id hands = sum_by (times_in id) hands

-- and in the lists of a queue
abbrev pub times_queued : ℕ → QueueState → ℕ
times_queued id q = occurs id (awake_ids q.awake) + occurs id (ids q.asleep) + occurs id (ids q.gone)

-- each queue is that of its CPU, each hand goes to one of them, where as many landings are booked as the
-- hands that go there hold; and no task stands twice, in a hand and a queue
pub record CanLand (hands : List (Option HandState)) (queues : List QueueState) (booked : List ℕ) : Type 0 where
  pub own : (cpu : ℕ) → cpu < length queues → (queue_at queues cpu).cpu ≡ cpu
  pub goes : All (λ hand. IfSome hand (λ (h : HandState). h.to < length queues)) hands
  pub room : (cpu : ℕ) → held_for cpu hands ≤ booked_at booked cpu
  pub once : (cpu id : ℕ) → times_held id hands + times_queued id (queue_at queues cpu) ≤ 1
