-- The states and the bookings of a list of queues, as contracts see them.
-- For `Engine::start`, `land_all` and `land_last`.
use Rattle.std.proofs.Common.{ℕ, ◌≡◌, ◌<◌, List, map, length, slice_set, slice_index_or}
use Rattle.std.proofs.lemmas.List.{map-set, get_or-map}
use Rattle.lb_queue.specs.Queue.{QueueState, BookedQueue}
use Rattle.lb_core.specs.Machine.{queue_at, no_queue}

abbrev pub states : List BookedQueue → List QueueState
states queues = map (λ q. q.state) queues

abbrev pub bookings : List BookedQueue → List ℕ
bookings queues = map (λ q. q.booked) queues

pub states_set : (queues : List BookedQueue) (cpu : ℕ) (q : BookedQueue)
    → states (slice_set queues cpu q) ≡ slice_set (states queues) cpu q.state
states_set queues cpu q = map-set (λ (b : BookedQueue). b.state) queues cpu q

pub bookings_set : (queues : List BookedQueue) (cpu : ℕ) (q : BookedQueue)
    → bookings (slice_set queues cpu q) ≡ slice_set (bookings queues) cpu q.booked
bookings_set queues cpu q = map-set (λ (b : BookedQueue). b.booked) queues cpu q

pub state_at : (queues : List BookedQueue) (cpu : ℕ) (d : BookedQueue) → cpu < length queues
    → queue_at (states queues) cpu ≡ (slice_index_or queues cpu d).state
state_at queues cpu d inside = get_or-map (λ (b : BookedQueue). b.state) queues cpu d no_queue inside
