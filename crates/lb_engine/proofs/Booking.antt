-- Landings that are booked at a queue, and used there.
-- For `Engine::book`.
use Rattle.std.proofs.Common.{ℕ, ◌≡◌, ◌+◌, ◌<◌, List, length, slice_set, slice_index_or, sym, ap, subst, ◌∙◌}
use Rattle.std.proofs.Math.Seq.{map-set_same}
use Rattle.std.proofs.lemmas.List.{length-map, get_or-map}
use Rattle.lb_queue.specs.Queue.{QueueState, BookedQueue}
use Rattle.lb_engine.specs.Held.{Held, booked_at}
use Rattle.lb_engine.proofs.Queues.{states, bookings, bookings_set}

pub bookings_at : (queues : List BookedQueue) (cpu : ℕ) (q : BookedQueue) → cpu < length queues
    → q ≡ slice_index_or queues cpu q → booked_at (bookings queues) cpu ≡ q.booked
bookings_at queues cpu q inside qe = get_or-map (λ (b : BookedQueue). b.booked) queues cpu q 0 inside
    ∙ ap (λ (b : BookedQueue). b.booked) (sym qe)

states_same : (queues : List BookedQueue) (cpu : ℕ) (q q2 : BookedQueue) → q ≡ slice_index_or queues cpu q
    → q2.state ≡ q.state → states (slice_set queues cpu q2) ≡ states queues
states_same queues cpu q q2 qe e = map-set_same (λ (b : BookedQueue). b.state) queues cpu q2 q
    (e ∙ ap (λ (b : BookedQueue). b.state) qe)

pub queue_within : (v now : Held) (queues : List BookedQueue) (cpu : ℕ) → v ≡ now → v.machine.queues ≡ states queues
    → cpu < length now.machine.queues → cpu < length queues
queue_within v now queues cpu e vq incpu =
    subst (λ (n : ℕ). cpu < n)
    (ap (λ (p : Held). length p.machine.queues) (sym e) ∙ ap (λ (l : List QueueState). length l) vq
    ∙ length-map queues (λ (b : BookedQueue). b.state)) incpu

-- a list of bookings with another number for a CPU
pub rebooked : (v now : Held) (queues : List BookedQueue) (cpu n : ℕ) (q2 : BookedQueue) → v ≡ now
    → v.booked ≡ bookings queues → q2.booked ≡ n → bookings (slice_set queues cpu q2) ≡ slice_set now.booked cpu n
rebooked v now queues cpu n q2 e vb be =
    bookings_set queues cpu q2 ∙ ap (λ (b : List ℕ). slice_set b cpu q2.booked)
    (sym vb ∙ ap (λ (p : Held). p.booked) e) ∙ ap (λ (k : ℕ). slice_set now.booked cpu k) be

-- what is booked at a CPU
pub booked_now : (v now : Held) (queues : List BookedQueue) (cpu : ℕ) (q : BookedQueue) → v ≡ now
    → v.machine.queues ≡ states queues → v.booked ≡ bookings queues
    → cpu < length now.machine.queues → q ≡ slice_index_or queues cpu q → booked_at now.booked cpu ≡ q.booked
booked_now v now queues cpu q e vq vb incpu qe =
    ap (λ (p : Held). booked_at p.booked cpu) (sym e) ∙ ap (λ (b : List ℕ). booked_at b cpu) vb
    ∙ bookings_at queues cpu q (queue_within v now queues cpu e vq incpu) qe

pub booked_more : (v now : Held) (queues : List BookedQueue) (cpu k : ℕ) (q q2 : BookedQueue) → v ≡ now
    → v.machine.queues ≡ states queues → v.booked ≡ bookings queues
    → cpu < length now.machine.queues → q ≡ slice_index_or queues cpu q → q2 ≡ record q { booked = q.booked + k }
    → record v {
      machine = record v.machine { queues = states (slice_set queues cpu q2) };
      booked = bookings
          (slice_set queues cpu q2);
    }
    ≡ record now { booked = slice_set now.booked cpu (booked_at now.booked cpu + k) }
booked_more v now queues cpu k q q2 e vq vb incpu qe q2e =
    let s : states (slice_set queues cpu q2) ≡ v.machine.queues =
    states_same queues cpu q q2 qe (ap (λ (b : BookedQueue). b.state) q2e) ∙ sym vq in
    let b : bookings (slice_set queues cpu q2) ≡ slice_set now.booked cpu (booked_at now.booked cpu + k) =
    rebooked v now queues cpu (booked_at now.booked cpu + k) q2 e vb
    (ap (λ (x : BookedQueue). x.booked) q2e ∙ ap (λ (n : ℕ). n + k) (sym (booked_now v now queues cpu q e vq vb incpu qe))) in
    ap (λ (l : List QueueState). record v
    { machine = record v.machine { queues = l }; booked = bookings (slice_set queues cpu q2) }) s
    ∙ ap (λ (l : List ℕ). record v { booked = l }) b
    ∙ ap (λ (p : Held). record p { booked = slice_set now.booked cpu (booked_at now.booked cpu + k) }) e
