-- Hands that land one after the other, before the queues are let go.
-- For `land_last`.
use Rattle.std.proofs.Common.{ℕ, ◌≡◌, ◌≢◌, ◌<◌, ◌≤◌, ◌+◌, ◌-◌, ◌==◌, Bool, true, false, cond, Option, Some, None, IfSome, is_some, find, All, List, [], ◌∷◌, ◌++◌, length, map, slice_set, slice_index_or, inl, inr, refl, ap, sym, ◌∙◌, subst, arith}
use Rattle.std.proofs.Math.ListN.{length-set, get_or-append}
use Rattle.std.proofs.lemmas.Bool.{cases_eq}
use Rattle.std.proofs.lemmas.List.{get_or-set_same, get_or-set_other, get_or_default, length-map, length-append}
use Rattle.std.proofs.lemmas.List.Sums.{sum_by-append}
use Rattle.lb_queue.specs.declared.record.TaskRecord.{TaskRecord}
use Rattle.lb_queue.specs.declared.awake.Awake.{Awake}
use Rattle.lb_queue.specs.declared.answers.OutCause.{OutCause}
use Rattle.lb_queue.specs.Calls.{Land}
use Rattle.lb_queue.specs.Hands.{HandState, land}
use Rattle.lb_queue.specs.Laws.{CallsMove, CallsKeepRest}
use Rattle.lb_queue.specs.Moves.{OnAwake, OnAsleep, OnGone, AreDistinct}
use Rattle.lb_queue.specs.Queue.{QueueState, BookedQueue, knows}
use Rattle.lb_queue.specs.Tasks.{ids, occurs}
use Rattle.lb_queue.proofs.Search.{there_at}
use Rattle.lb_core.specs.Machine.{queue_at, no_queue}
use Rattle.lb_engine.specs.Ending.{CanLand, times_in, times_queued}
use Rattle.lb_engine.specs.Held.{tasks_for, booked_at}
use Rattle.lb_engine.proofs.Booking.{bookings_at}
use Rattle.lb_engine.proofs.Fitting.{for_it, for_another}
use Rattle.lb_engine.proofs.Queues.{states, bookings, states_set, bookings_set}
use Rattle.lb_engine.proofs.Serving.{queue_is}

-- ---- a task that stands in no list is not known
absent_at : {X : Type 0} (b : Bool) (x : X) (o : Option X) (n : ℕ) → cond {A = ℕ} b 1 0 + n ≡ 0
    → (n ≡ 0 → is_some o ≡ false) → is_some (cond b (Some x) o) ≡ false
absent_at true x o n z h = absurd (let k : ⊥ = omega arith in k)
absent_at false x o n z h = h (omega arith)

absent : {X : Type 0} (f : X → ℕ) (id : ℕ) (xs : List X) → occurs id (map f xs) ≡ 0 → is_some (find (λ y. f y == id) xs) ≡ false
absent f id [] z = refl
absent f id (x ∷ xs) z = absent_at (f x == id) x (find (λ y. f y == id) xs) (occurs id (map f xs)) z (absent f id xs)

not_known : (q : QueueState) (id : ℕ) → times_queued id q ≡ 0 → knows q id ≡ false
not_known q id z =
    let a = absent (λ (x : Awake). x.task.id) id q.awake (omega arith) in
    let s = absent (λ (t : TaskRecord). t.id) id q.asleep (omega arith) in
    let g = absent (λ (t : TaskRecord). t.id) id q.gone (omega arith) in
    rw (a, s, g) refl

-- ---- a landing
distinct : (q : QueueState) → ((id : ℕ) → times_queued id q ≤ 1) → AreDistinct q
distinct q few = record { awake = λ id. (let f = few id in omega arith); asleep = λ id. (let f = few id in omega arith) }

land_times : CallsMove → (q : QueueState) (at : ℕ) (cause : OutCause) (moment : ℕ) (tasks : List TaskRecord) (id : ℕ)
    → AreDistinct q
    → times_queued id (land q at cause moment tasks) ≡ times_queued id q + occurs id (ids tasks)
land_times moves q at cause moment tasks id apart =
    let m = moves q apart (Land at cause moment tasks) in
    let a = m OnAwake id in
    let s = m OnAsleep id in
    let g = m OnGone id in
    omega arith

land_cpu : CallsKeepRest → (q : QueueState) (at : ℕ) (cause : OutCause) (moment : ℕ) (tasks : List TaskRecord)
    → (land q at cause moment tasks).cpu ≡ q.cpu
land_cpu rests q at cause moment tasks = (rests q (Land at cause moment tasks)).cpu

-- ---- a list of hands without its last
front : (hands : List (Option HandState)) (hand : Option HandState) (queues : List QueueState)
    → All (λ hand. IfSome hand (λ (h : HandState). h.to < length queues)) (hands ++ hand ∷ [])
    → All (λ hand. IfSome hand (λ (h : HandState). h.to < length queues)) hands
front hands hand queues all k d lt =
    let P : Option HandState → Type 0 = λ x. IfSome x (λ (h : HandState). h.to < length queues) in
    subst P (get_or-append hands (hand ∷ []) d k lt) (all k d (let l = length-append hands (hand ∷ []) in omega arith))

-- ---- one hand lands
-- the last hand, alone
pub record IsNext (h : HandState) (q : BookedQueue) (to n : ℕ) : Type 0 where
  pub own : q.state.cpu ≡ to
  pub room : length h.tasks ≤ q.booked
  pub once : (id : ℕ) → occurs id (ids h.tasks) + times_queued id q.state ≤ 1

pub next : (hands : List (Option HandState)) (h : HandState) (queues : List BookedQueue) (q : BookedQueue)
    → h.to < length queues → q ≡ slice_index_or queues h.to q
    → CanLand (hands ++ Some h ∷ []) (states queues) (bookings queues) → IsNext h q h.to (length queues)
next hands h queues q inside qe can =
    let s : queue_at (states queues) h.to ≡ q.state = queue_is queues h.to q inside qe in
    let b : booked_at (bookings queues) h.to ≡ q.booked = bookings_at queues h.to q inside qe in
    let t : tasks_for h.to (Some h) ≡ length h.tasks = for_it h.to h refl in
    record {
      own = sym (ap (λ (x : QueueState). x.cpu) s)
          ∙ can.own h.to (let l = length-map queues (λ (x : BookedQueue). x.state) in omega arith);
      room = (let r = can.room h.to in let k = sum_by-append (tasks_for h.to) hands (Some h ∷ []) in omega arith);
      once = λ id. (let r = can.once h.to id in let k = sum_by-append (times_in id) hands (Some h ∷ []) in
          let e = ap (λ (x : QueueState). times_queued id x) s in omega arith);
    }

-- so its tasks are not known where it lands
pub unknown_there : (h : HandState) (q : BookedQueue) (to n : ℕ) → IsNext h q to n
    → All (λ (t : TaskRecord). knows q.state t.id ≡ false) h.tasks
unknown_there h q to n is k d lt =
    let t = slice_index_or h.tasks k d in
    let there = there_at (λ (x : TaskRecord). x.id) h.tasks k d lt in
    let o = is.once t.id in
    not_known q.state t.id (omega arith)

pub landed_one : CallsMove → CallsKeepRest
    → (at : ℕ) (cause : OutCause) (hands : List (Option HandState)) (h : HandState) (queues : List BookedQueue)
    (q q2 : BookedQueue)
    → h.to < length queues → q ≡ slice_index_or queues h.to q → q2.state ≡ land q.state at cause h.moment h.tasks
    → q2.booked ≡ q.booked - length h.tasks
    → CanLand (hands ++ Some h ∷ []) (states queues) (bookings queues)
    → CanLand hands (states (slice_set queues h.to q2)) (bookings (slice_set queues h.to q2))
landed_one moves rests at cause hands h queues q q2 inside qe q2e be can =
    let to = h.to in
    let is = next hands h queues q inside qe can in
    let se = states_set queues to q2 in
    let le = bookings_set queues to q2 in
    let there : to < length (states queues) = (let l = length-map queues (λ (x : BookedQueue). x.state) in omega arith) in
    let booked : to < length (bookings queues) = (let l = length-map queues (λ (x : BookedQueue). x.booked) in omega arith) in
    let many : length (states (slice_set queues to q2)) ≡ length (states queues) =
    ap (λ (l : List QueueState). length l) se ∙ length-set (states queues) to q2.state in
    let here : queue_at (states (slice_set queues to q2)) to ≡ q2.state =
    ap (λ (l : List QueueState). queue_at l to) se ∙ get_or-set_same (states queues) to q2.state no_queue there in
    let elsewhere : (cpu : ℕ) → cpu ≢ to → queue_at (states (slice_set queues to q2)) cpu
    ≡ queue_at (states queues) cpu = λ cpu d.
    ap (λ (l : List QueueState). queue_at l cpu) se ∙ get_or-set_other (states queues) to cpu q2.state no_queue d in
    let apart = distinct q.state (λ id. (let o = is.once id in omega arith)) in
    record {
      own = λ cpu lt. elim (cases_eq cpu to) [
        | inl e ↦ ap (λ (k : ℕ). (queue_at (states (slice_set queues to q2)) k).cpu) e
            ∙ ap (λ (x : QueueState). x.cpu) (here ∙ q2e) ∙ land_cpu rests q.state at cause h.moment h.tasks ∙ is.own ∙ sym e
        | inr d ↦ ap (λ (x : QueueState). x.cpu) (elsewhere cpu d) ∙ can.own cpu (omega arith)
      ];
      goes = λ k d lt.
          let P : ℕ → Type 0 = λ n. IfSome (slice_index_or hands k d) (λ (x : HandState). x.to < n) in
          subst P (sym many) (front hands (Some h) (states queues) can.goes k d lt);
      room = λ cpu.
          let r = can.room cpu in
          let s = sum_by-append (tasks_for cpu) hands (Some h ∷ []) in
          elim (cases_eq cpu to) [
            | inl e ↦
                let t = for_it cpu h (sym e) in
                let b : booked_at (bookings (slice_set queues to q2)) cpu ≡ q2.booked =
                ap (λ (k : ℕ). booked_at (bookings (slice_set queues to q2)) k) e
                ∙ ap (λ (l : List ℕ). booked_at l to) le ∙ get_or-set_same (bookings queues) to q2.booked 0 booked in
                let b1 : booked_at (bookings queues) cpu ≡ q.booked =
                ap (λ (k : ℕ). booked_at (bookings queues) k) e ∙ bookings_at queues to q inside qe in
                omega arith
            | inr d ↦
                let t = for_another cpu h (λ e. d (sym e)) in
                let b : booked_at (bookings (slice_set queues to q2)) cpu ≡ booked_at (bookings queues) cpu =
                ap (λ (l : List ℕ). booked_at l cpu) le ∙ get_or-set_other (bookings queues) to cpu q2.booked 0 d in
                omega arith
          ];
      once = λ cpu id.
          let r = can.once cpu id in
          let s = sum_by-append (times_in id) hands (Some h ∷ []) in
          elim (cases_eq cpu to) [
            | inl e ↦
                let q1 : queue_at (states queues) to ≡ q.state = queue_is queues to q inside qe in
                let r1 = can.once to id in
                let t1 = ap (λ (x : QueueState). times_queued id x) q1 in
                let t2 = ap (λ (x : QueueState). times_queued id x)
                (ap (λ (k : ℕ). queue_at (states (slice_set queues to q2)) k) e ∙ here ∙ q2e) in
                let m = land_times moves q.state at cause h.moment h.tasks id apart in
                omega arith
            | inr d ↦ (let t = ap (λ (x : QueueState). times_queued id x) (elsewhere cpu d) in omega arith)
          ];
    }

-- what its landing asks, where the code has read its destination
pub record Landing (h : HandState) (queues : List BookedQueue) (to : ℕ) (d : BookedQueue) : Type 0 where
  pub inside : h.to < length queues
  pub is : slice_index_or queues to d ≡ slice_index_or queues h.to (slice_index_or queues to d)
  pub own : h.to ≡ (slice_index_or queues to d).state.cpu
  pub room : length h.tasks ≤ (slice_index_or queues to d).booked
  pub differ : (id : ℕ) → occurs id (ids h.tasks) ≤ 1
  pub unknown : All (λ (t : TaskRecord). knows (slice_index_or queues to d).state t.id ≡ false) h.tasks

pub landing : (h : HandState) (queues : List BookedQueue) (to : ℕ) (d : BookedQueue) → to ≡ h.to
    → CanLand (Some h ∷ []) (states queues) (bookings queues) → Landing h queues to d
landing h queues to d e can =
    let q = slice_index_or queues to d in
    let goes : h.to < length (states queues) = can.goes 0 None (omega arith) in
    let inside : h.to < length queues = (let l = length-map queues (λ (x : BookedQueue). x.state) in omega arith) in
    let is : q ≡ slice_index_or queues h.to q = ap (λ (k : ℕ). slice_index_or queues k d) e
    ∙ get_or_default queues h.to d q inside in
    let n = next [] h queues q inside is can in
    record {
      inside = inside;
      is = is;
      own = sym n.own;
      room = n.room;
      differ = λ id. (let o = n.once id in omega arith);
      unknown = unknown_there h q h.to (length queues) n;
    }
