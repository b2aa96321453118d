-- The queue that an entry leaves is still that of its CPU, and nobody is sent past the machine.
-- For the lemmas of `Figures` and `Keeping`, and so for the laws `calls_may_be_made`, `ready` and others.
use Rattle.std.proofs.Common.{◌+◌, ◌*◌, arith, ◌≡◌, ℕ, ◌<◌, Bool, true, false, cond, ◌==◌, Option, Some, None, unwrap_or, refl, ap, ◌∙◌}
use Rattle.std.specs.List.{list_all}
use Rattle.std.proofs.lemmas.Bool.{and_parts, and_from, or_parts, not-false, lt-ltb, ltb-true, le-leb, leb-true}
use Rattle.lb_base.specs.declared.mask.Mask.{Mask}
use Rattle.lb_base.specs.Mask.{has}
use Rattle.lb_base.specs.Sets.{is_empty, is_below, least}
use Rattle.lb_pelt.specs.declared.signal.Run.{Run}
use Rattle.lb_pelt.specs.Signal.{Sums, IsBounded, advanced}
use Rattle.lb_detach.specs.declared.Env.{Env}
use Rattle.lb_imbalance.specs.declared.decision.Decision.{Decision}
use Rattle.lb_imbalance.specs.declared.decision.Decision.TheVariants.{Pull}
use Rattle.lb_trace.specs.declared.trace.Command.{Command}
use Rattle.lb_trace.specs.declared.trace.Command.TheVariants.{SetMask, Tick}
use Rattle.lb_trace.specs.declared.trace.Header.{Header}
use Rattle.lb_queue.specs.declared.record.TaskRecord.{TaskRecord}
use Rattle.lb_queue.specs.declared.answers.Stop.{Stop}
use Rattle.lb_queue.specs.declared.awake.Awake.{Awake}
use Rattle.lb_queue.specs.Tasks.{task_with}
use Rattle.lb_queue.specs.Queue.{QueueState, away, away_of}
use Rattle.lb_queue.specs.Requests.{is_next_asked, next_asked, stop_of, ask_active, asked_for, kick}
use Rattle.lb_queue.specs.Commands.{is_bad_mask, with_mask}
use Rattle.lb_queue.specs.Turns.{close_look}
use Rattle.lb_queue.specs.Hands.{land}
use Rattle.lb_queue.proofs.Every.{all_find}
use Rattle.lb_core.specs.declared.course.Course.{Course}
use Rattle.lb_core.specs.declared.course.Form.{Form}
use Rattle.lb_core.specs.declared.entry.What.{What}
use Rattle.lb_core.specs.declared.entry.What.TheVariants.{Did, Out, Landed, Ask}
use Rattle.lb_core.specs.Course.{env_by}
use Rattle.lb_core.specs.Sight.{Sight}
use Rattle.lb_core.specs.Leaving.{Leaving, out_by}
use Rattle.lb_core.specs.QueueAfter.{cause_of, queue_by, answer_to}
use Rattle.lb_core.proofs.EmptyHands.{is_out}
use Rattle.lb_ready.specs.Ready.{is_mask_in, is_bounded, is_task_in, IsQueueOf}
use Rattle.lb_ready.proofs.Steps.{of_out, Test, Passes, Takes, answer_passes, land_passes, out_passes, Alike, answer_alike, land_alike, out_alike, QueueLaws}
use Rattle.lb_ready.proofs.Counting.{least_found, member_below}

-- ---- masks in the machine, and signals in their bounds
pub bounded_is : (x : Sums) → is_bounded x ≡ true → IsBounded x
bounded_is x h =
    let a = and_parts _ _ h in
    let b = and_parts _ _ a.0 in
    let c = and_parts _ _ b.0 in
    record {
      part_small = ltb-true x.part 1024 c.0;
      load_small = leb-true x.load_sum (46718 + x.part) c.1;
      runnable_small = leb-true x.runnable_sum (1024 * (46718 + x.part) + 49152) b.1;
      util_small =
          leb-true x.util_sum (1024 * (46718 + x.part) + 49152) a.1;
    }

is_so_bounded : (x : Sums) → IsBounded x → is_bounded x ≡ true
is_so_bounded x k = and_from _ _ (and_from _ _
    (and_from _ _ (lt-ltb x.part 1024 k.part_small) (le-leb x.load_sum (46718 + x.part) k.load_small))
    (le-leb x.runnable_sum (1024 * (46718 + x.part) + 49152) k.runnable_small))
    (le-leb x.util_sum (1024 * (46718 + x.part) + 49152) k.util_small)

pub still_bounded : (laws : QueueLaws) → (x : Sums) (run : Run) (clock : ℕ) → is_bounded x ≡ true
    → is_bounded (advanced x run clock) ≡ true
still_bounded laws x run clock h = is_so_bounded (advanced x run clock) (laws.advanced_is x run clock (bounded_is x h))

pub still_in : (laws : QueueLaws) (n : ℕ) (t : TaskRecord) (run : Run) (clock : ℕ) → is_task_in n t ≡ true
    → is_task_in n (record t { signal = advanced t.signal run clock }) ≡ true
still_in laws n t run clock h = let p = and_parts (is_mask_in n t.mask) (is_bounded t.signal) h in
    and_from (is_mask_in n t.mask) _ p.0 (still_bounded laws t.signal run clock p.1)

abbrev pub below : QueueLaws → ℕ → Test
below laws n = record {
  up = λ s t. is_task_in n t;
  down = λ t. is_task_in n t;
  lasts = record {
    leaves = λ s t h. h;
    ages_awake = λ s t run clock d h. still_in laws n t run clock h;
    ages = λ t run clock d h. still_in laws n t run clock h;
  };
  joins = λ t h. h;
  renices = λ id nice. record { awake = λ s t i h. h; asleep = λ t i h. h };
}

masks_pass : (laws : QueueLaws) → (n cpu : ℕ) (q : QueueState) → IsQueueOf n cpu q → Passes (below laws n) q
masks_pass laws n cpu q k = record { awake = k.awake; asleep = k.asleep; gone = k.gone }

good_mask : (n cpu : ℕ) (q : QueueState) (m : Mask) → IsQueueOf n cpu q → is_bad_mask q m ≡ false → is_mask_in n m ≡ true
good_mask n cpu q m k h = let p = or_parts (is_empty m) _ h in let b = not-false _ p.1 in and_from _ _
    (rw k.machine at b) (rw p.0 refl)

masked_in : (n : ℕ) (mask : Mask) (t : TaskRecord) → is_mask_in n mask ≡ true → is_task_in n t ≡ true
    → is_task_in n (with_mask mask t) ≡ true
masked_in n mask t m h = and_from (is_mask_in n mask) _ m ((and_parts (is_mask_in n t.mask) _ h).1)

takes_below : (laws : QueueLaws) → (n cpu : ℕ) (q : QueueState) (command : Option Command) → IsQueueOf n cpu q
    → Takes (below laws n) q command
takes_below laws n cpu q (Some (SetMask id mask)) k = λ good. let m = good_mask n cpu q mask k good in
    record { awake = λ s t i h. masked_in n mask t m h; asleep = λ t i h. masked_in n mask t m h }
takes_below laws n cpu q (Some (Tick u)) k = λ s t p h. h
takes_below laws n cpu q command k = tt

-- what is alike, with such masks
pub still_queue : (laws : QueueLaws) → (n cpu : ℕ) (q q' : QueueState) → IsQueueOf n cpu q → Alike q q'
    → Passes (below laws n) q' → IsQueueOf n cpu q'
still_queue laws n cpu q q' k a p = record {
  own = a.own ∙ k.own;
  machine = a.machine ∙ k.machine;
  awake = p.awake;
  asleep = p.asleep;
  gone = p.gone;
  active = λ to e. k.active to (a.asked to e);
}

-- an active request goes to this CPU, or stays
asked_stays : (n : ℕ) (o : Option ℕ) (to : ℕ) → to < n → ((u : ℕ) → o ≡ Some u → u < n) → (u : ℕ)
    → asked_for o to ≡ Some u → u < n
asked_stays n None to lt old u e = let k : to ≡ u = cc in rw (← k) lt
asked_stays n (Some v) to lt old u e = old u e

pub queue_fits : (laws : QueueLaws) → (n cpu : ℕ) (s : Sight) (w : What) (lane : ℕ) → is_out w ≡ false
    → s.course.cpu < n → list_all (λ t. is_task_in n t) s.course.hand ≡ true → IsQueueOf n cpu s.queue
    → IsQueueOf n cpu (queue_by w s lane)
unfolding close_look ask_active kick
queue_fits laws n cpu s (Did r) lane o lt h k =
    still_queue laws n cpu s.queue (answer_to s.course.command s.course.at s.queue).1 k
    (answer_alike laws s.course.command s.course.at s.queue)
    (answer_passes laws (below laws n) s.course.command s.course.at s.queue
    (takes_below laws n cpu s.queue s.course.command k) (masks_pass laws n cpu s.queue k))
queue_fits laws n cpu s (Out cause to tasks) lane o lt h k = absurd (let y : ⊥ = cc in y)
queue_fits laws n cpu s (Landed tasks) lane o lt h k =
    still_queue laws n cpu s.queue (land s.queue s.course.at (cause_of s.course) s.course.moment s.course.hand) k
    (land_alike laws s.queue s.course.at (cause_of s.course) s.course.moment s.course.hand)
    (land_passes laws (below laws n) s.queue s.course.at (cause_of s.course) s.course.moment s.course.hand h
    (masks_pass laws n cpu s.queue k))
queue_fits laws n cpu s (Ask r) lane o lt h k =
    record {
      own = k.own;
      machine = k.machine;
      awake = k.awake;
      asleep = k.asleep;
      gone = k.gone;
      active = asked_stays n s.queue.active s.course.cpu lt k.active;
    }
queue_fits laws n cpu s w lane o lt h k =
    record { own = k.own; machine = k.machine; awake = k.awake; asleep = k.asleep; gone = k.gone; active = k.active }

-- ---- tasks that leave
-- where they go
least_below : (m : Mask) (n c : ℕ) → is_mask_in n m ≡ true → least m ≡ Some c → c < n
least_below m n c h e = let f = least_found m c e in member_below m n c ((and_parts (is_below m n) _ h).0) f

pub record GoesTo (n cpu : ℕ) (l : Leaving) : Type 0 where
  pub to : l.to < n
  pub hand : list_all (λ t. is_task_in n t) l.hand ≡ true
  pub rest : IsQueueOf n cpu l.rest

away_to : (n cpu : ℕ) (o : Option TaskRecord) (q : QueueState) (to : ℕ)
    → ((x : TaskRecord) → o ≡ Some x → is_task_in n x ≡ true) → away_of q o ≡ Some to → to < n
away_to n cpu None q to h e = absurd (let y : ⊥ = cc in y)
away_to n cpu (Some x) q to h e = by_test (has x.mask q.cpu) e
  where
    by_test : (b : Bool) → cond b None (least x.mask) ≡ Some to → to < n
    by_test true e = absurd (let y : ⊥ = cc in y)
    by_test false e = least_below x.mask n to ((and_parts (is_mask_in n x.mask) _ (h x refl)).0) e

least_or_none : (n : ℕ) (m : Mask) (o : Option ℕ) → 0 < n → is_mask_in n m ≡ true → least m ≡ o → unwrap_or o 0 < n
least_or_none n m None some h e = some
least_or_none n m (Some c) some h e = least_below m n c h e

next_goes : (n cpu : ℕ) (o : Option Awake) (owed : Bool) (q : QueueState) (s : Stop) → 0 < n → IsQueueOf n cpu q
    → next_asked owed q.awake ≡ o → stop_of o ≡ Some s → s.to < n
unfolding next_asked
next_goes n cpu None owed q s some k a e = absurd (let y : ⊥ = cc in y)
next_goes n cpu (Some x) owed q s some k a e =
    let m : is_task_in n x.task ≡ true = all_find (λ (y : Awake). is_task_in n y.task) (is_next_asked owed q.awake)
    q.awake x k.awake a in
    let t = least_or_none n x.task.mask (least x.task.mask) some ((and_parts (is_mask_in n x.task.mask) _ m).0) refl in
    let w : unwrap_or (least x.task.mask) 0 ≡ s.to = cc in
    rw (← w) t

env_to : (n : ℕ) (d : Option Decision) (h : Header) (c : Course) (env : Env) → c.cpu < n → env_by h c d ≡ Some env → env.to < n
env_to n (Some (Pull s k i)) h c env lt e = let w : c.cpu ≡ env.to = ap to_of e in rw (← w) lt
  where
    to_of : Option Env → ℕ
    to_of None = 0
    to_of (Some env) = env.to
env_to n d h c env lt e = absurd (let y : ⊥ = cc in y)

out_to : (n cpu : ℕ) (f : Form) (h : Header) (c : Course) (q : QueueState) (l : Leaving) → c.cpu < n
    → IsQueueOf n cpu q → out_by f h c q ≡ Some l → l.to < n
unfolding away
out_to n cpu f h c q l lt k e = of_out (λ (l : Leaving). l.to < n) f h c q l (record {
  wake = λ id to i j a. away_to n cpu (task_with id q.asleep) q to
      (λ x f. all_find (λ (t : TaskRecord). is_task_in n t) (λ t. t.id == id) q.asleep x k.asleep f) a;
  stop = λ s owed i m. next_goes n cpu (next_asked owed q.awake) owed q s (omega arith) k refl m;
  push = λ to i m a. k.active to a;
  pulls = λ env i m. env_to n c.decision h c env lt m;
}) e

pub out_goes : (laws : QueueLaws) → (n cpu : ℕ) (f : Form) (h : Header) (c : Course) (q : QueueState) (l : Leaving)
    → c.cpu < n → IsQueueOf n cpu q → out_by f h c q ≡ Some l → GoesTo n cpu l
out_goes laws n cpu f h c q l lt k e =
    let p = out_passes laws (below laws n) f h c q l e (masks_pass laws n cpu q k) in
    record {
      to = out_to n cpu f h c q l lt k e;
      hand = p.hand;
      rest = still_queue laws n cpu q l.rest k (out_alike laws f h c q l e) p.rest;
    }
