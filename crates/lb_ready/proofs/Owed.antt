-- A stop request is owed only while the lane that ticked the queue's CPU serves the tick.
-- For the lemmas of `Keeping`, and so for the laws `calls_may_be_made`, `ready` and others.
use Rattle.std.proofs.Common.{◌≡◌, ◌⊎◌, ◌+◌, ℕ, Bool, true, false, not, cond, ◌&&◌, Option, Some, None, is_some, refl, sym, ◌∙◌, ap, subst, inl, inr}
use Rattle.std.proofs.lemmas.Bool.{and_parts, eqb-true, not-false, cases_eq}
use Rattle.lb_base.specs.declared.mask.Mask.{Mask}
use Rattle.lb_base.specs.declared.shape.Kind.TheVariants.{Tick as TickTurn}
use Rattle.lb_base.specs.Mask.{has}
use Rattle.lb_trace.specs.declared.trace.Command.{Command}
use Rattle.lb_trace.specs.declared.trace.Command.TheVariants.{SetMask, Tick}
use Rattle.lb_trace.specs.declared.trace.Header.{Header}
use Rattle.lb_queue.specs.declared.awake.StopRequest.{StopRequest}
use Rattle.lb_queue.specs.declared.awake.StopRequest.TheVariants.{Free, Pending}
use Rattle.lb_queue.specs.declared.answers.OutCause.{OutCause}
use Rattle.lb_queue.specs.declared.answers.OutCause.TheVariants.{Pull as PullOut}
use Rattle.lb_queue.specs.declared.answers.Reply.{Reply}
use Rattle.lb_queue.specs.Tasks.{is_owed, is_pending}
use Rattle.lb_queue.specs.Commands.{request_after}
use Rattle.lb_queue.specs.Queue.{QueueState}
use Rattle.lb_queue.specs.Requests.{has_owed, ask_active, kick}
use Rattle.lb_queue.specs.Turns.{close_look}
use Rattle.lb_queue.specs.Hands.{land}
use Rattle.lb_core.specs.declared.course.Course.{Course}
use Rattle.lb_core.specs.declared.course.Form.{Form}
use Rattle.lb_core.specs.declared.course.Form.TheVariants.{Asked, Flight, Serving, Looked}
use Rattle.lb_core.specs.declared.entry.Owner.{Owner}
use Rattle.lb_core.specs.declared.entry.Owner.TheVariants.{Queue}
use Rattle.lb_core.specs.declared.entry.What.{What}
use Rattle.lb_core.specs.declared.entry.What.TheVariants.{Adopt, Did, Out, Landed}
use Rattle.lb_core.specs.declared.rule.Rule.TheVariants.{Owed as OwedRule, Pick}
use Rattle.lb_core.specs.Same.{same_kind, same_number}
use Rattle.lb_core.specs.Course.{ticked_cpu, is_tick}
use Rattle.lb_core.specs.Sight.{Sight}
use Rattle.lb_core.specs.Stage.{draws, queue_due, is_queue, is_owner}
use Rattle.lb_core.specs.Leaving.{Leaving, leaving, out_by}
use Rattle.lb_core.specs.QueueAfter.{rest_of, cause_of, queue_by, queue_after, answer_to}
use Rattle.lb_core.specs.CourseAfter.{lets_go, comes_to_rest, takes_off, lands, answered, course_by, cpu_of, course_after}
use Rattle.lb_core.specs.Rules.{breaks_pick}
use Rattle.lb_core.specs.Elsewhere.{owed_elsewhere}
use Rattle.lb_core.specs.Machine.{MachineState, queue_at, course_at, owned_queue, sight}
use Rattle.lb_core.specs.Step.{after}
use Rattle.lb_core.specs.Legal.{MayBeAdded}
use Rattle.lb_core.proofs.Unbroken.{unbroken_here, unbroken_elsewhere}
use Rattle.lb_core.proofs.Placing.{form_lets, leaving_is, entry}
use Rattle.lb_ready.specs.Ready.{Serves, unnamed, is_pulling, ServesIn, IsServedBy}
use Rattle.lb_ready.proofs.Courses.{drew_by}
use Rattle.lb_ready.proofs.Steps.{not_brought, of_cause, Test, Passes, Takes, answer_passes, land_passes, out_passes, QueueLaws}
use Rattle.lb_ready.proofs.Requests.{any_all, all_free}
use Rattle.lb_ready.proofs.Changes.{course_of_lane, course_elsewhere, queue_now, queue_left}

-- ---- only a tick makes requests owed
abbrev unowed : Test
unowed = record {
  up = λ s t. not (is_owed s);
  down = λ t. true;
  lasts = record { leaves = λ s t h. refl; ages_awake = λ s t run clock d h. h; ages = λ t run clock d h. refl };
  joins = λ t h. refl;
  renices = λ id nice. record { awake = λ s t i h. h; asleep = λ t i h. refl };
}

owed_none : (q : QueueState) → has_owed q ≡ false → Passes unowed q
unfolding has_owed
owed_none q h = record {
  awake = not-false _ (sym (any_all (λ a. is_owed a.stop) q.awake) ∙ h);
  asleep = all_free q.asleep;
  gone = all_free q.gone;
}

none_owed : (q : QueueState) → Passes unowed q → has_owed q ≡ false
unfolding has_owed
none_owed q k = any_all (λ a. is_owed a.stop) q.awake ∙ ap not k.awake

by_absence : (q q' : QueueState) → (Passes unowed q → Passes unowed q') → has_owed q' ≡ true → has_owed q ≡ true
by_absence q q' step h = not_brought (has_owed q) _ (λ e. none_owed q' (step (owed_none q e))) h

request_unowed : (cpu : ℕ) (mask : Mask) (s : StopRequest) → not (is_owed s) ≡ true
    → not (is_owed (request_after cpu mask s)) ≡ true
request_unowed cpu mask s h = by_mask (has mask cpu) (is_pending s)
  where
    by_mask : (b p : Bool) → not (is_owed (cond b Free (cond p s Pending))) ≡ true
    by_mask true p = refl
    by_mask false true = h
    by_mask false false = refl

takes_unowed : (q : QueueState) (command : Option Command) → is_tick command ≡ false → Takes unowed q command
takes_unowed q (Some (SetMask id mask)) n = λ good. record
    { awake = λ s t i h. request_unowed q.cpu mask s h; asleep = λ t i h. refl }
takes_unowed q (Some (Tick cpu)) n = absurd (let y : ⊥ = cc in y)
takes_unowed q command n = tt

abbrev ticks : What → Option Command → Bool
ticks (Did r) command = is_tick command
ticks w command = false

owed_before : (laws : QueueLaws) (w : What) (s : Sight) (lane : ℕ) → ticks w s.course.command ≡ false
    → has_owed (queue_by w s lane) ≡ true → has_owed s.queue ≡ true
unfolding close_look ask_active kick leaving has_owed
owed_before laws (Did r) s lane n h = by_absence s.queue (answer_to s.course.command s.course.at s.queue).1
    (answer_passes laws unowed s.course.command s.course.at s.queue (takes_unowed s.queue s.course.command n)) h
owed_before laws (Out cause to tasks) s lane n h = by_out (out_by s.course.form s.header s.course s.queue) refl h
  where
    by_out : (o : Option Leaving) → out_by s.course.form s.header s.course s.queue ≡ o
        → has_owed (rest_of o s.queue) ≡ true → has_owed s.queue ≡ true
    by_out None e h = h
    by_out (Some l) e h = by_absence s.queue l.rest
        (λ k. (out_passes laws unowed s.course.form s.header s.course s.queue l e k).rest) h
owed_before laws (Landed tasks) s lane n h =
    by_absence s.queue (land s.queue s.course.at (cause_of s.course) s.course.moment s.course.hand)
    (land_passes laws unowed s.queue s.course.at (cause_of s.course) s.course.moment s.course.hand (all_free s.course.hand)) h
owed_before laws w s lane n h = h

-- ---- the lane goes on serving
off_serves : (o : Option Leaving) (l : Leaving) (c : Course) (cpu : ℕ) → o ≡ Some l → ticked_cpu c.command ≡ Some cpu
    → is_pulling l.cause ≡ false → Serves (takes_off o c) cpu
off_serves o l c cpu e t n = rw e (t, n)

back_serves : (b : Bool) (c : Course) (cpu : ℕ) → is_tick c.command ≡ b → ticked_cpu c.command ≡ Some cpu
    → Serves (cond b (record (lets_go c) { form = Serving }) (comes_to_rest c)) cpu
back_serves true c cpu e t = t
back_serves false c cpu e t = absurd (let k = ap is_some t in let y : ⊥ = cc in y)

lands_serves : (o : OutCause) (c : Course) (cpu : ℕ) → is_pulling o ≡ false → ticked_cpu c.command ≡ Some cpu
    → Serves (lands o c) cpu
lands_serves PullOut c cpu n t = absurd (let y : ⊥ = cc in y)
lands_serves o c cpu n t = back_serves (is_tick c.command) c cpu refl t

-- the entry's own lane, by its form
goes_on_serving : (f : Form) (m : MachineState) (o : Owner) (lane prev : ℕ) (w : What) (cpu u : ℕ) (now : QueueState)
    → (course_at m.courses lane).form ≡ f → ServesIn f (unnamed (course_at m.courses lane)) cpu →
    draws f m.header (course_at m.courses lane) (owned_queue o m) lane w ≡ true → owed_elsewhere m w ≡ false
    → breaks_pick (sight m (entry o lane prev w)) w ≡ false → has_owed (queue_at m.queues cpu) ≡ true
    → Serves (course_by w (sight m (entry o lane prev w)) u now) cpu
unfolding draws sight leaving
goes_on_serving Serving m o lane prev (Out cause to tasks) cpu u now f k d e p h =
    let c = course_at m.courses lane in
    let q = owned_queue o m in
    let found = leaving_is (out_by c.form m.header c q) cause to tasks p in
    let l : Leaving = found.0 in
    let is : out_by c.form m.header c q ≡ Some l = found.1 in
    off_serves (out_by c.form m.header c q) l c cpu is k
    (of_cause (λ x. is_pulling x ≡ false) c.form m.header c q l (λ x n. n)
    (λ g x. absurd (let z : Serving ≡ Looked = sym f ∙ g in let y : ⊥ = cc in y)) is)
goes_on_serving Serving m o lane prev (Adopt v kind t) cpu u now f k d e p h =
    let x = and_parts (same_kind kind TickTurn) _ d in
    let same : t ≡ cpu = ticked_is (ticked_cpu (course_at m.courses lane).command) t cpu k x.1 in
    let owed : (same_kind kind TickTurn && has_owed (queue_at m.queues t)) ≡ true = rw (x.0, same) h in
    absurd (let y : ⊥ = cc in y)
  where
    ticked_is : (o : Option ℕ) (t cpu : ℕ) → o ≡ Some cpu → same_number o (Some t) ≡ true → t ≡ cpu
    ticked_is None t cpu e s = absurd (let y : ⊥ = cc in y)
    ticked_is (Some v) t cpu e s = let a = eqb-true v t s in let b : v ≡ cpu = cc in sym a ∙ b
goes_on_serving Flight m o lane prev (Landed tasks) cpu u now f k d e p h =
    lands_serves (cause_of (course_at m.courses lane)) (course_at m.courses lane) cpu k.1 k.0
goes_on_serving Serving m o lane prev w cpu u now f k d e p h = absurd (let y : ⊥ = cc in y)
goes_on_serving Flight m o lane prev w cpu u now f k d e p h = absurd (let y : ⊥ = cc in y)
goes_on_serving f m o lane prev w cpu u now g k d e p h = absurd k

-- ---- a tick
tick_serves : (command : Option Command) (cpu : ℕ) (before now : QueueState) (c : Course) → command ≡ c.command
    → ticked_cpu command ≡ Some cpu → Serves (answered command cpu before now c) cpu
tick_serves (Some (Tick u)) cpu before now c s t = rw (← s) t
tick_serves command cpu before now c s t = absurd (let y : ⊥ = cc in y)

ticked_owner : (f : Form) (h : Header) (c : Course) (q : QueueState) (lane : ℕ) (r : Reply) (o : Owner) (cpu : ℕ)
    → draws f h c q lane (Did r) ≡ true → is_owner (Did r) lane (queue_due f c) o ≡ true → is_tick c.command ≡ true
    → o ≡ Queue cpu → ticked_cpu c.command ≡ Some cpu
unfolding draws
ticked_owner Asked h c q lane r o cpu d w t e = by_cpu (ticked_cpu c.command) t w
  where
    by_cpu : (d : Option ℕ) → is_some d ≡ true → is_queue o d ≡ true → d ≡ Some cpu
    by_cpu None t w = absurd (let y : ⊥ = cc in y)
    by_cpu (Some u) t w = let k : is_queue (Queue cpu) (Some u) ≡ true = rw e at w in ap Some (sym (eqb-true cpu u k))
ticked_owner f h c q lane r o cpu d w t e = absurd (let y : ⊥ = cc in y)

-- ---- every queue
-- a queue that owes was one that owed, or is ticked
owned : (m : MachineState) (o : Owner) (cpu : ℕ) → o ≡ Queue cpu → has_owed (owned_queue o m) ≡ true
    → has_owed (queue_at m.queues cpu) ≡ true
owned m o cpu e h = rw e at h

pub owed_from : (laws : QueueLaws) (m : MachineState) (o : Owner) (lane prev : ℕ) (w : What)
    → MayBeAdded m (entry o lane prev w) → (cpu : ℕ) → has_owed (queue_at (after m (entry o lane prev w)).queues cpu) ≡ true →
    (has_owed (queue_at m.queues cpu) ≡ true) ⊎ (o ≡ Queue cpu) × (ticks w (course_at m.courses lane).command ≡ true)
unfolding queue_after sight
owed_from laws m o lane prev w h =
    queue_now m o lane prev w h (λ cpu q. has_owed q ≡ true
    → (has_owed (queue_at m.queues cpu) ≡ true) ⊎ (o ≡ Queue cpu) × (ticks w (course_at m.courses lane).command ≡ true))
    (λ cpu y. inl y)
    (λ cpu e lt y. by_tick cpu e (ticks w (course_at m.courses lane).command) refl y)
  where
    by_tick : (cpu : ℕ) → o ≡ Queue cpu → (b : Bool) → ticks w (course_at m.courses lane).command ≡ b
        → has_owed (queue_left m (entry o lane prev w)) ≡ true
        → (has_owed (queue_at m.queues cpu) ≡ true) ⊎ (o ≡ Queue cpu) × (ticks w (course_at m.courses lane).command ≡ true)
    by_tick cpu e true t y = inr (e, t)
    by_tick cpu e false t y = inl (owned m o cpu e (owed_before laws w (sight m (entry o lane prev w)) lane t y))

-- the entry's lane serves on
serves_on : (m : MachineState) (o : Owner) (lane prev : ℕ) (w : What) (cpu : ℕ) → MayBeAdded m (entry o lane prev w)
    → Serves (course_at m.courses lane) cpu → has_owed (queue_at m.queues cpu) ≡ true
    → IsServedBy (after m (entry o lane prev w)) cpu
unfolding course_after sight
serves_on m o lane prev w cpu h k y =
    let e = entry o lane prev w in
    let s = sight m e in
    let g = goes_on_serving (course_at m.courses lane).form m o lane prev w cpu (cpu_of o) (queue_after s e) refl k
    (form_lets m e h).1 (unbroken_elsewhere m e h OwedRule) (unbroken_here m e h Pick) y in
    let d = drew_by (λ c. Serves c cpu) o (s.count + 1) (course_by w s (cpu_of o) (queue_after s e)) g (λ u. g) in
    record { lane = lane; serves = rw (course_of_lane m e h) d }

-- a tick that was answered is served
serves_tick : (m : MachineState) (o : Owner) (lane prev : ℕ) (w : What) (cpu : ℕ) → MayBeAdded m (entry o lane prev w)
    → o ≡ Queue cpu → ticks w (course_at m.courses lane).command ≡ true → IsServedBy (after m (entry o lane prev w)) cpu
unfolding course_after sight
serves_tick m o lane prev (Did r) cpu h i t =
    let e = entry o lane prev (Did r) in
    let s = sight m e in
    let c = course_at m.courses lane in
    let lets = form_lets m e h in
    let u = ticked_owner c.form m.header c s.queue lane r o cpu lets.1 lets.0 t i in
    let g : Serves (answered c.command (cpu_of o) s.queue (queue_after s e) c) cpu =
    rw (← cpu_is o cpu i) (tick_serves c.command cpu s.queue (queue_after s e) c refl u) in
    let d = drew_by (λ c. Serves c cpu) o (s.count + 1) (answered c.command (cpu_of o) s.queue (queue_after s e) c) g (λ u. g) in
    record { lane = lane; serves = rw (course_of_lane m e h) d }
  where
    cpu_is : (o : Owner) (cpu : ℕ) → o ≡ Queue cpu → cpu ≡ cpu_of o
    cpu_is o cpu i = rw i refl
serves_tick m o lane prev w cpu h i t = absurd (let y : ⊥ = cc in y)

pub owed_kept : (laws : QueueLaws) (m : MachineState) (o : Owner) (lane prev : ℕ) (w : What)
    → ((cpu : ℕ) → has_owed (queue_at m.queues cpu) ≡ true → IsServedBy m cpu) → MayBeAdded m (entry o lane prev w) →
    (cpu : ℕ) → has_owed (queue_at (after m (entry o lane prev w)).queues cpu) ≡ true
    → IsServedBy (after m (entry o lane prev w)) cpu
owed_kept laws m o lane prev w old h cpu owes = elim (owed_from laws m o lane prev w h cpu owes) [
  | inl y ↦
      let k = old cpu y in
      elim (cases_eq k.lane lane) [
        | inl e ↦ serves_on m o lane prev w cpu h (subst (λ (l : ℕ). Serves (course_at m.courses l) cpu) e k.serves) y
        | inr n ↦ record { lane = k.lane; serves = rw (course_elsewhere m (entry o lane prev w) k.lane n) k.serves }
      ]
  | inr t ↦ serves_tick m o lane prev w cpu h t.0 t.1
]
