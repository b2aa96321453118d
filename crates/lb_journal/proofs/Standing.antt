-- The queue that answers an item's command is where the map has the task: a queue that knows a task
-- has it among its own, and each task stands at its place alone.
-- For the lemmas of `Merging`, and so for the laws `merge_is_run`, `closing_is_last` and others.
use Rattle.std.proofs.Common.{◌≡◌, ℕ, ◌+◌, ◌≤◌, Bool, true, false, cond, eqb, ltb, ◌||◌, Option, Some, None, is_some, List, [], ◌∷◌, ◌++◌, length, refl, sym, ◌∙◌, ap, subst, arith}
use Rattle.std.proofs.lemmas.Bool.{and_parts, or_parts, not-false, not_from_true}
use Rattle.lb_queue.specs.declared.record.TaskRecord.{TaskRecord}
use Rattle.lb_queue.specs.declared.awake.Awake.{Awake}
use Rattle.lb_queue.specs.declared.answers.Reply.{Reply}
use Rattle.lb_queue.specs.declared.answers.Reply.TheVariants.{NotHere}
use Rattle.lb_queue.specs.Tasks.{occurs, ids, awake_ids, task_with, awake_with}
use Rattle.lb_queue.specs.Queue.{QueueState, away, away_of}
use Rattle.lb_queue.specs.Commands.{wake, wakes, sleep, sleeps, exit, exits, set_mask, sets_mask, renice, renices}
use Rattle.lb_trace.specs.declared.trace.Command.{Command}
use Rattle.lb_trace.specs.declared.trace.Command.TheVariants.{Wake, Sleep, Exit, SetMask, Nice, Tick, Rebuild}
use Rattle.lb_trace.specs.declared.trace.Header.{Header}
use Rattle.lb_trace.specs.Accepted.{IsHeader}
use Rattle.lb_core.specs.declared.course.Course.{Course}
use Rattle.lb_core.specs.declared.course.Form.{Form}
use Rattle.lb_core.specs.declared.course.Form.TheVariants.{Asked}
use Rattle.lb_core.specs.declared.entry.Owner.{Owner}
use Rattle.lb_core.specs.declared.entry.Owner.TheVariants.{Publisher, Lane, Queue}
use Rattle.lb_core.specs.declared.entry.What.{What}
use Rattle.lb_core.specs.declared.entry.What.TheVariants.{Did, Out}
use Rattle.lb_core.specs.declared.place.Place.{Place}
use Rattle.lb_core.specs.declared.place.Place.TheVariants.{Awake as AwakeAt, Asleep as AsleepAt, Gone as GoneAt}
use Rattle.lb_core.specs.declared.rule.Rule.TheVariants.{Reply as ReplyRule, Pick}
use Rattle.lb_core.specs.Same.{same_reply, same_place}
use Rattle.lb_core.specs.Course.{task_of}
use Rattle.lb_core.specs.Sight.{Sight}
use Rattle.lb_core.specs.Stage.{is_owner, is_queue, queue_due}
use Rattle.lb_core.specs.Leaving.{Leaving, leaving, out_by, wake_out, wake_to}
use Rattle.lb_core.specs.declared.rule.Rule.{Rule}
use Rattle.lb_core.specs.Rules.{breaks_here, breaks_reply, leaves_instead, breaks_pick}
use Rattle.lb_core.specs.QueueAfter.{answer_to}
use Rattle.lb_core.specs.Machine.{MachineState, queue_at, course_at, place_at, sight, owned_queue}
use Rattle.lb_core.specs.Elsewhere.{is_at, task_elsewhere, answered_elsewhere}
use Rattle.lb_core.specs.Placed.{times, is_its_place, IsPlaced}
use Rattle.lb_core.proofs.Equality.{reply_is}
use Rattle.lb_core.proofs.Placing.{leaving_is}
use Rattle.lb_journal.specs.Journal.{Journal, number_of}
use Rattle.lb_journal.proofs.Good.{items_of, Good}
use Rattle.lb_journal.proofs.Lanes.{staged}
use Rattle.lb_journal.proofs.Agreement.{Agrees, course_is, sight_is}

-- ---- who is known
-- a task that a search finds stands there
found_task : (t : ℕ) (xs : List TaskRecord) (x : TaskRecord) → task_with t xs ≡ Some x → 1 ≤ occurs t (ids xs)
found_task t [] x e = absurd (let q : ⊥ = cc in q)
found_task t (y ∷ xs) x e = go (eqb y.id t) e (found_task t xs x)
  where
    go : (b : Bool) → cond b (Some y) (task_with t xs) ≡ Some x → (task_with t xs ≡ Some x → 1 ≤ occurs t (ids xs)) →
        1 ≤ (let r : ℕ = cond b 1 0 in r) + occurs t (ids xs)
    go true e rec = omega arith
    go false e rec = omega (arith, rec e)

found_awake : (t : ℕ) (xs : List Awake) (x : Awake) → awake_with t xs ≡ Some x → 1 ≤ occurs t (awake_ids xs)
found_awake t [] x e = absurd (let q : ⊥ = cc in q)
found_awake t (y ∷ xs) x e = go (eqb y.task.id t) e (found_awake t xs x)
  where
    go : (b : Bool) → cond b (Some y) (awake_with t xs) ≡ Some x →
        (awake_with t xs ≡ Some x → 1 ≤ occurs t (awake_ids xs)) →
        1 ≤ (let r : ℕ = cond b 1 0 in r) + occurs t (awake_ids xs)
    go true e rec = omega arith
    go false e rec = omega (arith, rec e)

-- where the task stands
pub data Knows (q : QueueState) (t : ℕ) : Type 0 where
  awake : 1 ≤ occurs t (awake_ids q.awake) → Knows q t
  asleep : 1 ≤ occurs t (ids q.asleep) → Knows q t
  gone : 1 ≤ occurs t (ids q.gone) → Knows q t

knows_by : (a : Option Awake) (s g : Option TaskRecord) (q : QueueState) (t : ℕ) → awake_with t q.awake ≡ a →
    task_with t q.asleep ≡ s → task_with t q.gone ≡ g → is_some a || is_some s || is_some g ≡ true → Knows q t
knows_by (Some x) s g q t ea es eg e = Knows.awake (found_awake t q.awake x ea)
knows_by None (Some x) g q t ea es eg e = Knows.asleep (found_task t q.asleep x es)
knows_by None None (Some x) q t ea es eg e = Knows.gone (found_task t q.gone x eg)
knows_by None None None q t ea es eg e = absurd (let k : ⊥ = cc in k)

knows_some : (q : QueueState) (t : ℕ) →
    is_some (awake_with t q.awake) || is_some (task_with t q.asleep) || is_some (task_with t q.gone) ≡ true → Knows q t
knows_some q t e = knows_by (awake_with t q.awake) (task_with t q.asleep) (task_with t q.gone) q t refl refl refl e

abbrev Here : Reply → Type 0
Here r = same_reply r NotHere ≡ false

wakes_here : (q : QueueState) (at : ℕ) (s : Option TaskRecord) (a : Option Awake) (g : Option TaskRecord) →
    Here (wakes q at s a g).0 → is_some a || is_some s || is_some g ≡ true
wakes_here q at (Some t) (Some a) g e = refl
wakes_here q at (Some t) None g e = refl
wakes_here q at None (Some a) g e = refl
wakes_here q at None None (Some t) e = refl
wakes_here q at None None None e = absurd (let k : ⊥ = cc in k)

sleeps_here : (q : QueueState) (at : ℕ) (a : Option Awake) (s g : Option TaskRecord) → Here (sleeps q at a s g).0 →
    is_some a || is_some s || is_some g ≡ true
sleeps_here q at (Some a) s g e = refl
sleeps_here q at None (Some t) g e = refl
sleeps_here q at None None (Some t) e = refl
sleeps_here q at None None None e = absurd (let k : ⊥ = cc in k)

exits_here : (q : QueueState) (at : ℕ) (a : Option Awake) (s g : Option TaskRecord) → Here (exits q at a s g).0 →
    is_some a || is_some s || is_some g ≡ true
exits_here q at (Some a) s g e = refl
exits_here q at None (Some t) g e = refl
exits_here q at None None (Some t) e = refl
exits_here q at None None None e = absurd (let k : ⊥ = cc in k)

masks_here : (q : QueueState) (at id : ℕ) (m : _) (a : Option Awake) (s g : Option TaskRecord) →
    Here (sets_mask q at id m a s g).0 → is_some a || is_some s || is_some g ≡ true
masks_here q at id m (Some a) s g e = refl
masks_here q at id m None (Some t) g e = refl
masks_here q at id m None None (Some t) e = refl
masks_here q at id m None None None e = absurd (let k : ⊥ = cc in k)

nices_here : (q : QueueState) (at id : ℕ) (n : _) (a : Option Awake) (s g : Option TaskRecord) →
    Here (renices q at id n a s g).0 → is_some a || is_some s || is_some g ≡ true
nices_here q at id n (Some a) s g e = refl
nices_here q at id n None (Some t) g e = refl
nices_here q at id n None None (Some t) e = refl
nices_here q at id n None None None e = absurd (let k : ⊥ = cc in k)

pub answer_knows : (command : Option Command) (at t : ℕ) (q : QueueState) → task_of command ≡ Some t →
    Here (answer_to command at q).0 → Knows q t
unfolding wake sleep exit set_mask renice
answer_knows (Some (Wake u)) at t q e k =
    let s : u ≡ t = cc in
    subst (Knows q) s
    (knows_some q u (wakes_here q at (task_with u q.asleep) (awake_with u q.awake) (task_with u q.gone) k))
answer_knows (Some (Sleep u)) at t q e k =
    let s : u ≡ t = cc in
    subst (Knows q) s
    (knows_some q u (sleeps_here q at (awake_with u q.awake) (task_with u q.asleep) (task_with u q.gone) k))
answer_knows (Some (Exit u)) at t q e k =
    let s : u ≡ t = cc in
    subst (Knows q) s
    (knows_some q u (exits_here q at (awake_with u q.awake) (task_with u q.asleep) (task_with u q.gone) k))
answer_knows (Some (SetMask u mask)) at t q e k =
    let s : u ≡ t = cc in
    subst (Knows q) s
    (knows_some q u (masks_here q at u mask (awake_with u q.awake) (task_with u q.asleep) (task_with u q.gone) k))
answer_knows (Some (Nice u n)) at t q e k =
    let s : u ≡ t = cc in
    subst (Knows q) s
    (knows_some q u (nices_here q at u n (awake_with u q.awake) (task_with u q.asleep) (task_with u q.gone) k))
answer_knows (Some (Tick cpu)) at t q e k = absurd (let z : ⊥ = cc in z)
answer_knows (Some (Rebuild parts)) at t q e k = absurd (let z : ⊥ = cc in z)
answer_knows None at t q e k = absurd (let z : ⊥ = cc in z)

did_knows : (s : Sight) (r : Reply) (t : ℕ) → breaks_reply s (Did r) ≡ false → task_of s.course.command ≡ Some t →
    Knows s.queue t
did_knows s r t b e =
    let p = or_parts _ _ b in
    let n = (or_parts (leaves_instead s.course.command s.queue) (same_reply r NotHere) p.0).1 in
    let is : r ≡ (answer_to s.course.command s.course.at s.queue).0 = reply_is r _ (not-false _ p.1) in
    answer_knows s.course.command s.course.at t s.queue e (ap (λ (x : Reply). same_reply x NotHere) (sym is) ∙ n)

-- ---- a wake that leaves
away_knows : (o : Option TaskRecord) (q : QueueState) (t to : ℕ) → task_with t q.asleep ≡ o → away_of q o ≡ Some to →
    Knows q t
away_knows None q t to e a = absurd (let k : ⊥ = cc in k)
away_knows (Some x) q t to e a = Knows.asleep (found_task t q.asleep x e)

wake_to_knows : (o : Option ℕ) (at t : ℕ) (q : QueueState) (l : Leaving) → away q t ≡ o → wake_to o at t q ≡ Some l →
    Knows q t
unfolding away
wake_to_knows None at t q l a e = absurd (let k : ⊥ = cc in k)
wake_to_knows (Some to) at t q l a e = away_knows (task_with t q.asleep) q t to refl a

out_knows : (command : Option Command) (at t : ℕ) (q : QueueState) (l : Leaving) → task_of command ≡ Some t →
    wake_out command at q ≡ Some l → Knows q t
out_knows (Some (Wake u)) at t q l e w =
    let s : u ≡ t = cc in subst (Knows q) s (wake_to_knows (away q u) at u q l refl w)
out_knows command at t q l e w = absurd (let k : ⊥ = cc in k)

abbrev is_an_out : What → Bool
is_an_out (Out cause to tasks) = true
is_an_out w = false

wake_knows : (s : Sight) (w : What) (t : ℕ) → s.course.form ≡ Asked → is_an_out w ≡ true → breaks_pick s w ≡ false →
    task_of s.course.command ≡ Some t → Knows s.queue t
unfolding leaving
wake_knows s (Out cause to tasks) t f o b e =
    let l = leaving_is (leaving s) cause to tasks b in
    let g : wake_out s.course.command s.course.at s.queue ≡ Some l.0 =
    ap (λ (x : Form). out_by x s.header s.course s.queue) (sym f) ∙ l.1 in
    out_knows s.course.command s.course.at t s.queue l.0 e g
wake_knows s w t f o b e = absurd (let k : ⊥ = cc in k)

-- ---- where the map has it
one_is : (b : Bool) (n : ℕ) → n ≡ cond b 1 0 → 1 ≤ n → b ≡ true
one_is true n e le = refl
one_is false n e le = absurd (omega arith)

awake_at : (p : Place) (cpu : ℕ) → same_place (AwakeAt cpu) p ≡ true → is_at p (Queue cpu) ≡ true
awake_at (AwakeAt u) cpu e = e
awake_at p cpu e = absurd (let k : ⊥ = cc in k)

asleep_at : (p : Place) (cpu : ℕ) → same_place (AsleepAt cpu) p ≡ true → is_at p (Queue cpu) ≡ true
asleep_at (AsleepAt u) cpu e = e
asleep_at p cpu e = absurd (let k : ⊥ = cc in k)

gone_at : (p : Place) (cpu : ℕ) → same_place (GoneAt cpu) p ≡ true → is_at p (Queue cpu) ≡ true
gone_at (GoneAt u) cpu e = e
gone_at p cpu e = absurd (let k : ⊥ = cc in k)

placed_there : (m : MachineState) (p : Place) (t : ℕ) → IsPlaced m → 1 ≤ times m p t → same_place p (place_at m t) ≡ true
placed_there m p t placed le =
    (and_parts (ltb t (length m.places)) (same_place p (place_at m t))
    (one_is (is_its_place m p t) (times m p t) (placed.once p t) le)).1

pub knows_place : (m : MachineState) (cpu t : ℕ) → IsPlaced m → Knows (queue_at m.queues cpu) t →
    is_at (place_at m t) (Queue cpu) ≡ true
knows_place m cpu t placed (awake le) = awake_at (place_at m t) cpu (placed_there m (AwakeAt cpu) t placed le)
knows_place m cpu t placed (asleep le) = asleep_at (place_at m t) cpu (placed_there m (AsleepAt cpu) t placed le)
knows_place m cpu t placed (gone le) = gone_at (place_at m t) cpu (placed_there m (GoneAt cpu) t placed le)

-- ---- the next item of the log
queues_own : (due : Option ℕ) (o : Owner) → is_queue o due ≡ true → (cpu : ℕ) × (o ≡ Queue cpu)
queues_own due (Queue cpu) e = (cpu, refl)
queues_own None (Lane l) e = absurd (let k : ⊥ = cc in k)
queues_own (Some u) (Lane l) e = absurd (let k : ⊥ = cc in k)
queues_own None Publisher e = absurd (let k : ⊥ = cc in k)
queues_own (Some u) Publisher e = absurd (let k : ⊥ = cc in k)

module _ (h : Header) (closing : Journal → Bool) (log : List Journal) (good : Good h closing log) (ok : IsHeader h)
    (d : Journal) (pre rest : List Journal) (j : Journal) (e : log ≡ pre ++ j ∷ rest) (m : MachineState)
    (a : Agrees h log d pre m) (placed : IsPlaced m) where
  -- no rule is broken by what the item's own step reads
  pub here_right : (rule : Rule) → breaks_here rule (sight m j.entry) j.entry ≡ false
  here_right rule =
      ap (λ (s : Sight). breaks_here rule s j.entry) (sight_is h closing log good ok d pre rest j e m a)
      ∙ (good.fits pre rest j e).allowed rule

  owned_is : (cpu : ℕ) → j.entry.owner ≡ Queue cpu → (sight m j.entry).queue ≡ queue_at m.queues cpu
  unfolding sight
  owned_is cpu own = ap (λ (o : Owner). owned_queue o m) own

  course_now : (sight m j.entry).course ≡ j.course
  unfolding sight
  course_now = course_is h closing log good ok d pre rest j e m a

  owner_of : (w : What) → j.entry.what ≡ w →
      ((lane : ℕ) (due : Option ℕ) (o : Owner) → is_owner w lane due o ≡ is_queue o due) →
      (cpu : ℕ) × (j.entry.owner ≡ Queue cpu)
  owner_of w ew same =
      let st = staged (items_of (number_of j.entry.owner) pre) j (good.fits pre rest j e) in
      queues_own (queue_due j.course.form j.course) j.entry.owner
      (sym (same j.entry.lane (queue_due j.course.form j.course) j.entry.owner)
      ∙ subst (λ (x : What). is_owner x j.entry.lane (queue_due j.course.form j.course) j.entry.owner ≡ true) ew
      st.owner)

  -- a task that the queue of the entry knows
  elsewhere_by : (t : Option ℕ) → task_of j.course.command ≡ t →
      ((u : ℕ) → task_of j.course.command ≡ Some u → Knows (sight m j.entry).queue u) →
      (cpu : ℕ) × (j.entry.owner ≡ Queue cpu) → task_elsewhere t m j.entry.owner ≡ false
  elsewhere_by None et k own = refl
  elsewhere_by (Some u) et k own =
      not_from_true _
      (ap (is_at (place_at m u)) own.1
      ∙ knows_place m own.0 u placed (subst (λ (q : QueueState). Knows q u) (owned_is own.0 own.1) (k u et)))

  command_now : (u : ℕ) → task_of j.course.command ≡ Some u → task_of (sight m j.entry).course.command ≡ Some u
  command_now u et = ap (λ (c : Course). task_of c.command) course_now ∙ et

  place_by : (f : Form) (w : What) → j.course.form ≡ f → j.entry.what ≡ w →
      answered_elsewhere f j.course m j.entry.owner w ≡ false
  place_by Asked (Did r) ef ew =
      elsewhere_by (task_of j.course.command) refl
      (λ u et.
      did_knows (sight m j.entry) r u
      (subst (λ (x : What). breaks_reply (sight m j.entry) x ≡ false) ew (here_right ReplyRule)) (command_now u et))
      (owner_of (Did r) ew (λ lane due o. refl))
  place_by Asked (Out cause to tasks) ef ew =
      elsewhere_by (task_of j.course.command) refl
      (λ u et.
      wake_knows (sight m j.entry) (Out cause to tasks) u (ap (λ (c : Course). c.form) course_now ∙ ef) refl
      (subst (λ (x : What). breaks_pick (sight m j.entry) x ≡ false) ew (here_right Pick)) (command_now u et))
      (owner_of (Out cause to tasks) ew (λ lane due o. refl))
  place_by f w ef ew = refl

  pub place_right : answered_elsewhere (course_at m.courses j.entry.lane).form
      (course_at m.courses j.entry.lane) m j.entry.owner j.entry.what ≡ false
  place_right =
      ap (λ (c : Course). answered_elsewhere c.form c m j.entry.owner j.entry.what)
      (course_is h closing log good ok d pre rest j e m a)
      ∙ place_by j.course.form j.entry.what refl refl
