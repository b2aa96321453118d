-- The task that a push takes: the one nearest the back that may run at the destination.
-- For `Queue::take_push` and `TaskLists::take_pushed`.
use Rattle.std.proofs.Common.{◌≡◌, ℕ, ◌≤◌, max, Bool, true, false, cond, ◌==◌, eqb, List, [], ◌∷◌, ◌++◌, map, filter, Option, Some, None, is_some, refl, sym, ◌∙◌, ap, arith, subst, inl, inr, ◌⊎◌}
use Rattle.std.specs.Prelude.{IfSome, option_map}
use Rattle.std.specs.List.{last_or}
use Rattle.std.proofs.lemmas.Bool.{cases_Bool, cond-true, cond-false, eqb-true, eq-eqb}
use Rattle.std.proofs.lemmas.List.{append-nil}
use Rattle.lb_base.specs.declared.view.TaskView.{TaskView}
use Rattle.lb_base.specs.Mask.{has}
use Rattle.lb_active.specs.Choice.{pick_of}
use Rattle.lb_queue.specs.declared.record.TaskRecord.{TaskRecord}
use Rattle.lb_queue.specs.declared.awake.Awake.{Awake}
use Rattle.lb_queue.specs.Tasks.{occurs, awake_ids, awake_with, set_down}
use Rattle.lb_queue.specs.Queue.{QueueState}
use Rattle.lb_queue.specs.Lists.{Lists, down_of, left_of}
use Rattle.lb_queue.specs.Hands.{HandState, awake_named, leaves_awake, loaded, pushed, take_push}
use Rattle.lb_queue.specs.Values.{view_at, views}
use Rattle.lb_queue.proofs.Counts.{found}
use Rattle.lb_queue.proofs.Ids.{key}
use Rattle.lb_queue.proofs.Leaving.{down_mask}
use Rattle.lb_queue.proofs.Replies.{of_lists}

-- ---- it may run there
-- a task of the list with that number, which may run there
abbrev MayGo : ℕ → List Awake → ℕ → Type 0
MayGo to xs id = (a : Awake) × (awake_with id xs ≡ Some a) × (has a.task.mask to ≡ true)

later : (to id : ℕ) (x : Awake) (xs : List Awake) → occurs id (awake_ids (x ∷ xs)) ≤ 1 → MayGo to xs id → MayGo to (x ∷ xs) id
later to id x xs one h = elim (cases_Bool (eqb (key x) id)) [
  | inl e ↦ absurd (let z : cond {A = ℕ} (eqb (key x) id) 1 0 ≡ 1 = cond-true {A = ℕ} (eqb (key x) id) 1 0 e in
      let f = (found (λ (y : Awake). y.task.id == id) key xs h.0 h.1).there in let n =
      eqb-true (key h.0) id (found (λ (y : Awake). y.task.id == id) key xs h.0 h.1).passes in
      let t : 1 ≤ occurs id (awake_ids xs) = subst (λ (u : ℕ). 1 ≤ occurs u (awake_ids xs)) n f in omega arith)
  | inr e ↦ (h.0, cond-false (eqb (key x) id) (Some x) (awake_with id xs) e ∙ h.1, h.2)
]

here : (to : ℕ) (x : Awake) (xs : List Awake) → has x.task.mask to ≡ true → MayGo to (x ∷ xs) (key x)
here to x xs h = (x, cond-true (eqb (key x) (key x)) (Some x) (awake_with (key x) xs) (eq-eqb (key x) (key x) refl), h)

last_step : {X : Type 0} (o : Option X) (x : X) (f : List X) (b : Bool) → last_or o (cond b (x ∷ f) f) ≡ last_or
    (cond b (Some x) o) f
last_step o x f true = refl
last_step o x f false = refl

picked_may : (to now : ℕ) (xs : List Awake) (o : Option TaskView) (t : TaskView)
    → ((u : ℕ) → occurs u (awake_ids xs) ≤ 1) → last_or o
    (filter (λ v. has v.mask to) (map (view_at now) xs)) ≡ Some t → (o ≡ Some t) ⊎ MayGo to xs t.id
unfolding view_at
picked_may to now [] o t one e = inl e
picked_may to now (x ∷ xs) o t one e =
    by (has x.task.mask to) refl (picked_may to now xs _ t (λ u. let k = one u in omega arith)
    (sym (last_step o (view_at now x) (filter (λ v. has v.mask to) (map (view_at now) xs)) (has x.task.mask to)) ∙ e))
  where
    by : (b : Bool) → has x.task.mask to ≡ b → (cond b (Some (view_at now x)) o ≡ Some t) ⊎ MayGo to xs t.id
        → (o ≡ Some t) ⊎ MayGo to (x ∷ xs) t.id
    by true h (inl k) = let z : view_at now x ≡ t = cc in inr
        (subst (λ (v : TaskView). MayGo to (x ∷ xs) v.id) z (here to x xs h))
    by true h (inr k) = inr (later to t.id x xs (one t.id) k)
    by false h (inl k) = inl k
    by false h (inr k) = inr (later to t.id x xs (one t.id) k)

push_may : (to now : ℕ) (xs : List Awake) (id : ℕ) (o : Option TaskView) → ((u : ℕ) → occurs u (awake_ids xs) ≤ 1)
    → last_or None (filter (λ v. has v.mask to) (map (view_at now) xs)) ≡ o → Some id ≡ option_map (λ t. t.id) o → MayGo to xs id
push_may to now xs id None one e h = absurd (let z : ⊥ = cc in z)
push_may to now xs id (Some t) one e h = let z : t.id ≡ id = cc in subst (MayGo to xs) z (by (picked_may to now xs None t one e))
  where
    by : (None ≡ Some t) ⊎ MayGo to xs t.id → MayGo to xs t.id
    by (inl k) = absurd (let y : ⊥ = cc in y)
    by (inr k) = k

down_may : (to clock : ℕ) (o : Option Awake) (a : Awake) (t : TaskRecord) → o ≡ Some a → has a.task.mask to ≡ true
    → Some t ≡ down_of clock o → has t.mask to ≡ true
down_may to clock None a t e h f = absurd (let z : ⊥ = cc in z)
down_may to clock (Some x) a t e h f = let z : x ≡ a = cc in let y : t ≡ set_down clock a = cc in rw
    (y, down_mask clock a a.running refl) h

pub pushed_there : (to now clock : ℕ) (xs : List Awake) (id : ℕ) (o : Option TaskRecord)
    → ((u : ℕ) → occurs u (awake_ids xs) ≤ 1) → Some id ≡ pick_of (map (view_at now) xs) to
    → o ≡ down_of clock (awake_with id xs) → IfSome o (λ t. has t.mask to ≡ true)
pushed_there to now clock xs id None one p f = tt
pushed_there to now clock xs id (Some t) one p f = let m = push_may to now xs id _ one refl p in
    down_may to clock (awake_with id xs) m.0 t m.1 m.2 f

-- ---- the step
is_some_down : (clock : ℕ) (o : Option Awake) → is_some (down_of clock o) ≡ is_some o
is_some_down clock None = refl
is_some_down clock (Some a) = refl

pub push_answer : (q : QueueState) (at to clock : ℕ) (o : Option TaskRecord) → clock ≡ max q.clock at
    → o ≡ down_of clock (awake_named (pick_of (map (view_at clock) q.awake) to) q.awake) → is_some o ≡ is_some (pushed q at to)
unfolding pushed views
push_answer q at to clock o c f = ap is_some f ∙ is_some_down clock _
    ∙ ap (λ (k : ℕ). is_some (awake_named (pick_of (map (view_at k) q.awake) to) q.awake)) c

state_by : (q : QueueState) (at clock : ℕ) (o : Option Awake) (l1 l0 : Lists) → clock ≡ max q.clock at
    → l1 ≡ record l0 { awake = left_of clock o l0.awake } →
    record (of_lists q l1) { clock = clock; active = None } ≡ (leaves_awake (record (of_lists q l0) { active = None }) at o).1
state_by q at clock None l1 l0 c e = rw (e, c) refl
state_by q at clock (Some a) l1 l0 c e = rw (e, c) refl

pub push_done : (q : QueueState) (at to clock : ℕ) (l1 l0 : Lists) → clock ≡ max q.clock at
    → l1 ≡ record l0 { awake = left_of clock (awake_named (pick_of (map (view_at clock) l0.awake) to) l0.awake) l0.awake } →
    record (of_lists q l1) { clock = clock; active = None } ≡ (take_push (of_lists q l0) at to).1
unfolding take_push pushed views
push_done q at to clock l1 l0 c e =
    state_by q at clock (awake_named (pick_of (map (view_at clock) l0.awake) to) l0.awake) l1 l0 c e
    ∙ ap (λ (k : ℕ). (leaves_awake (record (of_lists q l0) { active = None }) at
    (awake_named (pick_of (map (view_at k) l0.awake) to) l0.awake)).1) c

-- what comes into the hand: one task, or none
abbrev pub held : ℕ → ℕ → Option TaskRecord → HandState → HandState
held cpu clock None h = record h { source = Some cpu; moment = clock }
held cpu clock (Some t) h = record h { source = Some cpu; moment = clock; tasks = h.tasks ++ t ∷ [] }

hand_by : (q : QueueState) (at clock : ℕ) (o : Option Awake) (h : HandState) → clock ≡ max q.clock at
    → held q.cpu clock (down_of clock o) h ≡ loaded q at (leaves_awake (record q { active = None }) at o).0 h
hand_by q at clock None h c = rw (c, append-nil h.tasks) refl
hand_by q at clock (Some a) h c = rw c refl

pub push_hand : (q : QueueState) (at to clock : ℕ) (o : Option TaskRecord) (h : HandState) → clock ≡ max q.clock at
    → o ≡ down_of clock (awake_named (pick_of (map (view_at clock) q.awake) to) q.awake) →
    held q.cpu clock o h ≡ loaded q at (take_push q at to).0 h
unfolding take_push pushed views
push_hand q at to clock o h c f =
    ap (λ (x : Option TaskRecord). held q.cpu clock x h) f
    ∙ hand_by q at clock (awake_named (pick_of (map (view_at clock) q.awake) to) q.awake) h c
    ∙ ap (λ (k : ℕ). loaded q at (leaves_awake (record q { active = None }) at
    (awake_named (pick_of (map (view_at k) q.awake) to) q.awake)).0 h) c
