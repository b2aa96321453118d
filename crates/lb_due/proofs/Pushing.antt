-- The task of a push: the one that is picked is awake, so it leaves.
-- For `push_due`.
use Rattle.std.proofs.Common.{◌≡◌, ℕ, ◌==◌, Bool, true, false, cond, List, [], ◌∷◌, map, filter, Option, Some, None, is_some, refl, sym, ◌∙◌, ap, inl, inr, ◌⊎◌}
use Rattle.std.specs.Prelude.{option_map}
use Rattle.std.specs.List.{last_or}
use Rattle.std.proofs.lemmas.Bool.{eq-eqb, eqb-true}
use Rattle.lb_base.specs.declared.view.TaskView.{TaskView}
use Rattle.lb_base.specs.Mask.{has}
use Rattle.lb_active.specs.Choice.{pick_of}
use Rattle.lb_queue.specs.declared.answers.OutCause.TheVariants.{Push as PushOut}
use Rattle.lb_queue.specs.declared.awake.Awake.{Awake}
use Rattle.lb_queue.specs.Tasks.{ids, awake_with}
use Rattle.lb_queue.specs.Queue.{QueueState, clock_at}
use Rattle.lb_queue.specs.Hands.{leaves_awake, pushed, take_push}
use Rattle.lb_queue.specs.Values.{view_at, views}
use Rattle.lb_queue.proofs.Counts.{found}
use Rattle.lb_core.specs.Leaving.{push_out}
use Rattle.lb_due.specs.Outs.{out_due}
use Rattle.lb_due.proofs.Outgoing.{down_id}

some_either : (b : Bool) (x : Awake) (o : Option Awake) → is_some o ≡ true → is_some (cond b (Some x) o) ≡ true
some_either true x o h = refl
some_either false x o h = h

some_here : (b : Bool) (x : Awake) (o : Option Awake) → b ≡ true → is_some (cond b (Some x) o) ≡ true
some_here true x o h = refl
some_here false x o h = absurd (let y : ⊥ = cc in y)

last_step : {X : Type 0} (o : Option X) (x : X) (f : List X) (b : Bool) → last_or o (cond b (x ∷ f) f) ≡ last_or
    (cond b (Some x) o) f
last_step o x f true = refl
last_step o x f false = refl

seen_awake : (p : TaskView → Bool) (now : ℕ) (xs : List Awake) (o : Option TaskView) (t : TaskView)
    → last_or o (filter p (map (view_at now) xs)) ≡ Some t → (o ≡ Some t) ⊎ (is_some (awake_with t.id xs) ≡ true)
unfolding view_at
seen_awake p now [] o t e = inl e
seen_awake p now (x ∷ xs) o t e = by (p (view_at now x))
    (seen_awake p now xs _ t (sym (last_step o (view_at now x) (filter p (map (view_at now) xs)) (p (view_at now x))) ∙ e))
  where
    by : (b : Bool) → (cond b (Some (view_at now x)) o ≡ Some t) ⊎ (is_some (awake_with t.id xs) ≡ true)
        → (o ≡ Some t) ⊎ (is_some (awake_with t.id (x ∷ xs)) ≡ true)
    by true (inl k) = let z : view_at now x ≡ t = cc in
        inr (some_here (x.task.id == t.id) x (awake_with t.id xs) (eq-eqb x.task.id t.id (ap (λ (v : TaskView). v.id) z)))
    by true (inr k) = inr (some_either (x.task.id == t.id) x (awake_with t.id xs) k)
    by false (inl k) = inl k
    by false (inr k) = inr (some_either (x.task.id == t.id) x (awake_with t.id xs) k)

picked_awake : (to now : ℕ) (xs : List Awake) (id : ℕ) (o : Option TaskView)
    → last_or None (filter (λ v. has v.mask to) (map (view_at now) xs)) ≡ o → option_map (λ t. t.id) o ≡ Some id
    → is_some (awake_with id xs) ≡ true
picked_awake to now xs id None e h = absurd (let z : ⊥ = cc in z)
picked_awake to now xs id (Some t) e h = let z : t.id ≡ id = cc in
    ap (λ (n : ℕ). is_some (awake_with n xs)) (sym z) ∙ by (seen_awake (λ v. has v.mask to) now xs None t e)
  where
    by : (None ≡ Some t) ⊎ (is_some (awake_with t.id xs) ≡ true) → is_some (awake_with t.id xs) ≡ true
    by (inl k) = absurd (let y : ⊥ = cc in y)
    by (inr k) = k

abbrev pub picked_ids : Option ℕ → List ℕ
picked_ids None = []
picked_ids (Some id) = id ∷ []

named_ids : (q : QueueState) (at id : ℕ) (o : Option Awake) → awake_with id q.awake ≡ o → is_some o ≡ true
    → ids (leaves_awake (record q { active = None }) at o).0 ≡ id ∷ []
named_ids q at id None e h = absurd (let y : ⊥ = cc in y)
named_ids q at id (Some a) e h = ap (λ (n : ℕ). n ∷ [])
    (down_id (clock_at (record q { active = None }) at) a
    ∙ eqb-true a.task.id id (found (λ (x : Awake). x.task.id == id) (λ (x : Awake). x.task.id) q.awake a e).passes)

push_ids : (q : QueueState) (at to : ℕ) (o : Option ℕ) → pick_of (views q at) to ≡ o → ids (take_push q at to).0 ≡ picked_ids o
unfolding take_push pushed views
push_ids q at to None e = rw e refl
push_ids q at to (Some id) e = rw e (named_ids q at id (awake_with id q.awake) refl
    (picked_awake to (clock_at q at) q.awake id _ refl e))

-- the push that is due
pub push_is : (q : QueueState) (at to : ℕ) (o : Option ℕ) (list : List ℕ) → q.active ≡ Some to
    → pick_of (views q at) to ≡ o → list ≡ picked_ids o
    → Some (record { cause = PushOut; to = to; ids = list }) ≡ out_due (push_out q.active at q)
unfolding take_push pushed views
push_is q at to o list a e l = let i = push_ids q at to o e in rw (a, i, l) refl
