-- The ids in the lists of a queue, through the steps that join, take out, pick and rotate tasks.
-- For `stop_of`.
use Rattle.std.proofs.Common.{◌≡◌, ℕ, ◌+◌, ◌≤◌, Bool, true, false, not, cond, ◌==◌, eqb, ltb, List, [], ◌∷◌, length, reverse, Option, Some, None, refl, sym, ◌∙◌, arith, zero-add}
use Rattle.std.proofs.lemmas.Bool.Decides.{nat_tests}
use Rattle.lb_queue.specs.declared.record.TaskRecord.{TaskRecord}
use Rattle.lb_queue.specs.declared.awake.Awake.{Awake}
use Rattle.lb_queue.specs.Tasks.{occurs, ids, awake_ids, without_awake, picked, picked_first, pick_back, somebody_runs, is_pending, joined, left_by, preempted}
use Rattle.lb_queue.specs.Commands.{changed_awake, changed_task}
use Rattle.lb_queue.specs.Requests.{next_up, rotated_to, rotated, owes}
use Rattle.lb_queue.specs.Hands.{all_joined}
use Rattle.lb_queue.proofs.Counts.{occurs-reverse, occurs-without, found, occurs-map}

abbrev pub key : Awake → ℕ
key a = a.task.id

-- ---- picking
first_keeps : (clock t : ℕ) (xs : List Awake) → occurs t (awake_ids (picked_first clock xs)) ≡ occurs t (awake_ids xs)
first_keeps clock t [] = refl
first_keeps clock t (a ∷ rest) = let h = occurs-reverse key t rest in rw h refl

pub back_keeps : (clock t : ℕ) (xs : List Awake) → occurs t (awake_ids (pick_back clock xs)) ≡ occurs t (awake_ids xs)
unfolding pick_back
back_keeps clock t xs = first_keeps clock t (reverse xs) ∙ occurs-reverse key t xs

-- ---- joining and leaving
joins_by : (clock : ℕ) (t : TaskRecord) (a : Awake) (xs : List Awake) (u : ℕ) (b : Bool) → a.task.id ≡ t.id →
    occurs u (awake_ids (cond b (a ∷ xs) (picked clock a ∷ xs))) ≡ cond (t.id == u) 1 0 + occurs u (awake_ids xs)
joins_by clock t a xs u true e = rw e refl
joins_by clock t a xs u false e = rw e refl

pub joined_ids : (clock : ℕ) (t : TaskRecord) (xs : List Awake) (u : ℕ)
    → occurs u (awake_ids (joined clock t xs)) ≡ cond (t.id == u) 1 0 + occurs u (awake_ids xs)
unfolding joined
joined_ids clock t xs u = joins_by clock t _ xs u (somebody_runs xs) refl

leaves_by : (clock : ℕ) (rest : List Awake) (u : ℕ) (b : Bool)
    → occurs u (awake_ids (cond b (pick_back clock rest) rest)) ≡ occurs u (awake_ids rest)
leaves_by clock rest u true = back_keeps clock u rest
leaves_by clock rest u false = refl

pub left_ids : (clock : ℕ) (a : Awake) (xs : List Awake) (u : ℕ)
    → occurs u (awake_ids (left_by clock a xs)) ≡ cond (u == a.task.id) 0 (occurs u (awake_ids xs))
unfolding left_by
left_ids clock a xs u = leaves_by clock (without_awake a.task.id xs) u a.running ∙ occurs-without key a.task.id u xs

pub all_joined_ids : (clock : ℕ) (ts : List TaskRecord) (xs : List Awake) (u : ℕ)
    → occurs u (awake_ids (all_joined clock ts xs)) ≡ occurs u (ids ts) + occurs u (awake_ids xs)
all_joined_ids clock [] xs u = sym (zero-add _)
all_joined_ids clock (t ∷ ts) xs u = let h = all_joined_ids clock ts (joined clock t xs) u in let k = joined_ids clock t
    xs u in omega arith

-- ---- rotating
preempted_id : (clock : ℕ) (a : Awake) (b : Bool) → a.running ≡ b → (preempted clock a).task.id ≡ a.task.id
preempted_id clock a true h = rw h refl
preempted_id clock a false h = rw h refl

pub preempted_keeps : (clock : ℕ) (a : Awake) → key (preempted clock a) ≡ key a
preempted_keeps clock a = preempted_id clock a a.running refl

turned : (i u r r' : ℕ) → r ≤ 1 → 1 ≤ r' → (u ≡ i → r' ≡ r) → cond (eqb i u) 1 0 + cond (eqb u i) 0 r ≡ r
turned i u r r' h k e = grind (arith, nat_tests)

rotated_by : (o : Option Awake) (clock u : ℕ) (xs : List Awake) → next_up xs ≡ o
    → ((t : ℕ) → occurs t (awake_ids xs) ≤ 1) → occurs u (awake_ids (rotated_to o clock xs)) ≡ occurs u (awake_ids xs)
rotated_by None clock u xs e one = refl
rotated_by (Some a) clock u xs e one =
    let f = found (λ (x : Awake). not x.running) key (reverse xs) a e in
    let there : 1 ≤ occurs a.task.id (awake_ids xs) = let h = f.there in let k = occurs-reverse key a.task.id xs in omega arith in
    let m = occurs-map key (preempted clock) (preempted_keeps clock) u (without_awake a.task.id xs) in
    let w = occurs-without key a.task.id u xs in
    let t = turned a.task.id u (occurs u (awake_ids xs)) (occurs a.task.id (awake_ids xs)) (one u) there
    (λ (h : u ≡ a.task.id). rw h refl) in
    omega arith

rotated_if : (b : Bool) (clock u : ℕ) (xs : List Awake) → ((t : ℕ) → occurs t (awake_ids xs) ≤ 1)
    → occurs u (awake_ids (cond b (rotated_to (next_up xs) clock xs) xs)) ≡ occurs u (awake_ids xs)
rotated_if true clock u xs one = rotated_by (next_up xs) clock u xs refl one
rotated_if false clock u xs one = refl

pub rotated_ids : (clock u : ℕ) (xs : List Awake) → ((t : ℕ) → occurs t (awake_ids xs) ≤ 1)
    → occurs u (awake_ids (rotated clock xs)) ≡ occurs u (awake_ids xs)
unfolding rotated
rotated_ids clock u xs one = rotated_if (ltb 1 (length xs)) clock u xs one

owes_id : (a : Awake) (b : Bool) → is_pending a.stop ≡ b → key (owes a) ≡ key a
owes_id a true h = rw h refl
owes_id a false h = rw h refl

pub owes_keeps : (a : Awake) → key (owes a) ≡ key a
owes_keeps a = owes_id a (is_pending a.stop) refl

changed_id : (id : ℕ) (f : Awake → Awake) (same : (a : Awake) → key (f a) ≡ key a) (a : Awake) (b : Bool)
    → key (cond b (f a) a) ≡ key a
changed_id id f same a true = same a
changed_id id f same a false = refl

pub changed_awake_ids : (id : ℕ) (f : Awake → Awake) → ((a : Awake) → key (f a) ≡ key a) → (u : ℕ) (xs : List Awake)
    → occurs u (awake_ids (changed_awake id f xs)) ≡ occurs u (awake_ids xs)
changed_awake_ids id f same u xs = occurs-map key (λ a. cond (a.task.id == id) (f a) a)
    (λ a. changed_id id f same a (a.task.id == id)) u xs

abbrev pub name : TaskRecord → ℕ
name t = t.id

changed_name : (id : ℕ) (f : TaskRecord → TaskRecord) (same : (t : TaskRecord) → name (f t) ≡ name t) (t : TaskRecord)
    (b : Bool) → name (cond b (f t) t) ≡ name t
changed_name id f same t true = same t
changed_name id f same t false = refl

pub changed_task_ids : (id : ℕ) (f : TaskRecord → TaskRecord) → ((t : TaskRecord) → name (f t) ≡ name t)
    → (u : ℕ) (xs : List TaskRecord) → occurs u (ids (changed_task id f xs)) ≡ occurs u (ids xs)
changed_task_ids id f same u xs = occurs-map name (λ t. cond (t.id == id) (f t) t)
    (λ t. changed_name id f same t (t.id == id)) u xs
