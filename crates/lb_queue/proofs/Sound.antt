-- What a queue's tasks keep, as one is taken out, comes in or is changed.
-- For `TaskLists::renice_awake`, `TaskLists::mask_asleep`, `TaskLists::mask_awake` and others.
use Rattle.std.proofs.Common.{◌≡◌, ℕ, ℤ, ◌+◌, ◌<◌, ◌≤◌, Bool, true, false, not, cond, ◌==◌, eqb, ◌||◌, List, [], ◌∷◌, ◌++◌, map, reverse, find, Some, None, refl, sym, ◌∙◌, ap, arith, subst, inl, inr}
use Rattle.std.specs.List.{list_all, list_any}
use Rattle.std.proofs.lemmas.Bool.{cases_Bool, cond-true, cond-false, eqb-true, eq-eqb, and_parts, and_from}
use Rattle.std.proofs.lemmas.List.Sums.{sum_by-cons}
use Rattle.lb_base.specs.declared.mask.Mask.{Mask}
use Rattle.lb_base.specs.Mask.{has}
use Rattle.lb_queue.specs.declared.record.TaskRecord.{TaskRecord}
use Rattle.lb_queue.specs.declared.awake.Awake.{Awake}
use Rattle.lb_queue.specs.Tasks.{occurs, ids, awake_ids, task_with, awake_with, without_task, without_awake, is_pending, waiting, picked, picked_first, pick_back, somebody_runs, joined, left_by, set_down}
use Rattle.lb_queue.specs.Kept.{AreSound, stands, id_limit, running_count, is_asked_rightly}
use Rattle.lb_queue.specs.Queue.{nobody}
use Rattle.lb_queue.specs.Lists.{left_of}
use Rattle.lb_queue.specs.declared.awake.StopRequest.{StopRequest}
use Rattle.lb_queue.specs.declared.awake.StopRequest.TheVariants.{Free, Pending, Owed}
use Rattle.lb_queue.specs.Commands.{masked, reniced, with_mask, with_nice}
use Rattle.lb_queue.proofs.Search.{rest_of_none}
use Rattle.lb_queue.proofs.Counts.{found, occurs-map, occurs-map_append, occurs-without}
use Rattle.lb_queue.proofs.Counting.{sum_others, sum_reverse}
use Rattle.lb_queue.proofs.Every.{all_map, all_filter, all_reverse}
use Rattle.lb_queue.proofs.Ids.{key, name, joined_ids, left_ids}

abbrev pub runs : Awake → ℕ
runs a = cond {A = ℕ} a.running 1 0

-- ---- found
pub not_nobody : (p : Awake → Bool) (xs : List Awake) (a : Awake) → find p xs ≡ Some a → nobody xs ≡ false
not_nobody p [] a h = absurd (let z : ⊥ = cc in z)
not_nobody p (x ∷ xs) a h = refl

pub awake_named : (id : ℕ) (xs : List Awake) (a : Awake) → awake_with id xs ≡ Some a → a.task.id ≡ id
awake_named id xs a e = eqb-true a.task.id id (found (λ (x : Awake). x.task.id == id) key xs a e).passes

pub task_named : (id : ℕ) (xs : List TaskRecord) (t : TaskRecord) → task_with id xs ≡ Some t → t.id ≡ id
task_named id xs t e = eqb-true t.id id (found (λ (x : TaskRecord). x.id == id) name xs t e).passes

-- ---- an awake task goes
count_first : (clock : ℕ) (xs : List Awake) → running_count xs ≡ 0
    → running_count (picked_first clock xs) ≡ cond (nobody (picked_first clock xs)) 0 1
count_first clock [] h = refl
count_first clock (x ∷ xs) h =
    let c = sum_by-cons runs x xs in
    let d = sum_by-cons runs (picked clock x) (reverse xs) in
    let r = sum_reverse runs xs in
    omega arith

count_back : (clock : ℕ) (xs : List Awake) → running_count xs ≡ 0
    → running_count (pick_back clock xs) ≡ cond (nobody (pick_back clock xs)) 0 1
unfolding pick_back
count_back clock xs h = count_first clock (reverse xs) (sum_reverse runs xs ∙ h)

count_rest : (xs : List Awake) → running_count xs ≡ 1 → running_count xs ≡ cond (nobody xs) 0 1
count_rest [] h = absurd (let z : 0 ≡ 1 = h in omega arith)
count_rest (x ∷ xs) h = h

count_left : (clock : ℕ) (a : Awake) (rest : List Awake) (b : Bool) → a.running ≡ b → running_count rest + runs a ≡ 1
    → running_count (cond b (pick_back clock rest) rest) ≡ cond (nobody (cond b (pick_back clock rest) rest)) 0 1
count_left clock a rest true e h = count_back clock rest (let z : runs a ≡ 1 = cond-true {A = ℕ} a.running 1 0 e in omega arith)
count_left clock a rest false e h = count_rest rest (let z : runs a ≡ 0 = cond-false {A = ℕ} a.running 1 0 e in omega arith)

asked_first : (cpu clock : ℕ) (xs : List Awake) → list_all (is_asked_rightly cpu) xs ≡ true
    → list_all (is_asked_rightly cpu) (picked_first clock xs) ≡ true
asked_first cpu clock [] h = refl
asked_first cpu clock (x ∷ xs) h = let k = and_parts (is_asked_rightly cpu x) _ h in
    and_from (is_asked_rightly cpu x) _ k.0 (all_reverse (is_asked_rightly cpu) xs k.1)

asked_back : (cpu clock : ℕ) (xs : List Awake) → list_all (is_asked_rightly cpu) xs ≡ true
    → list_all (is_asked_rightly cpu) (pick_back clock xs) ≡ true
unfolding pick_back
asked_back cpu clock xs h = asked_first cpu clock (reverse xs) (all_reverse (is_asked_rightly cpu) xs h)

asked_left : (cpu clock : ℕ) (rest : List Awake) (b : Bool) → list_all (is_asked_rightly cpu) rest ≡ true
    → list_all (is_asked_rightly cpu) (cond b (pick_back clock rest) rest) ≡ true
asked_left cpu clock rest true h = asked_back cpu clock rest h
asked_left cpu clock rest false h = h

count_of_left : (clock : ℕ) (a : Awake) (xs : List Awake) → running_count (without_awake a.task.id xs) + runs a ≡ 1
    → running_count (left_by clock a xs) ≡ cond (nobody (left_by clock a xs)) 0 1
unfolding left_by
count_of_left clock a xs h = count_left clock a (without_awake a.task.id xs) a.running refl h

asked_of_left : (cpu clock : ℕ) (a : Awake) (xs : List Awake) → list_all (is_asked_rightly cpu) xs ≡ true
    → list_all (is_asked_rightly cpu) (left_by clock a xs) ≡ true
unfolding left_by
asked_of_left cpu clock a xs h = asked_left cpu clock (without_awake a.task.id xs) a.running
    (all_filter (is_asked_rightly cpu) (λ x. not (x.task.id == a.task.id)) xs h)

fewer : (b : Bool) (o r : ℕ) → r ≡ cond b 0 o → r ≤ o
fewer true o r e = omega arith
fewer false o r e = omega arith

pub sound_out : (cpu clock id : ℕ) (awake : List Awake) (asleep gone : List TaskRecord) (a : Awake)
    → awake_with id awake ≡ Some a → AreSound cpu awake asleep gone → AreSound cpu (left_by clock a awake) asleep gone
sound_out cpu clock id awake asleep gone a e h =
    let n = awake_named id awake a e in
    let less : (u : ℕ) → occurs u (awake_ids (left_by clock a awake)) ≤ occurs u (awake_ids awake) =
    λ u. fewer (u == a.task.id) _ _ (left_ids clock a awake u) in
    let here : awake_with a.task.id awake ≡ Some a = subst (λ (i : ℕ). awake_with i awake ≡ Some a) (sym n) e in
    let s = sum_others runs key a.task.id awake a (let k = h.once a.task.id in omega arith) here in
    let c : cond {A = ℕ} (nobody awake) 0 1 ≡ 1 = cond-false {A = ℕ} (nobody awake) 0 1 (not_nobody _ awake a e) in
    let o = h.one_runs in
    record {
      once = λ u. let k = h.once u in let l = less u in omega arith;
      numbered = λ u lo. let k = h.numbered u lo in let l = less u in omega arith;
      one_runs = count_of_left clock a awake (omega arith);
      asked = asked_of_left cpu clock a awake h.asked;
    }

alone : (u n o r s t : ℕ) → r ≡ cond (u == n) 0 o → u ≡ n → o + s + t ≤ 1 → 1 ≤ o → r + s + t ≡ 0
alone u n o r s t e same one there = let z : r ≡ 0 = e ∙ cond-true {A = ℕ} (eqb u n) 0 o (eq-eqb u n same) in omega arith

pub unknown_out : (cpu clock id : ℕ) (awake : List Awake) (asleep gone : List TaskRecord) (a : Awake)
    → awake_with id awake ≡ Some a → AreSound cpu awake asleep gone → stands (left_by clock a awake) asleep gone a.task.id ≡ 0
unknown_out cpu clock id awake asleep gone a e h =
    let there : 1 ≤ occurs a.task.id (awake_ids awake) = (found (λ (x : Awake). x.task.id == id) key awake a e).there in
    alone a.task.id a.task.id _ _ _ _ (left_ids clock a awake a.task.id) refl (h.once a.task.id) there

-- ---- a sleeping task goes
pub sound_up : (cpu id : ℕ) (awake : List Awake) (asleep gone : List TaskRecord) → AreSound cpu awake asleep gone
    → AreSound cpu awake (without_task id asleep) gone
sound_up cpu id awake asleep gone h =
    let less : (u : ℕ) → occurs u (ids (without_task id asleep)) ≤ occurs u (ids asleep) =
    λ u. fewer (u == id) _ _ (occurs-without name id u asleep) in
    record {
      once = λ u. let k = h.once u in let l = less u in omega arith;
      numbered = λ u lo. let k = h.numbered u lo in let l = less u in omega arith;
      one_runs = h.one_runs;
      asked = h.asked;
    }

alone_up : (u n o r s t : ℕ) → r ≡ cond (u == n) 0 o → u ≡ n → s + o + t ≤ 1 → 1 ≤ o → s + r + t ≡ 0
alone_up u n o r s t e same one there = let z : r ≡ 0 = e ∙ cond-true {A = ℕ} (eqb u n) 0 o (eq-eqb u n same) in omega arith

pub unknown_up : (cpu id : ℕ) (awake : List Awake) (asleep gone : List TaskRecord) (t : TaskRecord)
    → task_with id asleep ≡ Some t → AreSound cpu awake asleep gone → stands awake (without_task id asleep) gone t.id ≡ 0
unknown_up cpu id awake asleep gone t e h =
    let there : 1 ≤ occurs t.id (ids asleep) = (found (λ (x : TaskRecord). x.id == id) name asleep t e).there in
    alone_up t.id id _ _ _ _ (occurs-without name id t.id asleep) (task_named id asleep t e) (h.once t.id) there

-- ---- a task comes
pub somebody_counts : (xs : List Awake) → somebody_runs xs ≡ true → 1 ≤ running_count xs
unfolding somebody_runs
somebody_counts [] h = absurd (let z : ⊥ = cc in z)
somebody_counts (x ∷ xs) h = let c = sum_by-cons runs x xs in one_of x.running refl h (somebody_counts xs) c
  where
    one_of : {s t : ℕ} (b : Bool) → x.running ≡ b → (b || list_any (λ a. a.running) xs) ≡ true
        → (list_any (λ a. a.running) xs ≡ true → 1 ≤ s) → t ≡ runs x + s → 1 ≤ t
    one_of true e h later c = let z : runs x ≡ 1 = cond-true {A = ℕ} x.running 1 0 e in omega arith
    one_of false e h later c = let k = later h in omega arith

pub nobody_counts : (xs : List Awake) → somebody_runs xs ≡ false → running_count xs ≡ 0
unfolding somebody_runs
nobody_counts [] h = refl
nobody_counts (x ∷ xs) h = let c = sum_by-cons runs x xs in none_of x.running refl h (nobody_counts xs) c
  where
    none_of : {s t : ℕ} (b : Bool) → x.running ≡ b → (b || list_any (λ a. a.running) xs) ≡ false
        → (list_any (λ a. a.running) xs ≡ false → s ≡ 0) → t ≡ runs x + s → t ≡ 0
    none_of true e h later c = absurd (let z : ⊥ = cc in z)
    none_of false e h later c = let k = later h in let z : runs x ≡ 0 = cond-false {A = ℕ} x.running 1 0 e in omega arith

count_joined : (clock : ℕ) (t : TaskRecord) (xs : List Awake) (b : Bool) → somebody_runs xs ≡ b
    → running_count xs ≡ cond (nobody xs) 0 1 → running_count (cond b (waiting t ∷ xs) (picked clock (waiting t) ∷ xs)) ≡ 1
count_joined clock t xs true e h =
    let c = sum_by-cons runs (waiting t) xs in
    let k = somebody_counts xs e in
    let m = at_most_one (nobody xs) _ h in
    omega arith
  where
    at_most_one : (b : Bool) (n : ℕ) → n ≡ cond b 0 1 → n ≤ 1
    at_most_one true n e = omega arith
    at_most_one false n e = omega arith
count_joined clock t xs false e h =
    let c = sum_by-cons runs (picked clock (waiting t)) xs in
    let k = nobody_counts xs e in
    omega arith

somebody_joined : (clock : ℕ) (t : TaskRecord) (xs : List Awake) (b : Bool)
    → nobody (cond b (waiting t ∷ xs) (picked clock (waiting t) ∷ xs)) ≡ false
somebody_joined clock t xs true = refl
somebody_joined clock t xs false = refl

asked_joined : (cpu clock : ℕ) (t : TaskRecord) (xs : List Awake) (b : Bool) → has t.mask cpu ≡ true
    → list_all (is_asked_rightly cpu) xs ≡ true → list_all (is_asked_rightly cpu)
    (cond b (waiting t ∷ xs) (picked clock (waiting t) ∷ xs)) ≡ true
asked_joined cpu clock t xs true m h = and_from _ _ (rw m refl) h
asked_joined cpu clock t xs false m h = and_from _ _ (rw m refl) h

added : (i u r s t l : ℕ) → r + s + t ≤ 1 → (u ≡ i → r + s + t ≡ 0) → l ≡ cond (i == u) 1 0 + r → l + s + t ≤ 1
added i u r s t l one none e = elim (cases_Bool (eqb i u)) [
  | inl same ↦ (let z : cond {A = ℕ} (eqb i u) 1 0 ≡ 1 = cond-true {A = ℕ} (eqb i u) 1 0 same in
      let k = none (sym (eqb-true i u same)) in omega arith)
  | inr other ↦ (let z : cond {A = ℕ} (eqb i u) 1 0 ≡ 0 = cond-false {A = ℕ} (eqb i u) 1 0 other in omega arith)
]

still_low : (i u r s t l : ℕ) → i < id_limit → id_limit ≤ u → r + s + t ≡ 0 → l ≡ cond (i == u) 1 0 + r → l + s + t ≡ 0
still_low i u r s t l low high none e = elim (cases_Bool (eqb i u)) [
  | inl same ↦ (let z = eqb-true i u same in absurd (omega arith))
  | inr other ↦ (let z : cond {A = ℕ} (eqb i u) 1 0 ≡ 0 = cond-false {A = ℕ} (eqb i u) 1 0 other in omega arith)
]

pub sound_in : (cpu clock : ℕ) (awake : List Awake) (asleep gone : List TaskRecord) (t : TaskRecord) → t.id < id_limit
    → stands awake asleep gone t.id ≡ 0 → has t.mask cpu ≡ true → AreSound cpu awake asleep gone
    → AreSound cpu (joined clock t awake) asleep gone
unfolding joined
sound_in cpu clock awake asleep gone t low new m h = record {
  once = λ u. added t.id u _ _ _ _ (h.once u) (λ e. rw e new) (joined_ids clock t awake u);
  numbered = λ u lo. still_low t.id u _ _ _ _ low lo (h.numbered u lo) (joined_ids clock t awake u);
  one_runs = count_joined clock t awake (somebody_runs awake) refl h.one_runs
      ∙ sym (cond-false {A = ℕ} _ 0 1 (somebody_joined clock t awake (somebody_runs awake)));
  asked = asked_joined cpu clock t awake (somebody_runs awake) m h.asked;
}

added_asleep : (i u r s t l : ℕ) → r + s + t ≤ 1 → (u ≡ i → r + s + t ≡ 0) → l ≡ s + cond (i == u) 1 0 → r + l + t ≤ 1
added_asleep i u r s t l one none e = elim (cases_Bool (eqb i u)) [
  | inl same ↦ (let z : cond {A = ℕ} (eqb i u) 1 0 ≡ 1 = cond-true {A = ℕ} (eqb i u) 1 0 same in
      let k = none (sym (eqb-true i u same)) in omega arith)
  | inr other ↦ (let z : cond {A = ℕ} (eqb i u) 1 0 ≡ 0 = cond-false {A = ℕ} (eqb i u) 1 0 other in omega arith)
]

low_asleep : (i u r s t l : ℕ) → i < id_limit → id_limit ≤ u → r + s + t ≡ 0 → l ≡ s + cond (i == u) 1 0 → r + l + t ≡ 0
low_asleep i u r s t l low high none e = elim (cases_Bool (eqb i u)) [
  | inl same ↦ (let z = eqb-true i u same in absurd (omega arith))
  | inr other ↦ (let z : cond {A = ℕ} (eqb i u) 1 0 ≡ 0 = cond-false {A = ℕ} (eqb i u) 1 0 other in omega arith)
]

pushed_ids : (u : ℕ) (xs : List TaskRecord) (t : TaskRecord) → occurs u (ids (xs ++ t ∷ [])) ≡ occurs u (ids xs) + cond
    (t.id == u) 1 0
pushed_ids u xs t = let k = occurs-map_append name u xs (t ∷ []) in omega arith

pub sound_asleep : (cpu : ℕ) (awake : List Awake) (asleep gone : List TaskRecord) (t : TaskRecord) → t.id < id_limit
    → stands awake asleep gone t.id ≡ 0 → AreSound cpu awake asleep gone → AreSound cpu awake (asleep ++ t ∷ []) gone
sound_asleep cpu awake asleep gone t low new h = record {
  once = λ u. added_asleep t.id u _ _ _ _ (h.once u) (λ e. rw e new) (pushed_ids u asleep t);
  numbered = λ u lo. low_asleep t.id u _ _ _ _ low lo (h.numbered u lo) (pushed_ids u asleep t);
  one_runs = h.one_runs;
  asked = h.asked;
}

added_gone : (i u r s t l : ℕ) → r + s + t ≤ 1 → (u ≡ i → r + s + t ≡ 0) → l ≡ t + cond (i == u) 1 0 → r + s + l ≤ 1
added_gone i u r s t l one none e = let k =
    added_asleep i u (r + s) t 0 l (omega arith) (λ z. let y = none z in omega arith) e in omega arith

low_gone : (i u r s t l : ℕ) → i < id_limit → id_limit ≤ u → r + s + t ≡ 0 → l ≡ t + cond (i == u) 1 0 → r + s + l ≡ 0
low_gone i u r s t l low high none e = let k = low_asleep i u (r + s) t 0 l low high (omega arith) e in omega arith

pub sound_gone : (cpu : ℕ) (awake : List Awake) (asleep gone : List TaskRecord) (t : TaskRecord) → t.id < id_limit
    → stands awake asleep gone t.id ≡ 0 → AreSound cpu awake asleep gone → AreSound cpu awake asleep (gone ++ t ∷ [])
sound_gone cpu awake asleep gone t low new h = record {
  once = λ u. added_gone t.id u _ _ _ _ (h.once u) (λ e. rw e new) (pushed_ids u gone t);
  numbered = λ u lo. low_gone t.id u _ _ _ _ low lo (h.numbered u lo) (pushed_ids u gone t);
  one_runs = h.one_runs;
  asked = h.asked;
}

-- ---- a task is taken out of a list
pub left_is : (clock id : ℕ) (a : Awake) (xs mid new : List Awake) → Some a ≡ awake_with id xs
    → mid ≡ without_awake id xs → new ≡ cond a.running (pick_back clock mid) mid → new ≡ left_of clock (awake_with id xs) xs
unfolding left_by
left_is clock id a xs mid new f r e =
    let n = awake_named id xs a (sym f) in
    rw (← f, n, e, r) refl

pub left_none : (clock id : ℕ) (xs new : List Awake) → None ≡ awake_with id xs → new ≡ without_awake id xs
    → new ≡ left_of clock (awake_with id xs) xs
left_none clock id xs new f r = rw (← f) (r ∙ rest_of_none key id xs (sym f))

set_down_name : (clock : ℕ) (a : Awake) (b : Bool) → a.running ≡ b → name (set_down clock a) ≡ key a
set_down_name clock a true h = rw h refl
set_down_name clock a false h = rw h refl

pub set_down_keeps : (clock : ℕ) (a : Awake) → name (set_down clock a) ≡ key a
set_down_keeps clock a = set_down_name clock a a.running refl

-- ---- the tasks are changed one by one
count_map : (f : Awake → Awake) → ((x : Awake) → (f x).running ≡ x.running) → (xs : List Awake)
    → running_count (map f xs) ≡ running_count xs
count_map f run [] = refl
count_map f run (x ∷ xs) =
    let c = sum_by-cons runs (f x) (map f xs) in
    let d = sum_by-cons runs x xs in
    let h = count_map f run xs in
    let r : runs (f x) ≡ runs x = ap (λ (b : Bool). cond {A = ℕ} b 1 0) (run x) in
    omega arith

nobody_map : (f : Awake → Awake) (xs : List Awake) → nobody (map f xs) ≡ nobody xs
nobody_map f [] = refl
nobody_map f (x ∷ xs) = refl

pub sound_map : (cpu : ℕ) (f : Awake → Awake) (awake : List Awake) (asleep gone : List TaskRecord)
    → ((x : Awake) → key (f x) ≡ key x) → ((x : Awake) → (f x).running ≡ x.running)
    → ((x : Awake) → is_asked_rightly cpu x ≡ true → is_asked_rightly cpu (f x) ≡ true) →
    AreSound cpu awake asleep gone → AreSound cpu (map f awake) asleep gone
sound_map cpu f awake asleep gone id run ask h = record {
  once = λ u. let k = h.once u in let e = occurs-map key f id u awake in omega arith;
  numbered = λ u lo. let k = h.numbered u lo in let e = occurs-map key f id u awake in omega arith;
  one_runs = count_map f run awake ∙ h.one_runs ∙ ap (λ (b : Bool). cond {A = ℕ} b 0 1) (sym (nobody_map f awake));
  asked = all_map (is_asked_rightly cpu) (is_asked_rightly cpu) f ask awake h.asked;
}

pub sound_tasks : (cpu : ℕ) (f : TaskRecord → TaskRecord) (awake : List Awake) (asleep gone : List TaskRecord)
    → ((t : TaskRecord) → name (f t) ≡ name t) → AreSound cpu awake asleep gone → AreSound cpu awake (map f asleep) gone
sound_tasks cpu f awake asleep gone id h = record {
  once = λ u. let k = h.once u in let e = occurs-map name f id u asleep in omega arith;
  numbered = λ u lo. let k = h.numbered u lo in let e = occurs-map name f id u asleep in omega arith;
  one_runs = h.one_runs;
  asked = h.asked;
}

-- ---- a new mask, a new nice value and a tick
asked_after : (s : StopRequest) (b : Bool)
    → cond b (not (is_pending (cond b Free (cond (is_pending s) s Pending))))
    (is_pending (cond b Free (cond (is_pending s) s Pending))) ≡ true
asked_after s true = refl
asked_after Free false = refl
asked_after Pending false = refl
asked_after Owed false = refl

pub masked_asked : (cpu id : ℕ) (m : Mask) (x : Awake) → is_asked_rightly cpu x ≡ true
    → is_asked_rightly cpu (cond (x.task.id == id) (masked cpu m x) x) ≡ true
masked_asked cpu id m x h = by (x.task.id == id)
  where
    by : (b : Bool) → is_asked_rightly cpu (cond b (masked cpu m x) x) ≡ true
    by true = asked_after x.stop (has m cpu)
    by false = h

pub masked_key : (cpu id : ℕ) (m : Mask) (x : Awake) → key (cond (x.task.id == id) (masked cpu m x) x) ≡ key x
masked_key cpu id m x = by (x.task.id == id)
  where
    by : (b : Bool) → key (cond b (masked cpu m x) x) ≡ key x
    by true = refl
    by false = refl

pub masked_running : (cpu id : ℕ) (m : Mask) (x : Awake) → (cond (x.task.id == id) (masked cpu m x) x).running ≡ x.running
masked_running cpu id m x = by (x.task.id == id)
  where
    by : (b : Bool) → (cond b (masked cpu m x) x).running ≡ x.running
    by true = refl
    by false = refl

pub reniced_asked : (cpu id : ℕ) (n : ℤ) (x : Awake) → is_asked_rightly cpu x ≡ true
    → is_asked_rightly cpu (cond (x.task.id == id) (reniced n x) x) ≡ true
reniced_asked cpu id n x h = by (x.task.id == id)
  where
    by : (b : Bool) → is_asked_rightly cpu (cond b (reniced n x) x) ≡ true
    by true = h
    by false = h

pub reniced_key : (id : ℕ) (n : ℤ) (x : Awake) → key (cond (x.task.id == id) (reniced n x) x) ≡ key x
reniced_key id n x = by (x.task.id == id)
  where
    by : (b : Bool) → key (cond b (reniced n x) x) ≡ key x
    by true = refl
    by false = refl

pub reniced_running : (id : ℕ) (n : ℤ) (x : Awake) → (cond (x.task.id == id) (reniced n x) x).running ≡ x.running
reniced_running id n x = by (x.task.id == id)
  where
    by : (b : Bool) → (cond b (reniced n x) x).running ≡ x.running
    by true = refl
    by false = refl

pub mask_name : (id : ℕ) (m : Mask) (t : TaskRecord) → name (cond (t.id == id) (with_mask m t) t) ≡ name t
mask_name id m t = by (t.id == id)
  where
    by : (b : Bool) → name (cond b (with_mask m t) t) ≡ name t
    by true = refl
    by false = refl

pub nice_name : (id : ℕ) (n : ℤ) (t : TaskRecord) → name (cond (t.id == id) (with_nice n t) t) ≡ name t
nice_name id n t = by (t.id == id)
  where
    by : (b : Bool) → name (cond b (with_nice n t) t) ≡ name t
    by true = refl
    by false = refl
