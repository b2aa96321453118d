-- The ids that a pull picks and those that it leaves, among the ids of the awake tasks.
-- For `Queue::take`.
use Rattle.std.proofs.Common.{◌≡◌, ℕ, zero, suc, ◌+◌, ◌-◌, ◌<◌, ◌≤◌, Bool, true, false, not, cond, ◌==◌, eqb, List, [], ◌∷◌, ◌++◌, length, map, reverse, filter, filter_map, get_or, take, drop, Option, Some, None, refl, sym, ◌∙◌, ap, arith, subst, inl, inr, drop-cons, add-one}
use Rattle.std.specs.Prelude.{All, IsSomeAnd}
use Rattle.std.specs.List.{range_with_len, cons_option}
use Rattle.std.proofs.lemmas.Bool.{cases_Bool, cond-true, cond-false, eqb-true, eq-eqb, ne_eqb}
use Rattle.std.proofs.lemmas.List.{map-append, length-map, reverse-append, reverse-reverse, take-append-drop, drop_all}
use Rattle.std.proofs.lemmas.List.Elements.{All-head, All-tail, filter-append}
use Rattle.std.proofs.lemmas.List.FromFn.{length-range_with_len}
use Rattle.std.proofs.lemmas.List.Sums.{prefix_len-le-length}
use Rattle.lb_base.specs.declared.view.TaskView.{TaskView}
use Rattle.lb_base.specs.Mask.{has}
use Rattle.lb_base.proofs.Ranges.{range_more}
use Rattle.lb_detach.specs.declared.Env.{Env}
use Rattle.lb_detach.specs.Laws.{IsSound}
use Rattle.lb_detach.specs.Picks.{no_task, task_at, taken, refused, refused_at, ends, examined, ids_at, picked_ids, kept_ids}
use Rattle.lb_queue.specs.declared.awake.Awake.{Awake}
use Rattle.lb_queue.specs.Tasks.{occurs, awake_ids, awake_with}
use Rattle.lb_queue.specs.Values.{view_at}
use Rattle.lb_queue.specs.Hands.{in_order}
use Rattle.lb_queue.specs.Pulls.{CanGo, AllCanGo, without_all, IsTurned}
use Rattle.lb_queue.proofs.Counts.{found, found_none, occurs-append, occurs-reverse}
use Rattle.lb_queue.proofs.Ids.{key}
use Rattle.lb_queue.proofs.Order.{all_turned}
use Rattle.lb_queue.proofs.Positions.{get_map}
use Rattle.lb_queue.proofs.Taking.{found_without}
use Rattle.lb_queue.proofs.Turned.{map_reverse, filter_reverse}

-- ---- those that pass a test and those that do not
split_step : {X : Type 0} (f : X → ℕ) (u : ℕ) (x : X) (nays ayes : List X) (r : ℕ) (b : Bool)
    → occurs u (map f nays) + occurs u (map f ayes) ≡ r →
    occurs u (map f (cond (not b) (x ∷ nays) nays)) + occurs u (map f (cond b (x ∷ ayes) ayes)) ≡ cond (eqb (f x) u) 1 0 + r
split_step f u x nays ayes r true e = omega arith
split_step f u x nays ayes r false e = omega arith

occurs_split : {X : Type 0} (f : X → ℕ) (p : X → Bool) (u : ℕ) (xs : List X)
    → occurs u (map f (filter (λ x. not (p x)) xs)) + occurs u (map f (filter p xs)) ≡ occurs u (map f xs)
occurs_split f p u [] = refl
occurs_split f p u (x ∷ xs) = split_step f u x (filter (λ y. not (p y)) xs) (filter p xs) _ (p x) (occurs_split f p u xs)

self : (x : ℕ) → cond {A = ℕ} (eqb x x) 1 0 ≡ 1
self x = cond-true {A = ℕ} (eqb x x) 1 0 (eq-eqb x x refl)

occurs_kept : {X : Type 0} (f : X → ℕ) (t : X → Bool) (xs : List X) (k : ℕ) (d : X) → k < length xs
    → t (get_or xs k d) ≡ true → 1 ≤ occurs (f (get_or xs k d)) (map f (filter t xs))
occurs_kept f t [] k d lt h = absurd (omega arith)
occurs_kept f t (x ∷ xs) zero d lt h = rw h (let z = self (f x) in omega arith)
occurs_kept f t (x ∷ xs) (suc k) d lt h = step (f (get_or xs k d)) (t x) (occurs_kept f t xs k d (omega arith) h)
  where
    step : (u : ℕ) (b : Bool) → 1 ≤ occurs u (map f (filter t xs)) → 1 ≤ occurs u (map f (cond b (x ∷ filter t xs) (filter t xs)))
    step u true h = omega arith
    step u false h = h

-- where the numbers differ, one that passes is not among the numbers of those that fail
kept_test : {X : Type 0} (f : X → ℕ) (p : X → Bool) (xs : List X) → ((u : ℕ) → occurs u (map f xs) ≤ 1)
    → All (λ x. (occurs (f x) (map f (filter (λ y. not (p y)) xs)) == 0) ≡ p x) xs
kept_test f p xs one k d lt =
    let x = get_or xs k d in
    let s = occurs_split f p (f x) xs in
    let o = one (f x) in
    elim (cases_Bool (p x)) [
      | inl passes ↦ (let t = occurs_kept f p xs k d lt passes in eq-eqb _ 0 (omega arith) ∙ sym passes)
      | inr fails ↦ (let t = occurs_kept f (λ y. not (p y)) xs k d lt (ap not fails) in ne_eqb _ 0 (λ z. omega arith) ∙ sym fails)
    ]

filter_numbers : {X : Type 0} (f : X → ℕ) (p : X → Bool) (q : ℕ → Bool) (xs : List X) → All (λ x. q (f x) ≡ p x) xs
    → filter q (map f xs) ≡ map f (filter p xs)
filter_numbers f p q [] h = refl
filter_numbers f p q (x ∷ xs) h = step (q (f x)) (p x) (All-head (λ y. q (f y) ≡ p y) x xs h)
    (filter_numbers f p q xs (All-tail (λ y. q (f y) ≡ p y) x xs h))
  where
    step : (a b : Bool) → a ≡ b → filter q (map f xs) ≡ map f (filter p xs)
        → cond a (f x ∷ filter q (map f xs)) (filter q (map f xs)) ≡ map f (cond b (x ∷ filter p xs) (filter p xs))
    step true true e h = ap (λ ys. f x ∷ ys) h
    step true false e h = absurd (let z : ⊥ = cc in z)
    step false true e h = absurd (let z : ⊥ = cc in z)
    step false false e h = h

filter_same : (q : ℕ → Bool) (us : List ℕ) → All (λ u. q u ≡ true) us → filter q us ≡ us
filter_same q [] h = refl
filter_same q (u ∷ us) h = cond-true (q u) (u ∷ filter q us) (filter q us) (All-head (λ x. q x ≡ true) u us h)
    ∙ ap (λ ys. u ∷ ys) (filter_same q us (All-tail (λ x. q x ≡ true) u us h))

counted_at : (us : List ℕ) (k d : ℕ) → k < length us → 1 ≤ occurs (get_or us k d) us
counted_at [] k d lt = absurd (omega arith)
counted_at (u ∷ us) zero d lt = let z = self u in omega arith
counted_at (u ∷ us) (suc k) d lt = let h = counted_at us k d (omega arith) in omega arith

-- ---- the ids of the tasks that a pull sees
abbrev id_of : TaskView → ℕ
id_of t = t.id

views_ids : (now : ℕ) (xs : List Awake) → map id_of (map (view_at now) xs) ≡ awake_ids xs
unfolding view_at
views_ids now [] = refl
views_ids now (x ∷ xs) = ap (λ (is : List ℕ). key x ∷ is) (views_ids now xs)

abbrev at_place : List TaskView → ℕ → ℕ
at_place list i = (task_at list i).id

-- the tasks at the first n places are those at the back of the list, turned round
from_back : (list : List TaskView) (n : ℕ) → n ≤ length list
    → map (at_place list) (range_with_len 0 n) ≡ reverse (map id_of (drop (length list - n) list))
unfolding task_at
from_back list zero le = rw (drop_all (length list - 0) list (omega arith)) refl
from_back list (suc n) le =
    let k = length list - suc n in
    let last = (get_or list k no_task).id in
    let place : length list - 1 - n ≡ k = omega arith in
    let zero_n : 0 + n ≡ n = omega arith in
    let next : suc k ≡ length list - n = omega arith in
    let range : range_with_len 0 (suc n) ≡ range_with_len 0 n ++ n ∷ [] =
    ap (range_with_len 0) (sym (add-one n)) ∙ range_more 0 n ∙ ap (λ (x : ℕ). range_with_len 0 n ++ x ∷ []) zero_n in
    let front : map (at_place list) (range_with_len 0 (suc n)) ≡ map (at_place list) (range_with_len 0 n) ++ last ∷ [] =
    ap (map (at_place list)) range ∙ map-append (at_place list) (range_with_len 0 n) (n ∷ [])
    ∙ ap (λ (x : ℕ). map (at_place list) (range_with_len 0 n) ++ (get_or list x no_task).id ∷ []) place in
    let back : drop k list ≡ get_or list k no_task ∷ drop (length list - n) list =
    drop-cons list k no_task (omega arith) ∙ ap (λ (x : ℕ). get_or list k no_task ∷ drop x list) next in
    let turned : reverse (map id_of (drop k list)) ≡ reverse (map id_of (drop (length list - n) list)) ++ last ∷ [] =
    ap (λ (x : List TaskView). reverse (map id_of x)) back ∙ reverse-append (last ∷ [])
    (map id_of (drop (length list - n) list)) in
    front ∙ ap (λ (x : List ℕ). x ++ last ∷ []) (from_back list n (omega arith)) ∙ sym turned

examined_within : (env : Env) (list : List TaskView) → examined env list ≤ length list
unfolding examined
examined_within env list = let h : examined env list ≤ length (range_with_len 0 (length list)) =
    prefix_len-le-length (λ i. not (ends env list i)) (range_with_len 0 (length list)) in
    omega (arith, length-range_with_len 0 (length list))

-- the tasks that are not examined
abbrev untouched : List TaskView → ℕ → List ℕ
untouched list e = map id_of (take (length list - e) list)

-- the ids are those that are not examined and, turned round, those that are
ids_are : (list : List TaskView) (e : ℕ) → e ≤ length list
    → map id_of list ≡ untouched list e ++ map (at_place list) (reverse (range_with_len 0 e))
ids_are list e le =
    let n = length list - e in
    let back : map (at_place list) (reverse (range_with_len 0 e)) ≡ map id_of (drop n list) =
    map_reverse (at_place list) (range_with_len 0 e) ∙ ap reverse (from_back list e le) ∙ reverse-reverse
    (map id_of (drop n list)) in
    ap (map id_of) (sym (take-append-drop n list)) ∙ map-append id_of (take n list) (drop n list)
    ∙ ap (λ (is : List ℕ). untouched list e ++ is) (sym back)

-- each id is among those that are not examined, those that are picked or those that are refused
counts : (env : Env) (list : List TaskView) (u : ℕ) →
    occurs u (map id_of list) ≡ occurs u (untouched list (examined env list)) +
    (occurs u (picked_ids env list) + occurs u (map (at_place list) (refused env list (examined env list))))
unfolding picked_ids ids_at taken refused
counts env list u =
    let e = examined env list in
    let a = ap (occurs u) (ids_are list e (examined_within env list)) in
    let b = occurs-append u (untouched list e) (map (at_place list) (reverse (range_with_len 0 e))) in
    let r = occurs-reverse (at_place list) u (range_with_len 0 e) in
    let s = occurs_split (at_place list) (refused_at env list) u (range_with_len 0 e) in
    omega arith

kept_counts : (env : Env) (list : List TaskView) (u : ℕ)
    → occurs u (kept_ids env list) ≡ occurs u (untouched list (examined env list)) + occurs u
    (map (at_place list) (refused env list (examined env list)))
unfolding kept_ids ids_at
kept_counts env list u =
    let e = examined env list in
    let a = occurs-append u (map (at_place list) (reverse (refused env list e))) (untouched list e) in
    let r = occurs-reverse (at_place list) u (refused env list e) in
    omega arith

-- together they are those of the awake tasks
pub picked_or_kept : (env : Env) (now : ℕ) (xs : List Awake) (u : ℕ)
    → occurs u (picked_ids env (map (view_at now) xs)) + occurs u (kept_ids env (map (view_at now) xs)) ≡ occurs u (awake_ids xs)
picked_or_kept env now xs u =
    let list = map (view_at now) xs in
    let c = counts env list u in
    let k = kept_counts env list u in
    let v = ap (occurs u) (views_ids now xs) in
    omega arith

-- tasks by their ids have these ids
order_step : (i : ℕ) (is : List ℕ) (xs : List Awake) (o : Option Awake) → awake_with i xs ≡ o
    → 1 ≤ occurs i (awake_ids xs) → awake_ids (in_order is xs) ≡ is → awake_ids (cons_option o (in_order is xs)) ≡ i ∷ is
order_step i is xs None e h k = absurd (let z = found_none key i xs e in omega arith)
order_step i is xs (Some a) e h k =
    let n : a.task.id ≡ i = eqb-true a.task.id i (found (λ (x : Awake). x.task.id == i) key xs a e).passes in
    rw (n, k) refl

pub in_order_ids : (is : List ℕ) (xs : List Awake) → ((i : ℕ) → 1 ≤ occurs i is → 1 ≤ occurs i (awake_ids xs))
    → awake_ids (in_order is xs) ≡ is
unfolding in_order
in_order_ids [] xs h = refl
in_order_ids (i ∷ is) xs h = order_step i is xs (awake_with i xs) refl (h i (let k = self i in omega arith))
    (in_order_ids is xs (λ j p. h j (omega arith)))

-- ---- what leaves
once_of : (now : ℕ) (xs : List Awake) → ((u : ℕ) → occurs u (awake_ids xs) ≤ 1) → (u : ℕ)
    → occurs u (map id_of (map (view_at now) xs)) ≤ 1
once_of now xs one u = subst (λ (is : List ℕ). occurs u is ≤ 1) (sym (views_ids now xs)) (one u)

pub picked_once : (env : Env) (now : ℕ) (xs : List Awake) → ((u : ℕ) → occurs u (awake_ids xs) ≤ 1) → (u : ℕ)
    → occurs u (picked_ids env (map (view_at now) xs)) ≤ 1
picked_once env now xs one u = let c = counts env (map (view_at now) xs) u in let o = once_of now xs one u in omega arith

-- the task at a place, of which a pull sees the view
view_there : (now : ℕ) (xs : List Awake) (j : ℕ) → ((u : ℕ) → occurs u (awake_ids xs) ≤ 1) → j < length xs
    → (a : Awake) × (get_or (map (view_at now) xs) j no_task ≡ view_at now a) × (awake_with (key a) xs ≡ Some a)
view_there now [] j one lt = absurd (omega arith)
view_there now (x ∷ xs) zero one lt = (
  x,
  refl,
  cond-true (eqb (key x) (key x)) (Some x) (awake_with (key x) xs)
      (eq-eqb (key x) (key x) refl),
)
view_there now (x ∷ xs) (suc j) one lt =
    let h = view_there now xs j (λ u. let o = one u in omega arith) (omega arith) in
    let there = (found (λ (y : Awake). y.task.id == key h.0) key xs h.0 h.2).there in
    let apart : eqb (key x) (key h.0) ≡ false = elim (cases_Bool (eqb (key x) (key h.0))) [
      | inl e ↦ absurd (let z : cond {A = ℕ} (eqb (key x) (key h.0)) 1 0 ≡ 1 = cond-true {A = ℕ}
          (eqb (key x) (key h.0)) 1 0 e in let o = one (key h.0) in omega arith)
      | inr e ↦ e
    ] in
    (h.0, h.1, cond-false (eqb (key x) (key h.0)) (Some x) (awake_with (key h.0) xs) apart ∙ h.2)

can_go_by : (to : ℕ) (xs : List Awake) (a : Awake) (id : ℕ) → id ≡ key a → awake_with (key a) xs ≡ Some a
    → a.running ≡ false → has a.task.mask to ≡ true → IsSomeAnd (awake_with id xs) (CanGo to)
can_go_by to xs a id e f waits may =
    subst (λ (i : ℕ). IsSomeAnd (awake_with i xs) (CanGo to)) (sym e)
    (subst (λ (o : Option Awake). IsSomeAnd o (CanGo to)) (sym f) (record { waits = waits; may_run = may }))

-- what is known of a task whose view is known
seen : (now to : ℕ) (xs : List Awake) (v : TaskView) (a : Awake) → v ≡ view_at now a → awake_with (key a) xs ≡ Some a
    → v.running ≡ false → has v.mask to ≡ true → IsSomeAnd (awake_with v.id xs) (CanGo to)
unfolding view_at
seen now to xs v a e f waits may =
    can_go_by to xs a v.id (ap (λ (w : TaskView). w.id) e) f (sym (ap (λ (w : TaskView). w.running) e) ∙ waits)
    (sym (ap (λ (w : TaskView). has w.mask to) e) ∙ may)

goes : (env : Env) (now : ℕ) (xs : List Awake) (i : ℕ) → ((u : ℕ) → occurs u (awake_ids xs) ≤ 1) → i < length xs
    → (task_at (map (view_at now) xs) i).running ≡ false → has (task_at (map (view_at now) xs) i).mask env.to ≡ true →
    IsSomeAnd (awake_with (at_place (map (view_at now) xs) i) xs) (CanGo env.to)
unfolding task_at
goes env now xs i one lt waits may =
    let list = map (view_at now) xs in
    let l = length-map xs (view_at now) in
    let h = view_there now xs (length list - 1 - i) one (omega arith) in
    seen now env.to xs (get_or list (length list - 1 - i) no_task) h.0 h.1 h.2 waits may

pub picked_can_go : (env : Env) (now : ℕ) (xs : List Awake) → ((u : ℕ) → occurs u (awake_ids xs) ≤ 1)
    → IsSound env (map (view_at now) xs) → AllCanGo env.to xs (picked_ids env (map (view_at now) xs))
unfolding picked_ids ids_at
picked_can_go env now xs one h k d lt =
    let list = map (view_at now) xs in
    let places = taken env list (examined env list) in
    let l = length-map places (at_place list) in
    let inside : k < length places = omega arith in
    let i = get_or places k 0 in
    let e : get_or (map (at_place list) places) k d ≡ at_place list i = get_map (at_place list) places k 0 d inside in
    let w = examined_within env list in
    let v = length-map xs (view_at now) in
    let b : i < examined env list = h.inside k 0 inside in
    subst (λ (id : ℕ). IsSomeAnd (awake_with id xs) (CanGo env.to)) (sym e)
    (goes env now xs i one (omega arith) (h.not_running k 0 inside) (h.permitted k 0 inside))

-- ---- what stays
ids_filter : (q : ℕ → Bool) (xs : List Awake) → awake_ids (filter (λ a. q a.task.id) xs) ≡ filter q (awake_ids xs)
ids_filter q [] = refl
ids_filter q (x ∷ xs) = step (q (key x)) (ids_filter q xs)
  where
    step : (b : Bool) → awake_ids (filter (λ a. q a.task.id) xs) ≡ filter q (awake_ids xs)
        → awake_ids (cond b (x ∷ filter (λ a. q a.task.id) xs) (filter (λ a. q a.task.id) xs)) ≡ cond b
        (key x ∷ filter q (awake_ids xs)) (filter q (awake_ids xs))
    step true h = ap (λ (is : List ℕ). key x ∷ is) h
    step false h = h

-- those that are not examined are none of those that are picked
untouched_stay : (env : Env) (list : List TaskView) → ((u : ℕ) → occurs u (map id_of list) ≤ 1)
    → All (λ u. (occurs u (picked_ids env list) == 0) ≡ true) (untouched list (examined env list))
untouched_stay env list one k d lt =
    let us = untouched list (examined env list) in
    let u = get_or us k d in
    let t = counted_at us k d lt in
    let c = counts env list u in
    let o = one u in
    eq-eqb (occurs u (picked_ids env list)) 0 (omega arith)

-- and of those that are examined the refused ones are none of them
refused_stay : (env : Env) (list : List TaskView) → ((u : ℕ) → occurs u (map id_of list) ≤ 1) →
    All (λ i. (occurs (at_place list i) (picked_ids env list) == 0) ≡ refused_at env list i)
    (range_with_len 0 (examined env list))
unfolding picked_ids ids_at taken
refused_stay env list one =
    let e = examined env list in
    kept_test (at_place list) (refused_at env list) (range_with_len 0 e)
    (λ u. let a = ap (occurs u) (ids_are list e (examined_within env list)) in
    let b = occurs-append u (untouched list e) (map (at_place list) (reverse (range_with_len 0 e))) in let r =
    occurs-reverse (at_place list) u (range_with_len 0 e) in let o = one u in omega arith)

left_ids : (env : Env) (list : List TaskView) → ((u : ℕ) → occurs u (map id_of list) ≤ 1) →
    filter (λ u. occurs u (picked_ids env list) == 0) (map id_of list) ≡ untouched list (examined env list) ++ map
    (at_place list) (reverse (refused env list (examined env list)))
unfolding refused
left_ids env list one =
    let e = examined env list in
    let R = range_with_len 0 e in
    let q = λ (u : ℕ). occurs u (picked_ids env list) == 0 in
    let P = λ (i : ℕ). q (at_place list i) ≡ refused_at env list i in
    let back : filter q (map (at_place list) (reverse R)) ≡ map (at_place list) (reverse (filter (refused_at env list) R)) =
    filter_numbers (at_place list) (refused_at env list) q (reverse R) (all_turned P R (refused_stay env list one))
    ∙ ap (map (at_place list)) (filter_reverse (refused_at env list) R) in
    ap (filter q) (ids_are list e (examined_within env list)) ∙ filter-append q (untouched list e)
    (map (at_place list) (reverse R))
    ∙ ap (λ (is : List ℕ). is ++ filter q (map (at_place list) (reverse R)))
    (filter_same q (untouched list e) (untouched_stay env list one))
    ∙ ap (λ (is : List ℕ). untouched list e ++ is) back

-- the rest is to be turned
pub left_turned : (env : Env) (now : ℕ) (xs : List Awake) → ((u : ℕ) → occurs u (awake_ids xs) ≤ 1)
    → IsTurned (awake_ids (without_all (picked_ids env (map (view_at now) xs)) xs)) (kept_ids env (map (view_at now) xs))
unfolding kept_ids ids_at
left_turned env now xs one =
    let list = map (view_at now) xs in
    let e = examined env list in
    let q = λ (u : ℕ). occurs u (picked_ids env list) == 0 in
    record {
      front = untouched list e;
      back = map (at_place list) (reverse (refused env list e));
      ids_are = ids_filter q xs ∙ ap (filter q) (sym (views_ids now xs)) ∙ left_ids env list (once_of now xs one);
      order_is = refl;
    }

in_order_same : (ids : List ℕ) (xs ys : List Awake) → All (λ id. awake_with id ys ≡ awake_with id xs) ids
    → in_order ids ys ≡ in_order ids xs
unfolding in_order
in_order_same [] xs ys h = refl
in_order_same (id ∷ ids) xs ys h =
    let P = λ (i : ℕ). awake_with i ys ≡ awake_with i xs in
    ap (λ (o : Option Awake). cons_option o (filter_map (λ i. awake_with i ys) ids)) (All-head P id ids h)
    ∙ ap (cons_option (awake_with id xs)) (in_order_same ids xs ys (All-tail P id ids h))

-- what stays is found in the rest as in the whole
pub kept_in_order : (env : Env) (now : ℕ) (xs : List Awake) → ((u : ℕ) → occurs u (awake_ids xs) ≤ 1) →
    in_order (kept_ids env (map (view_at now) xs)) (without_all (picked_ids env (map (view_at now) xs)) xs) ≡ in_order
    (kept_ids env (map (view_at now) xs)) xs
kept_in_order env now xs one =
    let list = map (view_at now) xs in
    let kept = kept_ids env list in
    let all : All (λ id. awake_with id (without_all (picked_ids env list) xs) ≡ awake_with id xs) kept = λ k d lt.
    let id = get_or kept k d in
    let t = counted_at kept k d lt in
    let n = kept_counts env list id in
    let c = counts env list id in
    let o = once_of now xs one id in
    found_without (picked_ids env list) id xs (omega arith) in
    in_order_same kept xs (without_all (picked_ids env list) xs) all
