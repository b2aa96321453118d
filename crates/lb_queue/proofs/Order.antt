-- Awake tasks in an order that is given by ids, and two parts of a list that stand the other way
-- round.
-- For `set_order` and `TaskLists::set_order`.
use Rattle.std.proofs.Common.{◌≡◌, ℕ, zero, suc, ◌+◌, ◌-◌, ◌<◌, ◌≤◌, ltb, Bool, true, not, cond, ◌==◌, eqb, List, [], ◌∷◌, ◌++◌, length, reverse, filter_map, get_or, take, drop, position, slice_get, Option, Some, None, unwrap_or, refl, sym, ◌∙◌, ap, arith, subst, inl, inr}
use Rattle.std.specs.Prelude.{All, option_and_then}
use Rattle.std.specs.List.{position_or_len, cons_option}
use Rattle.std.proofs.lemmas.Bool.{cases_Bool, cond-true, cond-false, eq-eqb, lt-ltb}
use Rattle.std.proofs.lemmas.List.{append-nil, reverse-append, reverse-reverse, length-reverse, length-append, length-map, map-append, get_or-reverse, take_at, drop_at, take-append-drop}
use Rattle.std.proofs.lemmas.List.Elements.{All-head, All-tail, All-append, All-take, All-drop}
use Rattle.std.proofs.lemmas.List.Sums.{sum_by-append}
use Rattle.lb_queue.specs.declared.record.TaskRecord.{TaskRecord}
use Rattle.lb_queue.specs.declared.awake.Awake.{Awake}
use Rattle.lb_queue.specs.Tasks.{occurs, awake_ids, awake_with}
use Rattle.lb_queue.specs.Queue.{nobody}
use Rattle.lb_queue.specs.Kept.{AreSound, running_count, is_asked_rightly}
use Rattle.lb_queue.specs.Hands.{in_order}
use Rattle.lb_queue.specs.Pulls.{IsTurned}
use Rattle.lb_queue.proofs.Counts.{occurs-append, occurs-reverse}
use Rattle.lb_queue.proofs.Every.{all_append, all_parts}
use Rattle.lb_queue.proofs.Ids.{key}
use Rattle.lb_queue.proofs.Search.{there_at}
use Rattle.lb_queue.proofs.Sound.{runs}
use Rattle.lb_queue.proofs.Turned.{map_reverse}

-- ---- tasks of a list, by their ids
-- the task at a place is the one of its id
pub found_there : (xs : List Awake) (k : ℕ) (d : Awake) → ((u : ℕ) → occurs u (awake_ids xs) ≤ 1) → k < length xs
    → awake_with (key (get_or xs k d)) xs ≡ Some (get_or xs k d)
found_there [] k d one lt = absurd (omega arith)
found_there (x ∷ xs) zero d one lt = cond-true (eqb (key x) (key x)) (Some x) (awake_with (key x) xs)
    (eq-eqb (key x) (key x) refl)
found_there (x ∷ xs) (suc k) d one lt = elim (cases_Bool (eqb (key x) (key (get_or xs k d)))) [
  | inl e ↦ absurd (let z : cond {A = ℕ} (eqb (key x) (key (get_or xs k d))) 1 0 ≡ 1 = cond-true {A = ℕ}
      (eqb (key x) (key (get_or xs k d))) 1 0 e in let t = there_at key xs k d (omega arith) in let o =
      one (key (get_or xs k d)) in omega arith)
  | inr e ↦ cond-false (eqb (key x) (key (get_or xs k d))) (Some x) (awake_with (key (get_or xs k d)) xs) e
      ∙ found_there xs k d (λ u. let o = one u in omega arith) (omega arith)
]

-- each of some tasks is the one of its id in a list
abbrev pub AreOf : List Awake → List Awake → Type 0
AreOf xs ys = All (λ (y : Awake). awake_with (key y) xs ≡ Some y) ys

pub in_order_of : (xs ys : List Awake) → AreOf xs ys → in_order (awake_ids ys) xs ≡ ys
unfolding in_order
in_order_of xs [] h = refl
in_order_of xs (y ∷ ys) h =
    ap (λ (o : Option Awake). cons_option o (filter_map (λ id. awake_with id xs) (awake_ids ys)))
    (All-head (λ (z : Awake). awake_with (key z) xs ≡ Some z) y ys h)
    ∙ ap (λ (zs : List Awake). y ∷ zs) (in_order_of xs ys (All-tail (λ (z : Awake). awake_with (key z) xs ≡ Some z) y ys h))

-- ---- two parts the other way round
parts_of : (xs : List Awake) (n : ℕ) → ((u : ℕ) → occurs u (awake_ids xs) ≤ 1) → AreOf xs (drop n xs ++ take n xs)
parts_of xs n one =
    let P = λ (y : Awake). awake_with (key y) xs ≡ Some y in
    let all : AreOf xs xs = λ k d lt. found_there xs k d one lt in
    All-append P (drop n xs) (take n xs) (All-drop P n xs all) (All-take P n xs all)

ids_taken : (n : ℕ) (xs : List Awake) → awake_ids (take n xs) ≡ take n (awake_ids xs)
ids_taken zero xs = refl
ids_taken (suc n) [] = refl
ids_taken (suc n) (x ∷ xs) = ap (λ (is : List ℕ). key x ∷ is) (ids_taken n xs)

ids_dropped : (n : ℕ) (xs : List Awake) → awake_ids (drop n xs) ≡ drop n (awake_ids xs)
ids_dropped zero xs = refl
ids_dropped (suc n) [] = refl
ids_dropped (suc n) (x ∷ xs) = ids_dropped n xs

ids_of_parts : (xs : List Awake) (n : ℕ) → awake_ids (drop n xs ++ take n xs) ≡ drop n (awake_ids xs) ++ take n (awake_ids xs)
ids_of_parts xs n = map-append key (drop n xs) (take n xs) ∙ rw (ids_dropped n xs, ids_taken n xs) refl

pub in_order_turned : (xs : List Awake) (order : List ℕ) → ((u : ℕ) → occurs u (awake_ids xs) ≤ 1)
    → (t : IsTurned (awake_ids xs) order) → in_order order xs ≡ drop (length t.front) xs ++ take (length t.front) xs
in_order_turned xs order one t =
    let n = length t.front in
    let ids : awake_ids (drop n xs ++ take n xs) ≡ order =
    ids_of_parts xs n ∙ ap (λ (is : List ℕ). drop n is ++ take n is) t.ids_are
    ∙ rw (drop_at t.front t.back n refl, take_at t.front t.back n refl) (sym t.order_is) in
    ap (λ (is : List ℕ). in_order is xs) (sym ids) ∙ in_order_of xs (drop n xs ++ take n xs) (parts_of xs n one)

-- ---- what is kept
nobody_either : (xs ys : List Awake) → nobody (xs ++ ys) ≡ nobody (ys ++ xs)
nobody_either [] [] = refl
nobody_either [] (y ∷ ys) = refl
nobody_either (x ∷ xs) [] = refl
nobody_either (x ∷ xs) (y ∷ ys) = refl

sound_swapped : (cpu : ℕ) (xs ys : List Awake) (asleep gone : List TaskRecord) → AreSound cpu (xs ++ ys) asleep gone
    → AreSound cpu (ys ++ xs) asleep gone
sound_swapped cpu xs ys asleep gone h =
    let same : (u : ℕ) → occurs u (awake_ids (ys ++ xs)) ≡ occurs u (awake_ids (xs ++ ys)) = λ u.
    let a = ap (occurs u) (map-append key xs ys) ∙ occurs-append u (awake_ids xs) (awake_ids ys) in
    let b = ap (occurs u) (map-append key ys xs) ∙ occurs-append u (awake_ids ys) (awake_ids xs) in
    omega arith in
    let c = sum_by-append runs xs ys in
    let d = sum_by-append runs ys xs in
    let n : running_count (ys ++ xs) ≡ running_count (xs ++ ys) = omega arith in
    let k = all_parts (is_asked_rightly cpu) xs ys h.asked in
    record {
      once = λ u. let o = h.once u in let e = same u in omega arith;
      numbered = λ u lo. let o = h.numbered u lo in let e = same u in omega arith;
      one_runs = n ∙ h.one_runs ∙ ap (λ (b : Bool). cond {A = ℕ} b 0 1) (nobody_either xs ys);
      asked = all_append (is_asked_rightly cpu) ys xs k.1 k.0;
    }

pub sound_turned : (cpu n : ℕ) (xs : List Awake) (asleep gone : List TaskRecord) → AreSound cpu xs asleep gone
    → AreSound cpu (drop n xs ++ take n xs) asleep gone
sound_turned cpu n xs asleep gone h = sound_swapped cpu (take n xs) (drop n xs) asleep gone
    (subst (λ (ys : List Awake). AreSound cpu ys asleep gone) (sym (take-append-drop n xs)) h)

pub length_turned : (n : ℕ) (xs : List Awake) → length (drop n xs ++ take n xs) ≡ length xs
length_turned n xs =
    let a = length-append (drop n xs) (take n xs) in
    let b = length-append (take n xs) (drop n xs) in
    let c = ap length (take-append-drop n xs) in
    omega arith

-- ---- the list is kept from the back to the front
last_get : {X : Type 0} (xs : List X) (x : X) → slice_get (xs ++ x ∷ []) (length (xs ++ x ∷ []) - 1) ≡ Some x
last_get {X = X} xs x = let l = length-append xs (x ∷ []) in let e : length (xs ++ x ∷ []) - 1 ≡ length xs =
    omega arith in ap (slice_get (xs ++ x ∷ [])) e ∙ at_end xs
  where
    at_end : (ys : List X) → slice_get (ys ++ x ∷ []) (length ys) ≡ Some x
    at_end [] = refl
    at_end (y ∷ ys) = at_end ys

last_turned : {X : Type 0} (xs : List X) → slice_get (reverse xs) (length (reverse xs) - 1) ≡ slice_get xs 0
last_turned [] = refl
last_turned {X = X} (x ∷ xs) = ap (λ (ys : List X). slice_get ys (length ys - 1)) (reverse-append (x ∷ []) xs) ∙
    last_get (reverse xs) x

place_among : (items : List Awake) (id : ℕ) → position (λ a. a.task.id == id) items ≡ position (λ u. u == id) (awake_ids items)
place_among items id = rw (by items, length-map items key) refl
  where
    by : (xs : List Awake) → position_or_len (λ a. a.task.id == id) xs ≡ position_or_len (λ u. u == id) (awake_ids xs)
    by [] = refl
    by (x ∷ xs) = ap (λ (n : ℕ). cond {A = ℕ} (not (key x == id)) (1 + n) 0) (by xs)

place_behind : (b : ℕ) (A bs : List ℕ) → occurs b A ≡ 0 → position_or_len (λ u. u == b) (A ++ b ∷ bs) ≡ length A
place_behind b [] bs none = cond-false {A = ℕ} (not (b == b)) (1 + position_or_len (λ u. u == b) bs) 0 (ap not (eq-eqb b b refl))
place_behind b (a ∷ A) bs none = elim (cases_Bool (eqb a b)) [
  | inl e ↦ absurd (let z : cond {A = ℕ} (eqb a b) 1 0 ≡ 1 = cond-true {A = ℕ} (eqb a b) 1 0 e in omega arith)
  | inr e ↦ (let h = place_behind b A bs (omega arith) in
      cond-true {A = ℕ} (not (a == b)) (1 + position_or_len (λ u. u == b) (A ++ b ∷ bs)) 0 (ap not e)
      ∙ (let r : 1 + position_or_len (λ u. u == b) (A ++ b ∷ bs) ≡ suc (length A) = omega arith in r))
]

-- where the first of the wanted ids is
abbrev first_place : List ℕ → List ℕ → ℕ
first_place ids wanted = unwrap_or (option_and_then (λ id. position (λ u. u == id) ids) (slice_get wanted 0)) 0

turned_at : (A B : List ℕ) → ((u : ℕ) → occurs u (A ++ B) ≤ 1) → (k : ℕ) → k ≡ first_place (A ++ B) (B ++ A)
    → drop k (A ++ B) ++ take k (A ++ B) ≡ B ++ A
turned_at [] [] one k e = rw e refl
turned_at (a ∷ A) [] one k e =
    let p : position_or_len (λ u. u == a) (a ∷ (A ++ [])) ≡ 0 = place_behind a [] (A ++ []) refl in
    let inside : ltb 0 (length (a ∷ (A ++ []))) ≡ true = lt-ltb 0 (length (a ∷ (A ++ []))) (omega arith) in
    let z : k ≡ 0 = e ∙ rw (p, inside) refl in
    rw z (append-nil (a ∷ (A ++ [])) ∙ append-nil (a ∷ A))
turned_at A (b ∷ B) one k e =
    let n : occurs b A ≡ 0 = (let o = one b in let s = occurs-append b A (b ∷ B) in
    let z : cond {A = ℕ} (eqb b b) 1 0 ≡ 1 = cond-true {A = ℕ} (eqb b b) 1 0 (eq-eqb b b refl) in omega arith) in
    let p = place_behind b A B n in
    let l = length-append A (b ∷ B) in
    let inside : ltb (length A) (length (A ++ b ∷ B)) ≡ true = lt-ltb (length A) (length (A ++ b ∷ B)) (omega arith) in
    let z : k ≡ length A = e ∙ rw (p, inside) refl in
    rw (z, drop_at A (b ∷ B) (length A) refl, take_at A (b ∷ B) (length A) refl) refl

place_found : (items : List Awake) (o : Option ℕ)
    → unwrap_or (option_and_then (λ id. position (λ a. a.task.id == id) items) o) 0 ≡ unwrap_or
    (option_and_then (λ id. position (λ u. u == id) (awake_ids items)) o) 0
place_found items None = refl
place_found items (Some id) = ap (λ (p : Option ℕ). unwrap_or p 0) (place_among items id)

pub all_turned : {X : Type 0} (P : X → Type 0) (xs : List X) → All P xs → All P (reverse xs)
all_turned P xs h = λ k d lt.
    let l = length-reverse xs in
    let below : k < length xs = omega arith in
    subst P (sym (get_or-reverse xs k d below)) (h (length xs - 1 - k) d (omega arith))

pub order_set : (items new : List Awake) (order : List ℕ) (k : ℕ) → ((u : ℕ) → occurs u (awake_ids items) ≤ 1)
    → IsTurned (awake_ids (reverse items)) order →
    k ≡ unwrap_or (option_and_then (λ id. position (λ a. a.task.id == id) items) (slice_get order (length order - 1)))
    0 → new ≡ drop k items ++ take k items → reverse new ≡ in_order order (reverse items)
order_set items new order k one t e r =
    let A = reverse t.back in
    let B = reverse t.front in
    let ids : awake_ids items ≡ A ++ B =
    sym (reverse-reverse (awake_ids items)) ∙ ap reverse (sym (map_reverse key items) ∙ t.ids_are) ∙ reverse-append
    t.front t.back in
    let wanted : reverse (B ++ A) ≡ order = reverse-append B A ∙ rw (reverse-reverse t.back, reverse-reverse t.front)
    (sym t.order_is) in
    let place : k ≡ first_place (A ++ B) (B ++ A) =
    e ∙ place_found items (slice_get order (length order - 1))
    ∙ ap (λ (ws : List ℕ). unwrap_or (option_and_then (λ id. position (λ u. u == id) (awake_ids items))
    (slice_get ws (length ws - 1))) 0) (sym wanted)
    ∙ ap (λ (o : Option ℕ). unwrap_or (option_and_then (λ id. position (λ u. u == id) (awake_ids items)) o) 0)
    (last_turned (B ++ A))
    ∙ ap (λ (is : List ℕ). first_place is (B ++ A)) ids in
    let made : awake_ids new ≡ B ++ A =
    ap awake_ids r ∙ ids_of_parts items k ∙ ap (λ (is : List ℕ). drop k is ++ take k is) ids
    ∙ turned_at A B (λ u. subst (λ (is : List ℕ). occurs u is ≤ 1) ids (one u)) k place in
    let all : awake_ids (reverse new) ≡ order = map_reverse key new ∙ ap reverse made ∙ wanted in
    let xs = reverse items in
    let P = λ (y : Awake). awake_with (key y) xs ≡ Some y in
    let self : AreOf xs xs = λ j d lt. found_there xs j d
    (λ u. let o = one u in let s = occurs-reverse key u items in omega arith) lt in
    let old : AreOf xs items = subst (λ (ys : List Awake). AreOf xs ys) (reverse-reverse items) (all_turned P xs self) in
    let both : AreOf xs (drop k items ++ take k items) =
    All-append P (drop k items) (take k items) (All-drop P k items old) (All-take P k items old) in
    sym (in_order_of xs (reverse new) (all_turned P new (subst (λ (ys : List Awake). AreOf xs ys) (sym r) both)))
    ∙ ap (λ (is : List ℕ). in_order is xs) all
