-- Tasks that wait leave one after the other, by their ids.
-- For `load_all` and `load_one`.
use Rattle.std.proofs.Common.{◌≡◌, ℕ, zero, suc, ◌+◌, ◌<◌, ◌≤◌, Bool, true, false, not, cond, ◌&&◌, ◌==◌, eqb, List, [], ◌∷◌, ◌++◌, length, map, filter, filter_map, get_or, take, Option, Some, None, refl, sym, ◌∙◌, ap, arith, subst, append_assoc, append-nil, take_all}
use Rattle.std.specs.Prelude.{IsSomeAnd, option_to_list}
use Rattle.std.specs.List.{cons_option}
use Rattle.std.proofs.lemmas.Bool.{cond-true, eq-eqb, eqb-true}
use Rattle.std.proofs.lemmas.Bool.Decides.{nat_tests}
use Rattle.std.proofs.lemmas.List.{take_more, map-append, length-append, length-map}
use Rattle.std.proofs.lemmas.List.Elements.{filter_map-append}
use Rattle.lb_base.specs.Mask.{has}
use Rattle.lb_queue.specs.declared.record.TaskRecord.{TaskRecord}
use Rattle.lb_queue.specs.declared.awake.Awake.{Awake}
use Rattle.lb_queue.specs.Tasks.{occurs, awake_with, without_awake, set_down, left_by}
use Rattle.lb_queue.specs.Lists.{Lists, down_of, left_of}
use Rattle.lb_queue.specs.Hands.{HandState, in_order}
use Rattle.lb_queue.specs.Pulls.{CanGo, without_all}
use Rattle.lb_queue.proofs.Counts.{occurs-append}
use Rattle.lb_queue.proofs.Ids.{key}
use Rattle.lb_queue.proofs.Leaving.{down_mask}
use Rattle.lb_queue.proofs.Sound.{awake_named}

-- ---- one of them
waits_by : (to clock id : ℕ) (o : Option Awake) (xs : List Awake) → awake_with id xs ≡ o → IsSomeAnd o (CanGo to)
    → left_of clock o xs ≡ without_awake id xs
unfolding left_by
waits_by to clock id None xs e h = absurd h
waits_by to clock id (Some a) xs e h = rw (h.waits, awake_named id xs a e) refl

-- a waiting task leaves the others as they are
pub waits_out : (to clock id : ℕ) (xs : List Awake) → IsSomeAnd (awake_with id xs) (CanGo to)
    → left_of clock (awake_with id xs) xs ≡ without_awake id xs
waits_out to clock id xs h = waits_by to clock id (awake_with id xs) xs refl h

goes_by : (to clock : ℕ) (o : Option Awake) (t : TaskRecord) → IsSomeAnd o (CanGo to) → Some t ≡ down_of clock o
    → has t.mask to ≡ true
goes_by to clock None t h e = absurd h
goes_by to clock (Some a) t h e = let z : t ≡ set_down clock a = cc in rw (z, down_mask clock a a.running refl) h.may_run

pub goes_there : (to clock id : ℕ) (xs : List Awake) (t : TaskRecord) → IsSomeAnd (awake_with id xs) (CanGo to)
    → Some t ≡ down_of clock (awake_with id xs) → has t.mask to ≡ true
goes_there to clock id xs t h e = goes_by to clock (awake_with id xs) t h e

stays_by : (to clock : ℕ) (o : Option Awake) → IsSomeAnd o (CanGo to) → None ≡ down_of clock o → ⊥
stays_by to clock None h e = h
stays_by to clock (Some a) h e = let z : ⊥ = cc in z

-- ---- the tasks that are not among some
pub filter_all : {X : Type 0} (xs : List X) → filter (λ (x : X). true) xs ≡ xs
filter_all [] = refl
filter_all (x ∷ xs) = ap (λ ys. x ∷ ys) (filter_all xs)

filter_twice : {X : Type 0} (p q r : X → Bool) → ((x : X) → (p x && q x) ≡ r x) → (xs : List X)
    → filter q (filter p xs) ≡ filter r xs
filter_twice p q r h [] = refl
filter_twice {X = X} p q r h (x ∷ xs) = step (p x) (q x) (r x) (h x) refl (filter_twice p q r h xs)
  where
    step : (a b c : Bool) → (a && b) ≡ c → q x ≡ b → filter q (filter p xs) ≡ filter r xs
        → filter q (cond a (x ∷ filter p xs) (filter p xs)) ≡ cond c (x ∷ filter r xs) (filter r xs)
    step true true c e k h = rw (k, ← e) (ap (λ ys. x ∷ ys) h)
    step true false c e k h = rw (k, ← e) h
    step false b c e k h = rw (← e) h

one_more : (o x id : ℕ) → (eqb o 0 && not (eqb x id)) ≡ eqb (o + (cond (eqb id x) 1 0 + 0)) 0
one_more o x id = grind (arith, nat_tests)

pub without_more : (ids : List ℕ) (id : ℕ) (xs : List Awake) → without_awake id (without_all ids xs) ≡ without_all
    (ids ++ id ∷ []) xs
without_more ids id xs =
    filter_twice (λ (a : Awake). occurs a.task.id ids == 0) (λ (a : Awake). not (a.task.id == id))
    (λ (a : Awake). occurs a.task.id (ids ++ id ∷ []) == 0)
    (λ (a : Awake). one_more (occurs a.task.id ids) a.task.id id ∙ ap (λ (n : ℕ). eqb n 0)
    (sym (occurs-append a.task.id ids (id ∷ [])))) xs

pub found_without : (ids : List ℕ) (id : ℕ) (xs : List Awake) → occurs id ids ≡ 0
    → awake_with id (without_all ids xs) ≡ awake_with id xs
found_without ids id [] none = refl
found_without ids id (x ∷ xs) none = step (eqb (key x) id) (eqb (occurs (key x) ids) 0) refl refl (found_without ids id xs none)
  where
    step : (b c : Bool) → eqb (key x) id ≡ b → eqb (occurs (key x) ids) 0 ≡ c
        → awake_with id (without_all ids xs) ≡ awake_with id xs
        → awake_with id (cond c (x ∷ without_all ids xs) (without_all ids xs)) ≡ cond b (Some x) (awake_with id xs)
    step true true e f h = rw e refl
    step true false e f h = absurd (let n = eqb-true (key x) id e in
        let z : eqb (occurs (key x) ids) 0 ≡ true =
        eq-eqb (occurs (key x) ids) 0 (ap (λ (u : ℕ). occurs u ids) n ∙ none) in let y : ⊥ = cc in y)
    step false true e f h = rw e h
    step false false e f h = h

-- ---- the tasks in the hand
to_list : (clock : ℕ) (o : Option Awake) → map (set_down clock) (option_to_list o) ≡ option_to_list (down_of clock o)
to_list clock None = refl
to_list clock (Some a) = refl

one_in_order : (id : ℕ) (xs : List Awake) (o : Option Awake) → awake_with id xs ≡ o
    → filter_map (λ i. awake_with i xs) (id ∷ []) ≡ option_to_list o
one_in_order id xs None e = rw e refl
one_in_order id xs (Some a) e = rw e refl

order_more : (clock : ℕ) (ids : List ℕ) (id : ℕ) (xs : List Awake)
    → map (set_down clock) (in_order (ids ++ id ∷ []) xs) ≡ map (set_down clock) (in_order ids xs) ++ option_to_list
    (down_of clock (awake_with id xs))
unfolding in_order
order_more clock ids id xs =
    ap (map (set_down clock)) (filter_map-append (λ i. awake_with i xs) ids (id ∷ [])
    ∙ ap (λ (ys : List Awake). filter_map (λ i. awake_with i xs) ids ++ ys) (one_in_order id xs (awake_with id xs) refl))
    ∙ map-append (set_down clock) (filter_map (λ i. awake_with i xs) ids) (option_to_list (awake_with id xs))
    ∙ ap (λ (ts : List TaskRecord). map (set_down clock) (filter_map (λ i. awake_with i xs) ids) ++ ts)
    (to_list clock (awake_with id xs))

pub order_few : (ids : List ℕ) (xs : List Awake) → length (in_order ids xs) ≤ length ids
unfolding in_order
order_few [] xs = omega arith
order_few (id ∷ ids) xs = step (awake_with id xs) (order_few ids xs)
  where
    step : (o : Option Awake) → length (filter_map (λ i. awake_with i xs) ids) ≤ length ids
        → length (cons_option o (filter_map (λ i. awake_with i xs) ids)) ≤ suc (length ids)
    step None h = omega arith
    step (Some a) h = omega arith

-- ---- so many have left
-- the hand after the tasks of some ids
abbrev pub hand_after : ℕ → ℕ → List ℕ → List Awake → HandState → HandState
hand_after cpu clock ids awake h = record h {
  source = Some cpu;
  moment = clock;
  tasks = h.tasks ++ map (set_down clock) (in_order ids awake);
}

pub record IsTaking (cpu clock : ℕ) (ids : List ℕ) (before : Lists) (held : HandState) (now : Lists)
    (hand : HandState) : Type 0 where
  pub awake : now.awake ≡ without_all ids before.awake
  pub lists : now ≡ record before { awake = now.awake }
  pub hand_is : hand ≡ hand_after cpu clock ids before.awake held

pub taking_none : (cpu clock : ℕ) (before : Lists) (held hand : HandState)
    → hand ≡ record held { source = Some cpu; moment = clock } → IsTaking cpu clock [] before held before hand
unfolding in_order
taking_none cpu clock before held hand e =
    record { awake = sym (filter_all before.awake); lists = refl; hand_is = e ∙ rw (append-nil held.tasks) refl }

pub first_of : (ids : List ℕ) (id : ℕ) → occurs id (ids ++ id ∷ []) ≤ 1 → occurs id ids ≡ 0
first_of ids id one =
    let a = occurs-append id ids (id ∷ []) in
    let z : cond {A = ℕ} (eqb id id) 1 0 ≡ 1 = cond-true {A = ℕ} (eqb id id) 1 0 (eq-eqb id id refl) in
    omega arith

found_still : (cpu clock : ℕ) (ids : List ℕ) (id : ℕ) (before : Lists) (held : HandState) (now : Lists)
    (hand : HandState) → IsTaking cpu clock ids before held now hand → occurs id (ids ++ id ∷ []) ≤ 1
    → awake_with id now.awake ≡ awake_with id before.awake
found_still cpu clock ids id before held now hand h one =
    ap (awake_with id) h.awake ∙ found_without ids id before.awake (first_of ids id one)

-- what is asked of the next one
pub taking_next : (cpu clock : ℕ) (ids : List ℕ) (id : ℕ) (before : Lists) (held : HandState) (now : Lists)
    (hand : HandState) → IsTaking cpu clock ids before held now hand → occurs id (ids ++ id ∷ []) ≤ 1
    → IsSomeAnd (awake_with id before.awake) (CanGo held.to) →
    IsSomeAnd (awake_with id now.awake) (CanGo hand.to)
taking_next cpu clock ids id before held now hand h one go =
    subst (λ (to : ℕ). IsSomeAnd (awake_with id now.awake) (CanGo to)) (sym (ap (λ (x : HandState). x.to) h.hand_is))
    (subst (λ (o : Option Awake). IsSomeAnd o (CanGo held.to)) (sym (found_still cpu clock ids id before held now hand h one)) go)

pub taking_room : (cpu clock : ℕ) (ids : List ℕ) (before : Lists) (held : HandState) (now : Lists) (hand : HandState)
    → IsTaking cpu clock ids before held now hand → length held.tasks + length ids < held.room → length hand.tasks < hand.room
taking_room cpu clock ids before held now hand h room =
    let r = ap (λ (x : HandState). x.room) h.hand_is in
    let t = ap (λ (x : HandState). length x.tasks) h.hand_is in
    let a = length-append held.tasks (map (set_down clock) (in_order ids before.awake)) in
    let m = length-map (in_order ids before.awake) (set_down clock) in
    let f = order_few ids before.awake in
    omega arith

pub taking_more : (cpu clock : ℕ) (ids : List ℕ) (id : ℕ) (before : Lists) (held : HandState) (now new : Lists)
    (hand next : HandState) → IsTaking cpu clock ids before held now hand → occurs id (ids ++ id ∷ []) ≤ 1 →
    new ≡ record now { awake = without_awake id now.awake }
    → next ≡ record hand {
      source = Some cpu;
      moment = clock;
      tasks = hand.tasks ++ option_to_list (down_of clock (awake_with id now.awake));
    }
    → IsTaking cpu clock (ids ++ id ∷ []) before held new next
taking_more cpu clock ids id before held now new hand next h one l e =
    let left : new.awake ≡ without_awake id now.awake = ap (λ (m : Lists). m.awake) l in
    let went = option_to_list (down_of clock (awake_with id before.awake)) in
    let same : option_to_list (down_of clock (awake_with id now.awake)) ≡ went =
    ap (λ (o : Option Awake). option_to_list (down_of clock o)) (found_still cpu clock ids id before held now hand h one) in
    record {
      awake = left ∙ ap (without_awake id) h.awake ∙ without_more ids id before.awake;
      lists = l ∙ ap (λ (m : Lists). let k : Lists = record m { awake = without_awake id now.awake } in k) h.lists
          ∙ ap (λ (xs : List Awake). let k : Lists = record before { awake = xs } in k) (sym left);
      hand_is =
          e ∙ ap (λ (ts : List TaskRecord). let k : HandState =
          record hand { source = Some cpu; moment = clock; tasks = hand.tasks ++ ts } in k) same
          ∙ ap (λ (x : HandState). let k : HandState =
          record x { source = Some cpu; moment = clock; tasks = x.tasks ++ went } in k) h.hand_is
          ∙ ap (λ (ts : List TaskRecord). let k : HandState = record held { source = Some cpu; moment = clock; tasks = ts } in k)
          (append_assoc held.tasks (map (set_down clock) (in_order ids before.awake)) went
          ∙ ap (λ (ts : List TaskRecord). held.tasks ++ ts) (sym (order_more clock ids id before.awake)));
    }

pub taking_all : (cpu clock : ℕ) (ids : List ℕ) (i : ℕ) (before : Lists) (held : HandState) (now : Lists)
    (hand : HandState) → length ids ≤ i → IsTaking cpu clock (take i ids) before held now hand
    → IsTaking cpu clock ids before held now hand
taking_all cpu clock ids i before held now hand far h =
    subst (λ (is : List ℕ). IsTaking cpu clock is before held now hand) (take_all i ids far) h

-- ---- in the order of the ids
pub occurs_take : (u n : ℕ) (xs : List ℕ) → occurs u (take n xs) ≤ occurs u xs
occurs_take u zero xs = omega arith
occurs_take u (suc n) [] = omega arith
occurs_take u (suc n) (x ∷ xs) = let h = occurs_take u n xs in omega arith

-- the next id did not come before
pub once_next : (ids : List ℕ) (i : ℕ) → ((u : ℕ) → occurs u ids ≤ 1) → i < length ids
    → occurs (get_or ids i 0) (take i ids ++ get_or ids i 0 ∷ []) ≤ 1
once_next ids i one lt =
    let o = one (get_or ids i 0) in
    let t = occurs_take (get_or ids i 0) (i + 1) ids in
    let e = ap (occurs (get_or ids i 0)) (take_more ids i 0 lt) in
    omega arith
