-- Of the stop requests that are pending or owed, a loop over the awake tasks finds that of the least id.
-- For `next_stop` and `least_asked`.
use Rattle.std.proofs.Common.{◌≡◌, ℕ, ◌+◌, ◌<◌, ◌≤◌, min, leb, Bool, true, false, not, cond, ◌==◌, ◌&&◌, ◌||◌, List, [], ◌∷◌, ◌++◌, reverse, find, take, get_or, length, Option, Some, None, is_some, unwrap_or, refl, sym, ◌∙◌, ap, arith, subst, inl, inr, take_all}
use Rattle.std.specs.Prelude.{IfSome}
use Rattle.std.specs.List.{list_all, list_any}
use Rattle.std.proofs.lemmas.Bool.{cases_lt, eqb-true, eq-eqb, le-leb, leb-true, and_parts, and_from, both_ways}
use Rattle.std.proofs.lemmas.List.{take_more}
use Rattle.std.proofs.lemmas.List.Folds.{list_any-append}
use Rattle.lb_queue.specs.declared.awake.Awake.{Awake}
use Rattle.lb_queue.specs.Tasks.{occurs, awake_ids, awake_with, is_owed, is_pending}
use Rattle.lb_base.specs.Sets.{least}
use Rattle.lb_queue.specs.declared.answers.Stop.{Stop}
use Rattle.lb_queue.specs.declared.awake.StopRequest.{StopRequest}
use Rattle.lb_queue.specs.declared.awake.StopRequest.TheVariants.{Free, Pending, Owed}
use Rattle.lb_queue.specs.Hands.{stop_goes}
use Rattle.lb_queue.specs.Requests.{asks, is_next_asked, next_asked, stop_of}
use Rattle.lb_queue.specs.Lists.{IsLeastAsked, HasLeastAsked}
use Rattle.lb_queue.proofs.Counts.{found, occurs-reverse}
use Rattle.lb_queue.proofs.Every.{all_append, all_one, all_find, all_reverse, all_weaker}
use Rattle.lb_queue.proofs.Ids.{key}
use Rattle.lb_queue.proofs.Search.{same_found, passes_found}
use Rattle.lb_queue.proofs.Sound.{awake_named}
use Rattle.lb_queue.proofs.Turned.{any_reverse, found_any}

abbrev unasked_or_from : Bool → ℕ → Awake → Bool
unasked_or_from owed id a = not (asks owed a) || leb id a.task.id

-- ---- one task more
any_true_left : (a b : Bool) → a ≡ true → (a || b) ≡ true
any_true_left a b h = rw h refl

any_true_right : (a b : Bool) → b ≡ true → (a || b) ≡ true
any_true_right true b h = refl
any_true_right false b h = h

none_asked : (owed : Bool) (id : ℕ) (xs : List Awake) → list_any (asks owed) xs ≡ false
    → list_all (unasked_or_from owed id) xs ≡ true
none_asked owed id [] h = refl
none_asked owed id (x ∷ xs) h = step (asks owed x) (leb id x.task.id) (list_any (asks owed) xs) _ h (none_asked owed id xs)
  where
    step : (a l rest all : Bool) → (a || rest) ≡ false → (rest ≡ false → all ≡ true) → ((not a || l) && all) ≡ true
    step true l rest all h later = absurd (both_ways true h refl)
    step false l rest all h later = later h

lower : (owed : Bool) (id low : ℕ) (a : Awake) → low ≤ id → unasked_or_from owed id a ≡ true → unasked_or_from owed low a ≡ true
lower owed id low a le h = step (asks owed a) h
  where
    step : (b : Bool) → (not b || leb id a.task.id) ≡ true → (not b || leb low a.task.id) ≡ true
    step true h = let k = leb-true id a.task.id h in le-leb low a.task.id (omega arith)
    step false h = refl

asked_here : (owed : Bool) (a : Awake) → asks owed a ≡ true → list_any (λ x. asks owed x && x.task.id == a.task.id)
    (a ∷ []) ≡ true
asked_here owed a h = rw (h, eq-eqb a.task.id a.task.id refl) refl

from_here : (owed : Bool) (id : ℕ) (a : Awake) → id ≤ a.task.id → unasked_or_from owed id a ≡ true
from_here owed id a le = any_true_right (not (asks owed a)) _ (le-leb id a.task.id le)

least_push : (owed : Bool) (xs : List Awake) (o : Option ℕ) (a : Awake) (b : Bool) → asks owed a ≡ b → IsLeastAsked owed xs o →
    IsLeastAsked owed (xs ++ a ∷ []) (cond b (Some (min (unwrap_or o a.task.id) a.task.id)) o)
least_push owed xs None a false e h = list_any-append (asks owed) xs (a ∷ []) ∙ rw (h, e) refl
least_push owed xs (Some id) a false e h = record {
  there = list_any-append _ xs (a ∷ []) ∙ any_true_left _ _ h.there;
  least = all_append (unasked_or_from owed id) xs (a ∷ []) h.least (all_one (unasked_or_from owed id) a (rw e refl));
}
least_push owed xs None a true e h =
    let m : a.task.id ≡ min a.task.id a.task.id = omega arith in
    subst (λ (n : ℕ). HasLeastAsked owed (xs ++ a ∷ []) n) m (record {
      there = list_any-append _ xs (a ∷ []) ∙ any_true_right _ _ (asked_here owed a e);
      least = all_append (unasked_or_from owed a.task.id) xs (a ∷ []) (none_asked owed a.task.id xs h)
          (all_one (unasked_or_from owed a.task.id) a (from_here owed a.task.id a (omega arith)));
    })
least_push owed xs (Some id) a true e h = elim (cases_lt a.task.id id) [
  | inl less ↦
      let m : a.task.id ≡ min id a.task.id = omega arith in
      subst (λ (n : ℕ). HasLeastAsked owed (xs ++ a ∷ []) n) m (record {
        there = list_any-append _ xs (a ∷ []) ∙ any_true_right _ _ (asked_here owed a e);
        least = all_append (unasked_or_from owed a.task.id) xs (a ∷ [])
            (all_weaker (unasked_or_from owed id) (unasked_or_from owed a.task.id)
            (λ x. lower owed id a.task.id x (omega arith)) xs h.least)
            (all_one (unasked_or_from owed a.task.id) a (from_here owed a.task.id a (omega arith)));
      })
  | inr more ↦
      let m : id ≡ min id a.task.id = omega arith in
      subst (λ (n : ℕ). HasLeastAsked owed (xs ++ a ∷ []) n) m (record {
        there = list_any-append _ xs (a ∷ []) ∙ any_true_left _ _ h.there;
        least = all_append (unasked_or_from owed id) xs (a ∷ []) h.least
            (all_one (unasked_or_from owed id) a (from_here owed id a more));
      })
]

pub least_more : (owed : Bool) (xs : List Awake) (i : ℕ) (o o' : Option ℕ) (a : Awake) → i < length xs
    → a ≡ get_or xs i a → o' ≡ cond (asks owed a) (Some (min (unwrap_or o a.task.id) a.task.id)) o
    → IsLeastAsked owed (take i xs) o →
    IsLeastAsked owed (take (i + 1) xs) o'
least_more owed xs i o o' a lt e r h =
    let t : take i xs ++ a ∷ [] ≡ take (i + 1) xs = ap (λ (x : Awake). take i xs ++ x ∷ []) e ∙ sym (take_more xs i a lt) in
    subst (λ (p : Option ℕ). IsLeastAsked owed (take (i + 1) xs) p) (sym r)
    (subst (λ (ys : List Awake). IsLeastAsked owed ys
    (cond (asks owed a) (Some (min (unwrap_or o a.task.id) a.task.id)) o)) t
    (least_push owed (take i xs) o a (asks owed a) refl h))

pub least_all : (owed : Bool) (xs : List Awake) (i : ℕ) (o : Option ℕ) → length xs ≤ i
    → IsLeastAsked owed (take i xs) o → IsLeastAsked owed xs o
least_all owed xs i o far h = subst (λ (ys : List Awake). IsLeastAsked owed ys o) (take_all i xs far) h

-- ---- it is the definition's
least_turned : (owed : Bool) (xs : List Awake) (id : ℕ) → HasLeastAsked owed xs id → HasLeastAsked owed (reverse xs) id
least_turned owed xs id h = record {
  there = any_reverse _ xs ∙ h.there;
  least = all_reverse (unasked_or_from owed id)
      xs h.least;
}

-- a test that passes somewhere finds something
some_found : {X : Type 0} (o : Option X) → is_some o ≡ true → (x : X) × (o ≡ Some x)
some_found None h = absurd (let z : ⊥ = cc in z)
some_found (Some x) h = (x, refl)

if_asked : (b l : Bool) → b ≡ true → (not b || l) ≡ true → l ≡ true
if_asked true l e h = h
if_asked false l e h = absurd (both_ways false refl e)

abbrev named : Bool → ℕ → Awake → Bool
named owed id x = asks owed x && x.task.id == id

next_here : (owed : Bool) (ys : List Awake) (id : ℕ) (a : Awake) → HasLeastAsked owed ys id → asks owed a ≡ true
    → a.task.id ≡ id → is_next_asked owed ys a ≡ true
next_here owed ys id a h asked n = and_from (asks owed a) (list_all (unasked_or_from owed a.task.id) ys) asked (rw n h.least)

same_id : (owed : Bool) (ys : List Awake) (id : ℕ) (a b : Awake) → HasLeastAsked owed ys id
    → find (named owed id) ys ≡ Some a → find (is_next_asked owed ys) ys ≡ Some b → b.task.id ≡ id
same_id owed ys id a b h e g =
    let a_is = and_parts (asks owed a) (a.task.id == id) (found (named owed id) key ys a e).passes in
    let n : a.task.id ≡ id = eqb-true a.task.id id a_is.1 in
    let b_is = and_parts (asks owed b) (list_all (unasked_or_from owed b.task.id) ys)
    (found (is_next_asked owed ys) key ys b g).passes in
    let up : leb id b.task.id ≡ true = if_asked _ _ b_is.0
    (all_find (unasked_or_from owed id) (is_next_asked owed ys) ys b h.least g) in
    let down : leb b.task.id a.task.id ≡ true =
    if_asked _ _ a_is.0 (all_find (unasked_or_from owed b.task.id) (named owed id) ys a b_is.1 e) in
    let u = leb-true id b.task.id up in
    let d = leb-true b.task.id a.task.id down in
    omega arith

least_is_next : (owed : Bool) (ys : List Awake) (id : ℕ) → ((u : ℕ) → occurs u (awake_ids ys) ≤ 1)
    → HasLeastAsked owed ys id → awake_with id ys ≡ next_asked owed ys
unfolding next_asked
least_is_next owed ys id one h = by_first (some_found (find (named owed id) ys) (found_any (named owed id) ys ∙ h.there))
  where
    both : (a b c : Awake) → find (named owed id) ys ≡ Some a → find (is_next_asked owed ys) ys ≡ Some b
        → awake_with id ys ≡ Some c → awake_with id ys ≡ find (is_next_asked owed ys) ys
    both a b c e g k =
        let n = same_id owed ys id a b h e g in
        let m : c.task.id ≡ id = awake_named id ys c k in
        let same : c ≡ b = same_found (λ (x : Awake). x.task.id == id) (is_next_asked owed ys) key ys c b k g
        (m ∙ sym n) (one c.task.id) in
        k ∙ ap Some same ∙ sym g

    by_first : ((a : Awake) × (find (named owed id) ys ≡ Some a)) → awake_with id ys ≡ find (is_next_asked owed ys) ys
    by_first (a, e) =
        let a_is = and_parts (asks owed a) (a.task.id == id) (found (named owed id) key ys a e).passes in
        let b = passes_found (named owed id) (is_next_asked owed ys) ys a e
        (next_here owed ys id a h a_is.0 (eqb-true a.task.id id a_is.1)) in
        let c = passes_found (named owed id) (λ (x : Awake). x.task.id == id) ys a e a_is.1 in
        both a b.0 c.0 e b.1 c.1

pub none_next : (owed : Bool) (ys all : List Awake) → list_any (asks owed) ys ≡ false → find (is_next_asked owed all) ys ≡ None
none_next owed [] all h = refl
none_next owed (y ∷ ys) all h = step (asks owed y) (list_all (unasked_or_from owed y.task.id) all)
    (list_any (asks owed) ys) h (none_next owed ys all)
  where
    step : {o : Option Awake} (a l rest : Bool) → (a || rest) ≡ false → (rest ≡ false → o ≡ None)
        → cond (a && l) (Some y) o ≡ None
    step true l rest h later = absurd (both_ways true h refl)
    step false l rest h later = later h

pub next_is : (owed : Bool) (xs : List Awake) (id : ℕ) → ((u : ℕ) → occurs u (awake_ids xs) ≤ 1)
    → HasLeastAsked owed xs id → awake_with id (reverse xs) ≡ next_asked owed (reverse xs)
next_is owed xs id one h = least_is_next owed (reverse xs) id
    (λ u. let k = one u in let r = occurs-reverse key u xs in omega arith) (least_turned owed xs id h)

pub next_none : (owed : Bool) (xs : List Awake) → list_any (asks owed) xs ≡ false → next_asked owed (reverse xs) ≡ None
unfolding next_asked
next_none owed xs h = none_next owed (reverse xs) (reverse xs) (any_reverse (asks owed) xs ∙ h)

-- ---- where it goes
owed_pending : (s : StopRequest) → is_owed s ≡ true → is_pending s ≡ true
owed_pending Free h = absurd (let z : ⊥ = cc in z)
owed_pending Pending h = refl
owed_pending Owed h = refl

pub asked_pending : (owed : Bool) (a : Awake) → asks owed a ≡ true → is_pending a.stop ≡ true
asked_pending true a h = owed_pending a.stop h
asked_pending false a h = h

pending_goes : (b : Bool) (o : Option ℕ) (to : ℕ) → b ≡ true → o ≡ Some to → cond b o None ≡ Some to
pending_goes true o to h e = e
pending_goes false o to h e = absurd (both_ways false refl h)

-- the request of the least id goes where the task's mask says
goes_there : (owed : Bool) (xs : List Awake) (id : ℕ) (s : Stop) → ((u : ℕ) → occurs u (awake_ids xs) ≤ 1)
    → HasLeastAsked owed xs id → stop_of (awake_with id (reverse xs)) ≡ Some s
    → IfSome (awake_with id (reverse xs)) (λ a. least a.task.mask ≡ Some s.to)
    → stop_goes (awake_with s.id (reverse xs)) ≡ Some s.to
unfolding next_asked
goes_there owed xs id s one h st to = by (awake_with id (reverse xs)) refl st to
  where
    by : (o : Option Awake) → awake_with id (reverse xs) ≡ o → stop_of o ≡ Some s
        → IfSome o (λ a. least a.task.mask ≡ Some s.to) → stop_goes (awake_with s.id (reverse xs)) ≡ Some s.to
    by None e st to = absurd (let z : ⊥ = cc in z)
    by (Some a) e st to =
        let n : a.task.id ≡ id = awake_named id (reverse xs) a e in
        let m : a.task.id ≡ s.id = cc in
        let here : awake_with s.id (reverse xs) ≡ Some a = subst (λ (i : ℕ). awake_with i (reverse xs) ≡ Some a) (sym n ∙ m) e in
        let next : find (is_next_asked owed (reverse xs)) (reverse xs) ≡ Some a = sym (next_is owed xs id one h) ∙ e in
        let asked = (and_parts (asks owed a) _ (found (is_next_asked owed (reverse xs)) key (reverse xs) a next).passes).0 in
        rw here (pending_goes (is_pending a.stop) (least a.task.mask) s.to (asked_pending owed a asked) to)

pub all_go : (owed : Bool) (xs : List Awake) (id : ℕ) (o : Option Stop) → ((u : ℕ) → occurs u (awake_ids xs) ≤ 1)
    → HasLeastAsked owed xs id → o ≡ stop_of (awake_with id (reverse xs))
    → IfSome o (λ s. IfSome (awake_with id (reverse xs)) (λ a. least a.task.mask ≡ Some s.to))
    → IfSome o (λ s. stop_goes (awake_with s.id (reverse xs)) ≡ Some s.to)
all_go owed xs id None one h e to = tt
all_go owed xs id (Some s) one h e to = goes_there owed xs id s one h (sym e) to
