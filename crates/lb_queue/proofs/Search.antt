-- One element out of a list in which its number stands once. For callers too.
-- For `has_task`, `found_task`, `take_task` and others; cited by `lb_engine` and `lb_ready` too.
use Rattle.std.proofs.Common.{◌≡◌, ℕ, zero, suc, ◌+◌, ◌<◌, ◌≤◌, Bool, true, false, not, cond, ◌==◌, eqb, ltb, List, [], ◌∷◌, length, map, filter, find, position, remove, get_or, slice_get, is_some, Option, Some, None, refl, sym, ◌∙◌, ap, arith, subst, inl, inr, MatchOption}
use Rattle.std.specs.List.{position_or_len}
use Rattle.std.proofs.Math.ListN.{set}
use Rattle.std.proofs.lemmas.Bool.{eq-eqb, cond-true, cond-false, cases_Bool, cases_lt, lt-ltb, le-ltb, both_ways}
use Rattle.std.proofs.lemmas.List.Folds.{find_at}
use Rattle.lb_queue.specs.Tasks.{occurs}
use Rattle.lb_queue.proofs.Counts.{found, found_none}

-- the elements whose number is another
abbrev pub others : {X : Type 0} (f : X → ℕ) → ℕ → List X → List X
others f id xs = filter (λ x. not (f x == id)) xs

gone_step : {X : Type 0} (f : X → ℕ) (t : X) (id : ℕ) (ys : List X) (b : Bool) → eqb (f t) id ≡ b
    → cond (eqb (f t) id) 1 0 + occurs id (map f ys) ≤ 0 → cond (not b) (t ∷ ys) ys ≡ t ∷ ys
gone_step f t id ys true e h = absurd (let k : cond {A = ℕ} (eqb (f t) id) 1 0 ≡ 1 = cond-true {A = ℕ} (eqb (f t) id) 1
    0 e in omega arith)
gone_step f t id ys false e h = refl

pub others-none : {X : Type 0} (f : X → ℕ) (id : ℕ) (xs : List X) → occurs id (map f xs) ≤ 0 → others f id xs ≡ xs
others-none f id [] h = refl
others-none f id (t ∷ ts) h = rw (others-none f id ts (omega arith)) (gone_step f t id ts (f t == id) refl h)

at_step : {X : Type 0} (f : X → ℕ) (t : X) (id : ℕ) (ts : List X) (n : ℕ) (b : Bool) → eqb (f t) id ≡ b
    → cond (eqb (f t) id) 1 0 + occurs id (map f ts) ≤ 1
    → (occurs id (map f ts) ≤ 1 → n < length ts → remove ts n ≡ others f id ts) →
    cond (not b) (1 + n) 0 < suc (length ts) → remove (t ∷ ts) (cond (not b) (1 + n) 0) ≡ cond (not b)
    (t ∷ others f id ts) (others f id ts)
at_step f t id ts n true e h ih lt = let k : cond {A = ℕ} (eqb (f t) id) 1 0 ≡ 1 =
    cond-true {A = ℕ} (eqb (f t) id) 1 0 e in sym (others-none f id ts (omega arith))
at_step f t id ts n false e h ih lt = let k : 1 + n ≡ suc n = omega arith in
    ap (remove (t ∷ ts)) k ∙ ap (λ x. t ∷ x) (ih (omega arith) (omega arith))

removed_is : {X : Type 0} (f : X → ℕ) (id : ℕ) (xs : List X) → occurs id (map f xs) ≤ 1
    → position_or_len (λ t. f t == id) xs < length xs → remove xs (position_or_len (λ t. f t == id) xs) ≡ others f id xs
removed_is f id [] h lt = absurd (omega arith)
removed_is f id (t ∷ ts) h lt = at_step f t id ts (position_or_len (λ x. f x == id) ts) (f t == id) refl h (removed_is f id ts) lt

-- what a position says
pub position_parts : (n m : ℕ) (o : Option ℕ) → cond (ltb n m) (Some n) None ≡ o → MatchOption o (m ≤ n) (λ i. (n ≡ i) × (n < m))
position_parts n m o h = elim (cases_lt n m) [
  | inl lt ↦ subst (λ (x : Option ℕ). MatchOption x (m ≤ n) (λ i. (n ≡ i) × (n < m)))
      (sym (cond-true (ltb n m) (Some n) None (lt-ltb n m lt)) ∙ h) (refl, lt)
  | inr ge ↦ subst (λ (x : Option ℕ). MatchOption x (m ≤ n) (λ i. (n ≡ i) × (n < m)))
      (sym (cond-false (ltb n m) (Some n) None (le-ltb n m ge)) ∙ h) ge
]

pub get_is : {X : Type 0} (xs : List X) (i : ℕ) (d : X) → i < length xs → slice_get xs i ≡ Some (get_or xs i d)
get_is [] i d h = absurd (omega arith)
get_is (x ∷ xs) zero d h = refl
get_is (x ∷ xs) (suc i) d h = get_is xs i d (omega arith)

get_none : {X : Type 0} (xs : List X) (i : ℕ) → length xs ≤ i → slice_get xs i ≡ None
get_none [] i h = refl
get_none (x ∷ xs) zero h = absurd (omega arith)
get_none (x ∷ xs) (suc i) h = get_none xs i (omega arith)

-- the element at the first place that passes is the first that passes
pub find_of_position : {X : Type 0} (p : X → Bool) (xs : List X) (i : ℕ) (r : X) → position p xs ≡ Some i
    → r ≡ get_or xs i r → find p xs ≡ Some r
find_of_position p xs i r h e =
    let k = position_parts _ _ (Some i) h in
    let g = get_is xs i r (omega arith) in
    find_at p xs ∙ ap (slice_get xs) k.0 ∙ g ∙ ap Some (sym e)

pub find_of_no_position : {X : Type 0} (p : X → Bool) (xs : List X) → position p xs ≡ None → find p xs ≡ None
find_of_no_position p xs h = let k = position_parts _ _ None h in find_at p xs ∙ get_none xs _ k

pub rest_of_position : {X : Type 0} (f : X → ℕ) (id : ℕ) (xs : List X) (i : ℕ) → position (λ x. f x == id) xs ≡ Some i
    → occurs id (map f xs) ≤ 1 → remove xs i ≡ others f id xs
rest_of_position f id xs i h one = let p = position_parts _ _ (Some i) h in ap (remove xs) (sym p.0) ∙ removed_is f id xs one p.1

pub rest_of_none : {X : Type 0} (f : X → ℕ) (id : ℕ) (xs : List X) → find (λ x. f x == id) xs ≡ None → others f id xs ≡ xs
rest_of_none f id xs h = let k = found_none f id xs h in others-none f id xs (omega arith)

got : {X : Type 0} (xs : List X) (i : ℕ) → i < length xs → is_some (slice_get xs i) ≡ true
got [] i h = absurd (omega arith)
got (x ∷ xs) zero h = refl
got (x ∷ xs) (suc i) h = got xs i (omega arith)

pub some_position : {X : Type 0} (p : X → Bool) (xs : List X) → is_some (position p xs) ≡ is_some (find p xs)
some_position p xs = elim (cases_lt (position_or_len p xs) (length xs)) [
  | inl lt ↦ ap is_some (cond-true (ltb (position_or_len p xs) (length xs)) (Some (position_or_len p xs)) None
      (lt-ltb _ _ lt)) ∙ sym (ap is_some (find_at p xs) ∙ got xs (position_or_len p xs) lt)
  | inr ge ↦ ap is_some (cond-false (ltb (position_or_len p xs) (length xs)) (Some (position_or_len p xs)) None
      (le-ltb _ _ ge)) ∙ sym (ap is_some (find_at p xs ∙ get_none xs (position_or_len p xs) ge))
]

-- ---- the element of a number is changed
changed-none : {X : Type 0} (f : X → ℕ) (g : X → X) (id : ℕ) (xs : List X) → occurs id (map f xs) ≤ 0
    → map (λ x. cond (f x == id) (g x) x) xs ≡ xs
changed-none f g id [] h = refl
changed-none f g id (x ∷ xs) h = elim (cases_Bool (eqb (f x) id)) [
  | inl e ↦ absurd (let k : cond {A = ℕ} (eqb (f x) id) 1 0 ≡ 1 = cond-true {A = ℕ} (eqb (f x) id) 1 0 e in omega arith)
  | inr e ↦ rw (e, changed-none f g id xs (omega arith)) refl
]

changed_step : {X : Type 0} (f : X → ℕ) (g : X → X) (id : ℕ) (x d : X) (xs : List X) (n : ℕ) (b : Bool)
    → eqb (f x) id ≡ b → cond (eqb (f x) id) 1 0 + occurs id (map f xs) ≤ 1 →
    (occurs id (map f xs) ≤ 1 → n < length xs → set xs n (g (get_or xs n d)) ≡ map (λ y. cond (f y == id) (g y) y) xs) →
    cond (not b) (1 + n) 0 < suc (length xs)
    → set (x ∷ xs) (cond (not b) (1 + n) 0) (g (get_or (x ∷ xs) (cond (not b) (1 + n) 0) d)) ≡ cond b
    (g x) x ∷ map (λ y. cond (f y == id) (g y) y) xs
changed_step f g id x d xs n true e one later lt =
    let k : cond {A = ℕ} (eqb (f x) id) 1 0 ≡ 1 = cond-true {A = ℕ} (eqb (f x) id) 1 0 e in
    ap (λ ys. g x ∷ ys) (sym (changed-none f g id xs (omega arith)))
changed_step f g id x d xs n false e one later lt =
    let k : 1 + n ≡ suc n = omega arith in
    ap (λ (m : ℕ). set (x ∷ xs) m (g (get_or (x ∷ xs) m d))) k ∙ ap (λ ys. x ∷ ys) (later (omega arith) (omega arith))

changed_is : {X : Type 0} (f : X → ℕ) (g : X → X) (id : ℕ) (xs : List X) (d : X) → occurs id (map f xs) ≤ 1
    → position_or_len (λ x. f x == id) xs < length xs →
    set xs (position_or_len (λ x. f x == id) xs) (g (get_or xs (position_or_len (λ x. f x == id) xs) d)) ≡ map
    (λ x. cond (f x == id) (g x) x) xs
changed_is f g id [] d one lt = absurd (omega arith)
changed_is f g id (x ∷ xs) d one lt = changed_step f g id x d xs (position_or_len (λ y. f y == id) xs)
    (f x == id) refl one (changed_is f g id xs d) lt

pub changed_of_position : {X : Type 0} (f : X → ℕ) (g : X → X) (id : ℕ) (xs : List X) (i : ℕ) (v d : X)
    → position (λ x. f x == id) xs ≡ Some i → occurs id (map f xs) ≤ 1 → v ≡ g (get_or xs i d)
    → set xs i v ≡ map (λ x. cond (f x == id) (g x) x) xs
changed_of_position f g id xs i v d h one e =
    let p = position_parts _ _ (Some i) h in
    ap (set xs i) e ∙ ap (λ (n : ℕ). set xs n (g (get_or xs n d))) (sym p.0) ∙ changed_is f g id xs d one p.1

pub changed_of_none : {X : Type 0} (f : X → ℕ) (g : X → X) (id : ℕ) (xs : List X) → find (λ x. f x == id) xs ≡ None
    → xs ≡ map (λ x. cond (f x == id) (g x) x) xs
changed_of_none f g id xs h = let k = found_none f id xs h in sym (changed-none f g id xs (omega arith))

-- ---- the element at a place leaves
pub there_at : {X : Type 0} (f : X → ℕ) (xs : List X) (i : ℕ) (d : X) → i < length xs → 1 ≤ occurs (f (get_or xs i d)) (map f xs)
there_at f [] i d h = absurd (omega arith)
there_at f (x ∷ xs) zero d h = let k : cond {A = ℕ} (eqb (f x) (f x)) 1 0 ≡ 1 =
    cond-true {A = ℕ} (eqb (f x) (f x)) 1 0 (eq-eqb (f x) (f x) refl) in omega arith
there_at f (x ∷ xs) (suc i) d h = let k = there_at f xs i d (omega arith) in omega arith

pub removed_at : {X : Type 0} (f : X → ℕ) (xs : List X) (i : ℕ) (d : X) → i < length xs
    → occurs (f (get_or xs i d)) (map f xs) ≤ 1 → remove xs i ≡ others f (f (get_or xs i d)) xs
removed_at f [] i d h one = absurd (omega arith)
removed_at f (x ∷ xs) zero d h one =
    let e = eq-eqb (f x) (f x) refl in
    let k : cond {A = ℕ} (eqb (f x) (f x)) 1 0 ≡ 1 = cond-true {A = ℕ} (eqb (f x) (f x)) 1 0 e in
    rw e (sym (others-none f (f x) xs (omega arith)))
removed_at f (x ∷ xs) (suc i) d h one = elim (cases_Bool (eqb (f x) (f (get_or xs i d)))) [
  | inl e ↦ absurd (let k : cond {A = ℕ} (eqb (f x) (f (get_or xs i d))) 1 0 ≡ 1 = cond-true {A = ℕ}
      (eqb (f x) (f (get_or xs i d))) 1 0 e in let t = there_at f xs i d (omega arith) in omega arith)
  | inr e ↦ rw e (ap (λ ys. x ∷ ys) (removed_at f xs i d (omega arith) (omega arith)))
]

-- ---- what two searches find
pub passes_found : {X : Type 0} (p q : X → Bool) (xs : List X) (a : X) → find p xs ≡ Some a → q a ≡ true
    → (b : X) × (find q xs ≡ Some b)
passes_found p q [] a e h = absurd (let z : ⊥ = cc in z)
passes_found p q (x ∷ xs) a e h = elim (cases_Bool (q x)) [
  | inl now ↦ (x, cond-true (q x) (Some x) (find q xs) now)
  | inr not_now ↦ elim (cases_Bool (p x)) [
    | inl here ↦ (let z : x ≡ a = cc in let k : q x ≡ true = ap q z ∙ h in absurd (both_ways (q x) not_now k))
    | inr later ↦ (let b = passes_found p q xs a (sym (cond-false (p x) (Some x) (find p xs) later) ∙ e) h in
        (b.0, cond-false (q x) (Some x) (find q xs) not_now ∙ b.1))
  ]
]

-- two elements of the same number are one, where it stands once
pub same_found : {X : Type 0} (p q : X → Bool) (f : X → ℕ) (xs : List X) (a b : X) → find p xs ≡ Some a
    → find q xs ≡ Some b → f a ≡ f b → occurs (f a) (map f xs) ≤ 1 → a ≡ b
same_found {X = X} p q f [] a b e g s one = absurd (let z : ⊥ = cc in z)
same_found {X = X} p q f (x ∷ xs) a b e g s one = step (p x) (q x) e g (λ h k. same_found p q f xs a b h k s)
  where
    twice : (c : X) → f c ≡ f x → f c ≡ f a → 1 ≤ occurs (f c) (map f xs) → ⊥
    twice c h k there =
        let z : cond {A = ℕ} (f x == f a) 1 0 ≡ 1 = cond-true {A = ℕ} (eqb (f x) (f a)) 1 0 (eq-eqb (f x) (f a) (sym h ∙ k)) in
        let t : 1 ≤ occurs (f a) (map f xs) = subst (λ (n : ℕ). 1 ≤ occurs n (map f xs)) k there in
        omega arith

    step : (m n : Bool) → cond m (Some x) (find p xs) ≡ Some a → cond n (Some x) (find q xs) ≡ Some b
        → (find p xs ≡ Some a → find q xs ≡ Some b → occurs (f a) (map f xs) ≤ 1 → a ≡ b) → a ≡ b
    step true true h k later = cc
    step true false h k later = let z : x ≡ a = cc in absurd (twice b (sym s ∙ ap f (sym z)) (sym s) (found q f xs b k).there)
    step false true h k later = let z : x ≡ b = cc in absurd (twice a (s ∙ ap f (sym z)) refl (found p f xs a h).there)
    step false false h k later = later h k (omega arith)
