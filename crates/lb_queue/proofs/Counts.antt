-- How often a number stands in a list, through the functions on lists, and what a search finds: a
-- library for the proofs of `lb_core` and of other crates that count the ids of tasks.
-- For the lemmas of `Allowed`, `Counting` and other files, and so for the laws `next_stops`, `pulls_follow_picks` and
-- others; cited by `lb_core`, `lb_due` and `lb_ready` too.
use Rattle.std.proofs.Common.{◌≡◌, ℕ, ◌+◌, ◌≤◌, Bool, true, false, not, cond, ◌==◌, if◌then◌else◌, eqb, List, [], ◌∷◌, ◌++◌, map, reverse, filter, find, Some, None, refl, sym, ◌∙◌, ap, arith, zero-add, subst}
use Rattle.std.proofs.lemmas.Bool.{eq-eqb, cond-true, cond_both}
use Rattle.std.proofs.lemmas.Bool.Decides.{nat_tests}
use Rattle.std.proofs.lemmas.List.{reverse-append}
use Rattle.lb_queue.specs.Tasks.{occurs}

pub one_of : ℕ → ℕ → ℕ
one_of x t = if x == t then 1 else 0

pub occurs-append : (t : ℕ) (xs ys : List ℕ) → occurs t (xs ++ ys) ≡ occurs t xs + occurs t ys
occurs-append t [] ys = sym (zero-add (occurs t ys))
occurs-append t (x ∷ xs) ys = let h = occurs-append t xs ys in omega arith

map-append' : {X : Type 0} (f : X → ℕ) (xs ys : List X) → map f (xs ++ ys) ≡ map f xs ++ map f ys
map-append' f [] ys = refl
map-append' f (x ∷ xs) ys = ap (λ (zs : List ℕ). f x ∷ zs) (map-append' f xs ys)

pub occurs-map_append : {X : Type 0} (f : X → ℕ) (t : ℕ) (xs ys : List X)
    → occurs t (map f (xs ++ ys)) ≡ occurs t (map f xs) + occurs t (map f ys)
occurs-map_append f t xs ys = ap (occurs t) (map-append' f xs ys) ∙ occurs-append t (map f xs) (map f ys)

pub occurs-reverse : {X : Type 0} (f : X → ℕ) (t : ℕ) (xs : List X) → occurs t (map f (reverse xs)) ≡ occurs t (map f xs)
occurs-reverse f t [] = refl
occurs-reverse f t (x ∷ xs) =
    let e : reverse (x ∷ xs) ≡ reverse xs ++ x ∷ [] = reverse-append (x ∷ []) xs in
    let a = ap (λ zs. occurs t (map f zs)) e in
    let b = occurs-map_append f t (reverse xs) (x ∷ []) in
    let c = occurs-reverse f t xs in
    omega arith

-- ---- without a key
num_true : (fx id t r r' : ℕ) → eqb fx id ≡ true → r' ≡ cond (eqb t id) 0 r → r' ≡ cond (eqb t id) 0 (cond (eqb fx t) 1 0 + r)
num_true fx id t r r' h e = grind (arith, nat_tests)

num_false : (fx id t r r' : ℕ) → eqb fx id ≡ false → r' ≡ cond (eqb t id) 0 r
    → cond (eqb fx t) 1 0 + r' ≡ cond (eqb t id) 0 (cond (eqb fx t) 1 0 + r)
num_false fx id t r r' h e = grind (arith, nat_tests)

without_step : {X : Type 0} (f : X → ℕ) (id t : ℕ) (x : X) (rest rest' : List X) (b : Bool) → eqb (f x) id ≡ b →
    occurs t (map f rest') ≡ cond (eqb t id) 0 (occurs t (map f rest)) →
    occurs t (map f (cond (not b) (x ∷ rest') rest')) ≡ cond (eqb t id) 0 (cond (eqb (f x) t) 1 0 + occurs t (map f rest))
without_step f id t x rest rest' true h e = num_true (f x) id t _ _ h e
without_step f id t x rest rest' false h e = num_false (f x) id t _ _ h e

pub occurs-without : {X : Type 0} (f : X → ℕ) (id : ℕ) (t : ℕ) (xs : List X)
    → occurs t (map f (filter (λ x. not (f x == id)) xs)) ≡ cond (t == id) 0 (occurs t (map f xs))
occurs-without f id t [] = cond_both (t == id) 0 0 (λ v. 0 ≡ v) (λ _. refl) (λ _. refl)
occurs-without f id t (x ∷ xs) = without_step f id t x xs (filter (λ y. not (f y == id)) xs) (f x == id) refl
    (occurs-without f id t xs)

-- ---- what a search finds
pub record IsFound {X : Type 0} (p : X → Bool) (f : X → ℕ) (xs : List X) (a : X) : Type 0 where
  pub passes : p a ≡ true
  pub there : 1 ≤ occurs (f a) (map f xs)

found_later : {X : Type 0} (p : X → Bool) (f : X → ℕ) (x : X) (xs : List X) (a : X) → IsFound p f xs a → IsFound p f (x ∷ xs) a
found_later p f x xs a h = record { passes = h.passes; there = let k = h.there in omega arith }

found_here : {X : Type 0} (p : X → Bool) (f : X → ℕ) (x : X) (xs : List X) → p x ≡ true → IsFound p f (x ∷ xs) x
found_here p f x xs h = record {
  passes = h;
  there = let k : cond {A = ℕ} (eqb (f x) (f x)) 1 0 ≡ 1 =
      cond-true {A = ℕ} (eqb (f x) (f x)) 1 0 (eq-eqb (f x) (f x) refl) in omega arith;
}

found_step : {X : Type 0} (p : X → Bool) (f : X → ℕ) (x : X) (xs : List X) (a : X) (b : Bool) → p x ≡ b
    → (find p xs ≡ Some a → IsFound p f xs a) → cond b (Some x) (find p xs) ≡ Some a → IsFound p f (x ∷ xs) a
found_step p f x xs a true h later e = let k : x ≡ a = cc in subst (λ y. IsFound p f (x ∷ xs) y) k (found_here p f x xs h)
found_step p f x xs a false h later e = found_later p f x xs a (later e)

pub found : {X : Type 0} (p : X → Bool) (f : X → ℕ) (xs : List X) (a : X) → find p xs ≡ Some a → IsFound p f xs a
found p f [] a e = absurd (let k : ⊥ = cc in k)
found p f (x ∷ xs) a e = found_step p f x xs a (p x) refl (found p f xs a) e

none_step : {X : Type 0} (f : X → ℕ) (id : ℕ) (x : X) (xs : List X) (b : Bool) → eqb (f x) id ≡ b
    → (find (λ y. f y == id) xs ≡ None → occurs id (map f xs) ≡ 0) → cond b (Some x) (find (λ y. f y == id) xs) ≡ None
    → cond (eqb (f x) id) 1 0 + occurs id (map f xs) ≡ 0
none_step f id x xs true h later e = absurd (let k : ⊥ = cc in k)
none_step f id x xs false h later e = let k = later e in rw h (omega arith)

pub found_none : {X : Type 0} (f : X → ℕ) (id : ℕ) (xs : List X) → find (λ y. f y == id) xs ≡ None → occurs id (map f xs) ≡ 0
found_none f id [] e = refl
found_none f id (x ∷ xs) e = none_step f id x xs (f x == id) refl (found_none f id xs) e

-- ---- a map that keeps the key
pub occurs-map : {X : Type 0} (f : X → ℕ) (g : X → X) (same : (x : X) → f (g x) ≡ f x) (t : ℕ) (xs : List X)
    → occurs t (map f (map g xs)) ≡ occurs t (map f xs)
occurs-map f g same t [] = refl
occurs-map f g same t (x ∷ xs) = let h = occurs-map f g same t xs in rw (same x, h) refl
