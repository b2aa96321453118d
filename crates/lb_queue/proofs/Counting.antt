-- Sums over a list out of which one element is taken, and how long a list of distinct numbers can be. For
-- callers too.
-- For `TaskLists::sums`; cited by `lb_ready` and `lb_state` too.
use Rattle.std.proofs.Common.{◌≡◌, ℕ, zero, suc, ◌+◌, ◌≤◌, Bool, true, false, not, cond, ◌==◌, eqb, List, [], ◌∷◌, length, map, reverse, find, Some, refl, sym, ◌∙◌, ap, arith, inl, inr}
use Rattle.std.specs.Prelude.{sum_by}
use Rattle.std.proofs.lemmas.Bool.{cases_Bool, cond-true, cond-false}
use Rattle.std.proofs.lemmas.List.{reverse-append}
use Rattle.std.proofs.lemmas.List.Sums.{sum_by-append, sum_by-cons}
use Rattle.lb_queue.specs.Tasks.{occurs}
use Rattle.lb_queue.proofs.Counts.{occurs-without}
use Rattle.lb_queue.proofs.Search.{others, others-none}

taken_step : {X : Type 0} (w f : X → ℕ) (id : ℕ) (x a : X) (xs : List X) (b : Bool) → eqb (f x) id ≡ b
    → cond (eqb (f x) id) 1 0 + occurs id (map f xs) ≤ 1 →
    (occurs id (map f xs) ≤ 1 → find (λ y. f y == id) xs ≡ Some a → sum_by w (others f id xs) + w a ≡ sum_by w xs) →
    cond b (Some x) (find (λ y. f y == id) xs) ≡ Some a
    → sum_by w (cond (not b) (x ∷ others f id xs) (others f id xs)) + w a ≡ w x + sum_by w xs
taken_step w f id x a xs true e one later h =
    let k : cond {A = ℕ} (eqb (f x) id) 1 0 ≡ 1 = cond-true {A = ℕ} (eqb (f x) id) 1 0 e in
    let z : x ≡ a = cc in
    let r : sum_by w (others f id xs) ≡ sum_by w xs = ap (sum_by w) (others-none f id xs (omega arith)) in
    let q : w x ≡ w a = ap w z in
    omega arith
taken_step w f id x a xs false e one later h = let k = later (omega arith) h in let c = sum_by-cons w x (others f id xs)
    in omega arith

pub sum_others : {X : Type 0} (w f : X → ℕ) (id : ℕ) (xs : List X) (a : X) → occurs id (map f xs) ≤ 1
    → find (λ x. f x == id) xs ≡ Some a → sum_by w (others f id xs) + w a ≡ sum_by w xs
sum_others w f id [] a one h = absurd (let z : ⊥ = cc in z)
sum_others w f id (x ∷ xs) a one h = taken_step w f id x a xs (f x == id) refl one (sum_others w f id xs a) h ∙ sym
    (sum_by-cons w x xs)

pub sum_reverse : {X : Type 0} (w : X → ℕ) (xs : List X) → sum_by w (reverse xs) ≡ sum_by w xs
sum_reverse w [] = refl
sum_reverse w (x ∷ xs) =
    let e = ap (sum_by w) (reverse-append (x ∷ []) xs) in
    let s = sum_by-append w (reverse xs) (x ∷ []) in
    let c = sum_by-cons w x [] in
    let d = sum_by-cons w x xs in
    let h = sum_reverse w xs in
    omega arith

-- ---- numbers below a bound
length_others : (n : ℕ) (xs : List ℕ) → length (others (λ x. x) n xs) + occurs n (map (λ x. x) xs) ≡ length xs
length_others n [] = refl
length_others n (x ∷ xs) = elim (cases_Bool (eqb x n)) [
  | inl e ↦ (let h = length_others n xs in rw e (omega arith))
  | inr e ↦ (let h = length_others n xs in rw e (omega arith))
]

map_same : (xs : List ℕ) → map (λ x. x) xs ≡ xs
map_same [] = refl
map_same (x ∷ xs) = ap (λ ys. x ∷ ys) (map_same xs)

no_numbers : (xs : List ℕ) → ((u : ℕ) → occurs u xs ≡ 0) → length xs ≤ 0
no_numbers [] h = omega arith
no_numbers (x ∷ xs) h = absurd (let k = h x in let z : cond {A = ℕ} (eqb x x) 1 0 ≡ 1 = self x in omega arith)
  where
    self : (x : ℕ) → cond {A = ℕ} (eqb x x) 1 0 ≡ 1
    self x = grind arith

apart : (u n : ℕ) → eqb u n ≡ false → n ≤ u → suc n ≤ u
apart u n e lo = grind arith

-- numbers that stand once and below a bound are no more than the bound
pub length_below : (n : ℕ) (xs : List ℕ) → ((u : ℕ) → occurs u xs ≤ 1) → ((u : ℕ) → n ≤ u → occurs u xs ≡ 0) → length xs ≤ n
length_below zero xs one high = no_numbers xs (λ u. high u (omega arith))
length_below (suc n) xs one high =
    let rest = others (λ x. x) n xs in
    let without : (u : ℕ) → occurs u rest ≡ cond (u == n) 0 (occurs u xs) =
    λ u. ap (occurs u) (sym (map_same rest)) ∙ occurs-without (λ x. x) n u xs
    ∙ ap (λ ys. cond {A = ℕ} (u == n) 0 (occurs u ys)) (map_same xs) in
    let l = length_others n xs in
    let s = ap (occurs n) (map_same xs) in
    let k = one n in
    let ih = length_below n rest (λ u. at_most (u == n) (occurs u xs) _ (without u) (one u))
    (λ u h. at_high u n (occurs u xs) _ (without u) (high u) h) in
    omega arith
  where
    at_most : (b : Bool) (o r : ℕ) → r ≡ cond b 0 o → o ≤ 1 → r ≤ 1
    at_most true o r e h = omega arith
    at_most false o r e h = omega arith

    at_high : (u n o r : ℕ) → r ≡ cond (u == n) 0 o → (suc n ≤ u → o ≡ 0) → n ≤ u → r ≡ 0
    at_high u n o r e h lo = elim (cases_Bool (eqb u n)) [
      | inl same ↦ e ∙ cond-true {A = ℕ} (eqb u n) 0 o same
      | inr other ↦ e ∙ cond-false {A = ℕ} (eqb u n) 0 o other ∙ h (apart u n other lo)
    ]
