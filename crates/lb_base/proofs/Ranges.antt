-- The numbers of a range, for whoever loops, searches or tests over one: the range by one number
-- more, the first that passes a test, and whether all or some pass.
-- For the lemmas of `Greatest`, `Members` and `Sets`, and so for the laws `first_of_the_greatest` and
-- `mask_of_a_test`; cited by `lb_detach`, `lb_domain` and other crates too.
use Rattle.std.proofs.Common.{◌≡◌, ℕ, zero, suc, ◌+◌, ◌<◌, ◌≤◌, eqb, ltb, Bool, true, false, ◌&&◌, ◌||◌, List, [], ◌∷◌, ◌++◌, map, Some, None, refl, sym, ◌∙◌, ap, arith, inl, inr, add-one}
use Rattle.std.specs.Prelude.{find, filter}
use Rattle.std.specs.List.{range_with_len, list_all, list_any}
use Rattle.std.proofs.lemmas.Bool.{cases_order, cases_eq, cases_Bool, and_parts, lt-ltb, le-ltb, eq-eqb, ne_eqb}
use Rattle.std.proofs.lemmas.List.{append-nil, map_push}
use Rattle.std.proofs.lemmas.List.Elements.{filter-append}

-- ---- one number more

pub range_more : (a n : ℕ) → range_with_len a (n + 1) ≡ range_with_len a n ++ (a + n) ∷ []
range_more a zero = let e : a ≡ a + 0 = omega arith in ap (λ (x : ℕ). x ∷ []) e
range_more a (suc n) =
    let e : (a + 1) + n ≡ a + suc n = omega arith in
    let tail : range_with_len (a + 1) (suc n) ≡ range_with_len (a + 1) n ++ (a + suc n) ∷ [] =
    ap (range_with_len (a + 1)) (sym (add-one n)) ∙ range_more (a + 1) n ∙ ap (λ (x : ℕ). range_with_len (a + 1) n ++ x ∷ []) e in
    ap (range_with_len a) (add-one (suc n)) ∙ ap (λ (r : List ℕ). a ∷ r) tail

from_zero : (n : ℕ) → range_with_len 0 (n + 1) ≡ range_with_len 0 n ++ n ∷ []
from_zero n = range_more 0 n ∙ ap (λ (x : ℕ). range_with_len 0 n ++ x ∷ []) (let z : 0 + n ≡ n = omega arith in z)

pub filter_more : (p : ℕ → Bool) (n : ℕ) → p n ≡ true → filter p (range_with_len 0 (n + 1)) ≡ filter p
    (range_with_len 0 n) ++ n ∷ []
filter_more p n passes = ap (filter p) (from_zero n) ∙ filter-append p (range_with_len 0 n) (n ∷ []) ∙ rw passes refl

pub filter_same : (p : ℕ → Bool) (n : ℕ) → p n ≡ false → filter p (range_with_len 0 (n + 1)) ≡ filter p (range_with_len 0 n)
filter_same p n fails = ap (filter p) (from_zero n) ∙ filter-append p (range_with_len 0 n) (n ∷ [])
    ∙ rw fails (append-nil (filter p (range_with_len 0 n)))

pub map_range_more : {X : Type 0} (f : ℕ → X) (n : ℕ) → map f (range_with_len 0 (n + 1)) ≡ map f (range_with_len 0 n) ++ f n ∷ []
map_range_more f n = ap (map f) (from_zero n) ∙ map_push f (range_with_len 0 n) n

-- a test of the numbers below k, and one more number
pub one_joins : (s : ℕ → Bool) (k i : ℕ) → ((ltb i k && s i) || (eqb i k && s k)) ≡ (ltb i (k + 1) && s i)
one_joins s k i =
    elim (cases_order i k) [
      | inl same ↦ rw (le-ltb i k (omega (arith, same)), eq-eqb i k same, lt-ltb i (k + 1) (omega (arith, same)), ap s same) refl
      | inr other ↦ elim other [
        | inl below ↦ rw (
          lt-ltb i k below,
          ne_eqb i k (λ e. omega (arith, e, below)),
          lt-ltb i (k + 1)
              (omega (arith, below)),
        ) (or_false (s i))
        | inr above ↦ rw (
          le-ltb i k (omega (arith, above)),
          ne_eqb i k (λ e. omega (arith, e, above)),
          le-ltb i
              (k + 1) (omega (arith, above)),
        ) refl
      ]
    ]
  where
    or_false : (b : Bool) → (b || false) ≡ b
    or_false true = refl
    or_false false = refl

-- ---- the first that passes, and whether all pass

pub find_none : (p : ℕ → Bool) (a n : ℕ) → ((k : ℕ) → a ≤ k → k < a + n → p k ≡ false) → find p (range_with_len a n) ≡ None
find_none p a zero fails = refl
find_none p a (suc n) fails =
    rw (fails a (omega arith) (omega arith)) (find_none p (a + 1) n (λ k lo hi. fails k (omega (arith, lo)) (omega (arith, hi))))

pub find_least : (p : ℕ → Bool) (a n c : ℕ) → a ≤ c → c < a + n → p c ≡ true → ((k : ℕ) → a ≤ k → k < c → p k ≡ false)
    → find p (range_with_len a n) ≡ Some c
find_least p a zero c from within passes least = absurd (omega (arith, from, within))
find_least p a (suc n) c from within passes least =
    elim (cases_eq a c) [
      | inl same ↦ rw (ap p same ∙ passes) (ap Some same)
      | inr other ↦ rw (least a (omega arith) (omega (arith, from, other)))
          (find_least p (a + 1) n c (omega (arith, from, other)) (omega (arith, within)) passes
          (λ k lo hi. least k (omega (arith, lo)) hi))
    ]

pub all_at : (p : ℕ → Bool) (a n : ℕ) → list_all p (range_with_len a n) ≡ true → (k : ℕ) → a ≤ k → k < a + n → p k ≡ true
all_at p a zero all k lo hi = absurd (omega (arith, lo, hi))
all_at p a (suc n) all k lo hi =
    let parts = and_parts _ _ all in
    elim (cases_eq a k) [
      | inl same ↦ ap p (sym same) ∙ parts.0
      | inr other ↦ all_at p (a + 1) n parts.1 k (omega (arith, lo, other)) (omega (arith, hi))
    ]

pub all_of : (p : ℕ → Bool) (a n : ℕ) → ((k : ℕ) → a ≤ k → k < a + n → p k ≡ true) → list_all p (range_with_len a n) ≡ true
all_of p a zero each = refl
all_of p a (suc n) each =
    rw (each a (omega arith) (omega arith)) (all_of p (a + 1) n (λ k lo hi. each k (omega (arith, lo)) (omega (arith, hi))))

-- ---- the same from 0, turned as a loop that searches needs it

pub found : (p : ℕ → Bool) (n i : ℕ) → i < n → ((k : ℕ) → k < i → p k ≡ false) → p i ≡ true → Some i ≡ find p (range_with_len 0 n)
found p n i within before here = sym (find_least p 0 n i (omega arith) (omega (arith, within)) here (λ k lo hi. before k hi))

pub not_found : (p : ℕ → Bool) (n : ℕ) → ((k : ℕ) → k < n → p k ≡ false) → None ≡ find p (range_with_len 0 n)
not_found p n none = sym (find_none p 0 n (λ k lo hi. none k (omega (arith, hi))))

pub all_pass : (p : ℕ → Bool) (n : ℕ) → ((k : ℕ) → k < n → p k ≡ true) → true ≡ list_all p (range_with_len 0 n)
all_pass p n each = sym (all_of p 0 n (λ k lo hi. each k (omega (arith, hi))))

one_from : (p : ℕ → Bool) (a n i : ℕ) → a ≤ i → i < a + n → p i ≡ false → list_all p (range_with_len a n) ≡ false
one_from p a zero i lo hi fails = absurd (omega (arith, lo, hi))
one_from p a (suc n) i lo hi fails =
    elim (cases_eq a i) [
      | inl same ↦ rw (ap p same ∙ fails) refl
      | inr other ↦ rw (one_from p (a + 1) n i (omega (arith, lo, other)) (omega (arith, hi)) fails) (and_false (p a))
    ]
  where
    and_false : (b : Bool) → (b && false) ≡ false
    and_false true = refl
    and_false false = refl

pub one_fails : (p : ℕ → Bool) (n i : ℕ) → i < n → p i ≡ false → false ≡ list_all p (range_with_len 0 n)
one_fails p n i within fails = sym (one_from p 0 n i (omega arith) (omega (arith, within)) fails)

any_from : (p : ℕ → Bool) (a n i : ℕ) → a ≤ i → i < a + n → p i ≡ true → list_any p (range_with_len a n) ≡ true
any_from p a zero i lo hi passes = absurd (omega (arith, lo, hi))
any_from p a (suc n) i lo hi passes =
    elim (cases_eq a i) [
      | inl same ↦ rw (ap p same ∙ passes) refl
      | inr other ↦ rw (any_from p (a + 1) n i (omega (arith, lo, other)) (omega (arith, hi)) passes) (or_true (p a))
    ]
  where
    or_true : (b : Bool) → (b || true) ≡ true
    or_true true = refl
    or_true false = refl

pub one_passes : (p : ℕ → Bool) (n i : ℕ) → i < n → p i ≡ true → true ≡ list_any p (range_with_len 0 n)
one_passes p n i within passes = sym (any_from p 0 n i (omega arith) (omega (arith, within)) passes)

none_from : (p : ℕ → Bool) (a n : ℕ) → ((k : ℕ) → a ≤ k → k < a + n → p k ≡ false) → list_any p (range_with_len a n) ≡ false
none_from p a zero none = refl
none_from p a (suc n) none =
    rw (none a (omega arith) (omega arith)) (none_from p (a + 1) n (λ k lo hi. none k (omega (arith, lo)) (omega (arith, hi))))

pub none_passes : (p : ℕ → Bool) (n : ℕ) → ((k : ℕ) → k < n → p k ≡ false) → false ≡ list_any p (range_with_len 0 n)
none_passes p n none = sym (none_from p 0 n (λ k lo hi. none k (omega (arith, hi))))

pub found_at : (p : ℕ → Bool) (n i : ℕ) → find p (range_with_len 0 n) ≡ Some i → (i < n) × (p i ≡ true)
found_at p n i e = let at = found_from p 0 n i e in (omega (arith, at.0), at.1)
  where
    found_from : (p : ℕ → Bool) (a n i : ℕ) → find p (range_with_len a n) ≡ Some i → (i < a + n) × (p i ≡ true)
    found_from p a zero i e = absurd (cc)
    found_from p a (suc n) i e =
        elim (cases_Bool (p a)) [
          | inl passes ↦ let same : Some a ≡ Some i = sym (rw passes refl) ∙ e in let here : a ≡ i = cc in
              (omega (arith, here), ap p (sym here) ∙ passes)
          | inr fails ↦ let rest = found_from p (a + 1) n i (sym (rw fails refl) ∙ e) in (omega (arith, rest.0), rest.1)
        ]

pub nothing_found : (p : ℕ → Bool) (n : ℕ) → find p (range_with_len 0 n) ≡ None → (k : ℕ) → k < n → p k ≡ false
nothing_found p n e k within = none_from_find p 0 n e k (omega arith) (omega (arith, within))
  where
    none_from_find : (p : ℕ → Bool) (a n : ℕ) → find p (range_with_len a n) ≡ None → (k : ℕ) → a ≤ k → k < a + n → p k ≡ false
    none_from_find p a zero e k lo hi = absurd (omega (arith, lo, hi))
    none_from_find p a (suc n) e k lo hi =
        elim (cases_Bool (p a)) [
          | inl passes ↦ let same : Some a ≡ None = sym (rw passes refl) ∙ e in absurd (cc)
          | inr fails ↦ elim (cases_eq a k) [
            | inl same ↦ ap p (sym same) ∙ fails
            | inr other ↦ none_from_find p (a + 1) n (sym (rw fails refl) ∙ e) k (omega (arith, lo, other)) (omega (arith, hi))
          ]
        ]

-- a search in what passes a test
pub find-filter : (p q : ℕ → Bool) (xs : List ℕ) → find q (filter p xs) ≡ find (λ k. p k && q k) xs
find-filter p q [] = refl
find-filter p q (x ∷ xs) =
    elim (cases_Bool (p x)) [
      | inl passes ↦ rw (passes, find-filter p q xs) refl
      | inr fails ↦ rw fails (find-filter p q xs)
    ]
