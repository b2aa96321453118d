-- The places below a number that pass a test: one place more, what holds of each of them, and how
-- many they are.
-- For the lemmas of `Complete`, `Examining` and other files, and so for the laws `picked_is_complete`,
-- `flags_tell_pinned` and others.
use Rattle.std.proofs.Common.{◌≡◌, ℕ, zero, suc, ◌+◌, ◌<◌, ◌≤◌, Bool, true, false, cond, List, [], ◌∷◌, ◌++◌, length, refl, sym, ◌∙◌, ap, subst, arith, add-one, inl, inr, length-append}
use Rattle.std.specs.Prelude.{All, Contains, filter}
use Rattle.std.specs.List.{range_with_len}
use Rattle.std.proofs.lemmas.Bool.{cases_eq}
use Rattle.std.proofs.lemmas.List.Elements.{filter_passes, filter-append, All-filter, All-from_get_or, Contains-append_left, Contains-push}
use Rattle.std.proofs.lemmas.List.FromFn.{length-range_with_len, get_or-range_with_len}
use Rattle.lb_base.proofs.Ranges.{range_more}

-- the places below n that pass
abbrev pub places : (ℕ → Bool) → ℕ → List ℕ
places p n = filter p (range_with_len 0 n)

pub range_suc : (n : ℕ) → range_with_len 0 (suc n) ≡ range_with_len 0 n ++ n ∷ []
range_suc n =
    let z : 0 + n ≡ n = omega arith in
    ap (range_with_len 0) (sym (add-one n)) ∙ range_more 0 n ∙ ap (λ (x : ℕ). range_with_len 0 n ++ x ∷ []) z

places_suc : (p : ℕ → Bool) (n : ℕ) → places p (suc n) ≡ places p n ++ cond (p n) (n ∷ []) []
places_suc p n = ap (filter p) (range_suc n) ∙ filter-append p (range_with_len 0 n) (n ∷ [])

pub places_more : (p : ℕ → Bool) (n : ℕ) → places p (n + 1) ≡ places p n ++ cond (p n) (n ∷ []) []
places_more p n = ap (places p) (add-one n) ∙ places_suc p n

-- ---- each of them
pub each_passes : (p : ℕ → Bool) (n : ℕ) → All (λ i. p i ≡ true) (places p n)
each_passes p n = filter_passes p (range_with_len 0 n)

pub each_below : (p : ℕ → Bool) (n : ℕ) → All (λ i. i < n) (places p n)
each_below p n =
    All-filter p (λ i. i < n) (range_with_len 0 n)
    (All-from_get_or (λ i. i < n) (range_with_len 0 n) 0
    (λ i lt. let inside : i < n = rw (length-range_with_len 0 n) at lt in rw (get_or-range_with_len 0 n i 0 inside)
    (omega arith)))

pub places_contain : (p : ℕ → Bool) (n i : ℕ) → i < n → p i ≡ true → Contains (places p n) i
places_contain p zero i lt h = absurd (omega arith)
places_contain p (suc n) i lt h =
    rw (places_suc p n) (elim (cases_eq i n) [
      | inl same ↦
          let P : ℕ → Type 0 = λ m. p m ≡ true in
          let last = subst P same h in
          let Q : ℕ → Type 0 = λ m. Contains (places p n ++ cond (p n) (n ∷ []) []) m in
          subst Q (sym same) (rw last (Contains-push (places p n) n))
      | inr apart ↦ Contains-append_left _ _ i (places_contain p n i (omega arith) h)
    ])

-- ---- how many
length-one : (b : Bool) (n : ℕ) → length (cond b (n ∷ []) []) ≡ cond b 1 0
length-one true n = refl
length-one false n = refl

pub length-places_suc : (p : ℕ → Bool) (n : ℕ) → length (places p (suc n)) ≡ length (places p n) + cond (p n) 1 0
length-places_suc p n = ap length (places_suc p n) ∙ length-append (places p n) (cond (p n) (n ∷ []) [])
    ∙ ap (λ (x : ℕ). length (places p n) + x) (length-one (p n) n)

pub at_most_one : (b : Bool) → cond b 1 0 ≤ 1
at_most_one true = omega arith
at_most_one false = omega arith

pub at_most_all : (p : ℕ → Bool) (n : ℕ) → length (places p n) ≤ n
at_most_all p zero = omega arith
at_most_all p (suc n) = omega (arith, length-places_suc p n, at_most_one (p n), at_most_all p n)

weaker_one : (a b : Bool) → (a ≡ true → b ≡ true) → cond a 1 0 ≤ cond b 1 0
weaker_one true b h = rw (h refl) (omega arith)
weaker_one false b h = omega arith

-- a weaker test passes at no fewer places
pub no_fewer : (p q : ℕ → Bool) (n : ℕ) → ((i : ℕ) → p i ≡ true → q i ≡ true) → length (places p n) ≤ length (places q n)
no_fewer p q zero h = omega arith
no_fewer p q (suc n) h = omega (
  arith,
  length-places_suc p n,
  length-places_suc q n,
  weaker_one (p n) (q n) (h n),
  no_fewer p q n h,
)

-- where one place fails, fewer pass than there are
pub fewer : (p : ℕ → Bool) (n i : ℕ) → i < n → p i ≡ false → length (places p n) < n
fewer p zero i lt h = absurd (omega arith)
fewer p (suc n) i lt h = elim (cases_eq i n) [
  | inl same ↦
      let P : ℕ → Type 0 = λ m. p m ≡ false in
      let last : p n ≡ false = subst P same h in
      omega (arith, rw last at (length-places_suc p n), at_most_all p n)
  | inr apart ↦ omega (arith, length-places_suc p n, at_most_one (p n), fewer p n i (omega arith) h)
]

one_fails_more : (p : ℕ → Bool) (n : ℕ) (b : Bool) → p n ≡ b
    → (length (places p n) < n → (i : ℕ) × (i < n) × (p i ≡ false)) → length (places p (suc n)) < suc n
    → (i : ℕ) × (i < suc n) × (p i ≡ false)
one_fails_more p n true e before lt = let found = before (omega (arith, rw e at (length-places_suc p n))) in
    (found.0, omega (arith, found.1), found.2)
one_fails_more p n false e before lt = (n, omega arith, e)

-- where fewer pass than there are, one place fails
pub one_fails : (p : ℕ → Bool) (n : ℕ) → length (places p n) < n → (i : ℕ) × (i < n) × (p i ≡ false)
one_fails p zero lt = absurd (omega arith)
one_fails p (suc n) lt = one_fails_more p n (p n) refl (one_fails p n) lt

last_fails : (b : Bool) (n : ℕ) → n + cond b 1 0 ≡ 0 → b ≡ false
last_fails true n h = absurd (omega arith)
last_fails false n h = refl

-- where none pass, each fails
pub each_fails : (p : ℕ → Bool) (n : ℕ) → length (places p n) ≡ 0 → (i : ℕ) → i < n → p i ≡ false
each_fails p zero none i lt = absurd (omega arith)
each_fails p (suc n) none i lt = elim (cases_eq i n) [
  | inl same ↦ let P : ℕ → Type 0 = λ m. p m ≡ false in
      subst P (sym same) (last_fails (p n) (length (places p n)) (sym (length-places_suc p n) ∙ none))
  | inr apart ↦ each_fails p n (omega (arith, length-places_suc p n)) i (omega arith)
]

-- and where each fails, none pass
pub none_pass : (p : ℕ → Bool) (n : ℕ) → ((i : ℕ) → i < n → p i ≡ false) → length (places p n) ≡ 0
none_pass p zero h = refl
none_pass p (suc n) h = let last = h n (omega arith) in
    rw (length-places_suc p n, last) (omega (arith, none_pass p n (λ i lt. h i (omega arith))))
