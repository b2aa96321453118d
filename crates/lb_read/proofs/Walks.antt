-- Going over lines from the first place stops at the first bad one.
-- For the lemmas of `Refusals`, and so for the laws `texts_read_once` and `histories_read_back`.
use Rattle.std.proofs.Common.{◌≡◌, ℕ, zero, suc, ◌+◌, ◌<◌, Bool, true, false, ◌&&◌, List, [], ◌∷◌, ◌==◌, cond, length, take, drop, Option, Some, None, refl, ap, ◌∙◌, inl, inr, arith}
use Rattle.std.specs.Prelude.{fold, is_none, not, unwrap_or}
use Rattle.std.proofs.lemmas.Bool.{cases_Bool, cases_order, both_ways}
use Rattle.std.proofs.lemmas.Option.{same_Some}
use Rattle.lb_read.specs.FirstBad.{Place, place_next, may_end, is_bad_next, place_after, place_at, is_bad_at, IsFirstBadLine}
use Rattle.lb_read.specs.FirstBad.Place.{AtStart}

-- the number of the first bad line, from a place on; the first of the lines has this number
abbrev pub walk_on : ℕ → Option Place → (Place → Option ℕ) → Option ℕ
walk_on n None rest = Some n
walk_on n (Some place) rest = rest place

unfoldable pub walk : Place → ℕ → List (List ℕ) → Option ℕ
walk place n [] = None
walk place n (last ∷ []) = cond (may_end place && length last == 0) None (Some n)
walk place n (line ∷ next ∷ more) = walk_on n (place_next place line) (λ q. walk q (n + 1) (next ∷ more))

-- line k after a place is bad
abbrev bad_from : Place → List (List ℕ) → ℕ → Bool
bad_from place lines k = is_bad_next (fold place_after place (take k lines)) (drop k lines)

record IsBadFrom (place : Place) (lines : List (List ℕ)) (n m : ℕ) : Type 0 where
  k : ℕ
  number : m ≡ n + k
  within : k < length lines
  here : bad_from place lines k ≡ true
  before : (j : ℕ) → j < k → bad_from place lines j ≡ false

bad_here : (place : Place) (lines : List (List ℕ)) (n m : ℕ) → 0 < length lines → bad_from place lines 0 ≡ true → n ≡ m
    → IsBadFrom place lines n m
bad_here place lines n m some bad at =
    record { k = 0; number = omega (arith, at); within = some; here = bad; before = λ j lt. absurd (omega (arith, lt)) }

-- a line later, where the first one is good
later : (place after : Place) (line next : List ℕ) (more : List (List ℕ)) (k : ℕ) → place_next place line ≡ Some after
    → bad_from place (line ∷ next ∷ more) (suc k) ≡ bad_from after (next ∷ more) k
later place after line next more k e = ap (λ o. bad_from (unwrap_or o place) (next ∷ more) k) e

on_last : (place : Place) (n m : ℕ) (last : List ℕ) → cond (may_end place && length last == 0) None (Some n) ≡ Some m
    → IsBadFrom place (last ∷ []) n m
on_last place n m last e = elim (cases_Bool (may_end place && length last == 0)) [
  | inl ends ↦ absurd (let none = rw ends at e in cc)
  | inr not_ends ↦ bad_here place (last ∷ []) n m (omega arith) (ap not not_ends) (same_Some n m (rw not_ends at e))
]

before_more : (place after : Place) (line next : List ℕ) (more : List (List ℕ)) (k : ℕ) → place_next place line ≡ Some after
    → ((j : ℕ) → j < k → bad_from after (next ∷ more) j ≡ false) → (j : ℕ) → j < suc k
    → bad_from place (line ∷ next ∷ more) j ≡ false
before_more place after line next more k at rest zero lt = ap is_none at
before_more place after line next more k at rest (suc j) lt = later place after line next more j at ∙ rest j (omega (arith, lt))

on_more : (place : Place) (n m : ℕ) (line next : List ℕ) (more : List (List ℕ)) (o : Option Place) → place_next place line ≡ o
    → ((q : Place) → walk q (n + 1) (next ∷ more) ≡ Some m → IsBadFrom q (next ∷ more) (n + 1) m)
    → walk_on n o (λ q. walk q (n + 1) (next ∷ more)) ≡ Some m → IsBadFrom place (line ∷ next ∷ more) n m
on_more place n m line next more None at rest e =
    bad_here place (line ∷ next ∷ more) n m (omega arith) (ap is_none at) (same_Some n m e)
on_more place n m line next more (Some after) at rest e =
    let found = rest after e in
    let number = found.number in
    let within = found.within in
    record {
      k = suc found.k;
      number = omega (arith, number);
      within = omega (arith, within);
      here = later place after line next more found.k at ∙ found.here;
      before = before_more place after line next more found.k at found.before;
    }

stops : (place : Place) (n m : ℕ) (lines : List (List ℕ)) → walk place n lines ≡ Some m → IsBadFrom place lines n m
unfolding walk
stops place n m [] e = absurd (cc)
stops place n m (last ∷ []) e = on_last place n m last e
stops place n m (line ∷ next ∷ more) e =
    on_more place n m line next more (place_next place line) refl (λ q. stops q (n + 1) m (next ∷ more)) e

good_last : (place : Place) (n : ℕ) (last : List ℕ) → cond (may_end place && length last == 0) None (Some n) ≡ None → (k : ℕ)
    → k < 1 → bad_from place (last ∷ []) k ≡ false
good_last place n last e (suc k) lt = absurd (omega (arith, lt))
good_last place n last e zero lt = elim (cases_Bool (may_end place && length last == 0)) [
  | inl ends ↦ ap not ends
  | inr not_ends ↦ absurd (let some = rw not_ends at e in cc)
]

good_more : (place : Place) (n : ℕ) (line next : List ℕ) (more : List (List ℕ)) (o : Option Place) → place_next place line ≡ o
    → ((q : Place) → walk q (n + 1) (next ∷ more) ≡ None → (k : ℕ) → k < length (next ∷ more) → bad_from q (next ∷ more)
    k ≡ false)
    → walk_on n o (λ q. walk q (n + 1) (next ∷ more)) ≡ None → (k : ℕ) → k < length (line ∷ next ∷ more)
    → bad_from place (line ∷ next ∷ more) k ≡ false
good_more place n line next more None at rest e k lt = absurd (cc)
good_more place n line next more (Some after) at rest e zero lt = ap is_none at
good_more place n line next more (Some after) at rest e (suc k) lt =
    later place after line next more k at ∙ rest after e k (omega (arith, lt))

ends : (place : Place) (n : ℕ) (lines : List (List ℕ)) → walk place n lines ≡ None → (k : ℕ) → k < length lines
    → bad_from place lines k ≡ false
unfolding walk
ends place n [] e k lt = absurd (omega (arith, lt))
ends place n (last ∷ []) e k lt = good_last place n last e k lt
ends place n (line ∷ next ∷ more) e k lt =
    good_more place n line next more (place_next place line) refl (λ q. ends q (n + 1) (next ∷ more)) e k lt

-- ---- from the start
bad_is : (lines : List (List ℕ)) (k : ℕ) → is_bad_at lines k ≡ bad_from AtStart lines k
unfolding is_bad_at place_at
bad_is lines k = refl

pub stops_at_first : (lines : List (List ℕ)) (n : ℕ) → walk AtStart 1 lines ≡ Some n → IsFirstBadLine lines n
stops_at_first lines n e =
    let found = stops AtStart 1 n lines e in
    let number = found.number in
    record {
      k = found.k;
      number = omega (arith, number);
      within = found.within;
      here = bad_is lines found.k ∙ found.here;
      before = λ j lt. bad_is lines j ∙ found.before j lt;
    }

pub no_bad : (lines : List (List ℕ)) → walk AtStart 1 lines ≡ None → (k : ℕ) → k < length lines → is_bad_at lines k ≡ false
no_bad lines e k lt = bad_is lines k ∙ ends AtStart 1 lines e k lt

-- there is one first bad line
pub one_first_bad : (lines : List (List ℕ)) (n m : ℕ) → IsFirstBadLine lines n → IsFirstBadLine lines m → n ≡ m
one_first_bad lines n m first second = elim (cases_order first.k second.k) [
  | inl same ↦ let one = first.number in let two = second.number in omega (arith, same, one, two)
  | inr other ↦ elim other [
    | inl before ↦ absurd (both_ways _ (second.before first.k before) first.here)
    | inr after ↦ absurd (both_ways _ (first.before second.k after) second.here)
  ]
]
