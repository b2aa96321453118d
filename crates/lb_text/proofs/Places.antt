-- The first bad byte of a piece is that of the whole text, as many bytes further as stand before the
-- piece.
-- For the lemmas of `Items`, `NiceFacts` and `Taken`, and so for the laws `writes_runs`, `reads_back` and others.
use Rattle.std.proofs.Common.{◌≡◌, ℕ, ◌+◌, ◌-◌, ◌<◌, ◌≤◌, Bool, true, false, List, [], ◌∷◌, ◌++◌, length, take, drop, refl, sym, ap, subst, ◌∙◌, inl, inr, arith, rules, length-append}
use Rattle.std.proofs.lemmas.Bool.{cases_lt, both_ways}
use Rattle.std.proofs.lemmas.List.{take-append-drop, take-append-le, same_lists, places}
use Rattle.lb_text.specs.Prefixes.{CanGoOn, IsFirstBad}
use Rattle.lb_text.proofs.Prefix.{front_goes_on}

-- a shorter front goes on too
pub shorter_goes_on : (accepts : List ℕ → Bool) (text : List ℕ) (n : ℕ) → CanGoOn accepts text → CanGoOn accepts (take n text)
shorter_goes_on accepts text n go = front_goes_on accepts (take n text) (drop n text)
    (subst (λ (t : List ℕ). CanGoOn accepts t) (sym (take-append-drop n text)) go)

-- how a piece stands in a text: after a front, and before a tail that begins with a byte that no piece
-- has
pub record IsPlaced (inner outer : List ℕ → Bool) (front piece tail : List ℕ) : Type 0 where
  pub begins : CanGoOn outer front
  pub inward : (k : ℕ) → CanGoOn outer (front ++ take k piece) → CanGoOn inner (take k piece)
  pub outward : (k : ℕ) → CanGoOn inner (take k piece) → CanGoOn outer (front ++ take k piece)
  pub ends : (c : ℕ) (more : List ℕ) → tail ≡ c ∷ more → CanGoOn outer (front ++ (piece ++ c ∷ [])) → inner piece ≡ true

take_past : (front rest : List ℕ) (n k : ℕ) → n ≡ length front + k → take n (front ++ rest) ≡ front ++ take k rest
take_past front rest n k e = same_lists (take n (front ++ rest)) (front ++ take k rest) (search (rules, places))
    (λ i d h. grind (arith, places))

take_within : (piece tail : List ℕ) (k : ℕ) → k ≤ length piece → take k (piece ++ tail) ≡ take k piece
take_within piece tail k le = take-append-le k piece tail le

take_one_past : (piece more : List ℕ) (c k : ℕ) → k ≡ length piece + 1 → take k (piece ++ c ∷ more) ≡ piece ++ c ∷ []
take_one_past piece more c k e = take_past piece (c ∷ more) k 1 e

first_bad_before : (inner outer : List ℕ → Bool) (front piece tail : List ℕ) (at : ℕ)
    → IsPlaced inner outer front piece tail → IsFirstBad inner piece at
    → (k : ℕ) → k < length front + at → CanGoOn outer (take (k + 1) (front ++ (piece ++ tail)))
first_bad_before inner outer front piece tail at p b k lt = elim (cases_lt k (length front)) [
  | inl before ↦
      subst (λ (t : List ℕ). CanGoOn outer t) (sym (take-append-le (k + 1) front (piece ++ tail) (omega arith)))
      (shorter_goes_on outer front (k + 1) p.begins)
  | inr after ↦
      let i = k - length front in
      let cut : take (k + 1) (front ++ (piece ++ tail)) ≡ front ++ take (i + 1) piece =
      take_past front (piece ++ tail) (k + 1) (i + 1) (omega arith)
      ∙ ap (λ t. front ++ t) (take_within piece tail (i + 1) (omega (arith, b.within))) in
      subst (λ (t : List ℕ). CanGoOn outer t) (sym cut) (p.outward (i + 1) (b.before i (omega arith)))
]

inside : (inner outer : List ℕ → Bool) (front piece tail : List ℕ) (at : ℕ) → IsPlaced inner outer front piece tail
    → IsFirstBad inner piece at → at < length piece
    → CanGoOn outer (take (length front + at + 1) (front ++ (piece ++ tail))) → ⊥
inside inner outer front piece tail at p b lt go =
    let cut : take (length front + at + 1) (front ++ (piece ++ tail)) ≡ front ++ take (at + 1) piece =
    take_past front (piece ++ tail) (length front + at + 1) (at + 1) (omega arith)
    ∙ ap (λ t. front ++ t) (take_within piece tail (at + 1) (omega arith)) in
    b.here lt (p.inward (at + 1) (subst (λ (t : List ℕ). CanGoOn outer t) cut go))

first_bad_here : (inner outer : List ℕ → Bool) (front piece tail : List ℕ) (at : ℕ)
    → IsPlaced inner outer front piece tail → inner piece ≡ false → IsFirstBad inner piece at
    → length front + at < length (front ++ (piece ++ tail))
    → CanGoOn outer (take (length front + at + 1) (front ++ (piece ++ tail))) → ⊥
first_bad_here inner outer front piece [] at p bad b lt go = elim (cases_lt at (length piece)) [
  | inl within ↦ inside inner outer front piece [] at p b within go
  | inr past ↦ omega (arith, lt, length-append front (piece ++ []), length-append piece [])
]
first_bad_here inner outer front piece (c ∷ more) at p bad b lt go = elim (cases_lt at (length piece)) [
  | inl within ↦ inside inner outer front piece (c ∷ more) at p b within go
  | inr past ↦
      let cut : take (length front + at + 1) (front ++ (piece ++ c ∷ more)) ≡ front ++ (piece ++ c ∷ []) =
      take_past front (piece ++ c ∷ more) (length front + at + 1) (at + 1) (omega arith)
      ∙ ap (λ t. front ++ t) (take_one_past piece more c (at + 1) (omega (arith, b.within))) in
      both_ways (inner piece) bad (p.ends c more refl (subst (λ (t : List ℕ). CanGoOn outer t) cut go))
]

-- the first bad byte of the piece is that of the text
pub first_bad_placed : (inner outer : List ℕ → Bool) (front piece tail : List ℕ) (at : ℕ)
    → IsPlaced inner outer front piece tail → inner piece ≡ false → IsFirstBad inner piece at
    → IsFirstBad outer (front ++ (piece ++ tail)) (length front + at)
first_bad_placed inner outer front piece tail at p bad b = record {
  within = omega (arith, b.within, length-append front (piece ++ tail), length-append piece tail);
  before = first_bad_before inner outer front piece tail at p b;
  here = first_bad_here inner outer front piece tail at p bad b;
}
