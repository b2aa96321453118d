-- Domains of two groups whose masks are literals, as the tests have them.
-- For `lb_tests`.
use Rattle.std.proofs.Common.{◌≡◌, ℕ, ◌^◌, ◌<◌, Bool, true, false, ◌&&◌, ◌||◌, [], ◌∷◌, bit_and, bit_or, refl, sym, ◌∙◌, ap, inl, inr}
use Rattle.std.proofs.lemmas.Bool.{both_ways, cases_lt}
use Rattle.lb_base.specs.declared.mask.Mask.{Mask}
use Rattle.lb_base.specs.Mask.{has}
use Rattle.lb_base.proofs.Bits.{bit_set, bit_set_and, bit_set_or, bit_set_above, bit_set_zero}
use Rattle.lb_imbalance.specs.Conditions.{IsUnion}

or_nothing : (b : Bool) → b ≡ (b || false)
or_nothing true = refl
or_nothing false = refl

pub union_of_two : (a b : Mask) → IsUnion (record { bits = bit_or a.bits b.bits }) (a ∷ b ∷ [])
unfolding has
union_of_two a b k = bit_set_or a.bits b.bits k ∙ ap (λ (t : Bool). has a k || t) (or_nothing (has b k))

pub below : (m : Mask) (n : ℕ) → m.bits < 2 ^ n → (k : ℕ) → has m k ≡ true → k < n
unfolding has
below m n fits k here = elim (cases_lt k n)
    [ inl lt ↦ lt | inr above ↦ absurd (both_ways (has m k) (bit_set_above m.bits n k fits above) here) ]

pub apart : (a b : Mask) → bit_and a.bits b.bits ≡ 0 → (k : ℕ) → has a k ≡ true → has b k ≡ false
unfolding has
apart a b e k here =
    let both : (has a k && has b k) ≡ false = sym (bit_set_and a.bits b.bits k) ∙ ap (λ (n : ℕ). bit_set n k) e ∙
    bit_set_zero k in
    rw here at both
