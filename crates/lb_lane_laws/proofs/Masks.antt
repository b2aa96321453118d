-- Sets of CPUs with one more, and groups that share no CPU.
-- For the lemmas of `Sources`; cited by `lb_pass` too.
use Rattle.std.proofs.Common.{◌≡◌, ℕ, zero, suc, ◌<◌, ◌^◌, Bool, true, false, ◌==◌, ◌||◌, not, List, [], ◌∷◌, refl, sym, ◌∙◌, ap, ltb, inl, inr}
use Rattle.std.specs.List.{list_all, list_any}
use Rattle.std.proofs.lemmas.Bool.{and_parts, not-true, cases_Bool, both_ways}
use Rattle.std.proofs.lemmas.Nat.Bits.{bit_at-pow_other}
use Rattle.lb_base.specs.declared.mask.Mask.{Mask}
use Rattle.lb_base.specs.Mask.{has, either, only, no_cpus}
use Rattle.lb_base.specs.Sets.{are_apart, are_disjoint}
use Rattle.lb_base.proofs.Bits.{bit_set_or, bit_set_zero}
use Rattle.lb_base.proofs.Sets.{all_members_at}
use Rattle.lb_imbalance.specs.Decision.{group_at}

pub none_has : (k : ℕ) → has no_cpus k ≡ false
unfolding has
none_has k = bit_set_zero k

-- one CPU more is in it
pub lacks_still : (x : Mask) (s k : ℕ) → has x k ≡ false → (k ≡ s → ⊥) → has (either x (only s)) k ≡ false
unfolding either only has
lacks_still x s k lacks other =
    bit_set_or x.bits (2 ^ s) k ∙ rw (lacks, ap (λ (b : ℕ). b == 1) (bit_at-pow_other s k other)) refl

-- a CPU of one of the groups is a CPU of some group
pub some_has : (groups : List Mask) (i s : ℕ) → has (group_at groups i) s ≡ true → list_any (λ g. has g s) groups ≡ true
some_has [] i s y = absurd (both_ways (has no_cpus s) (none_has s) y)
some_has (g ∷ gs) zero s y = rw y refl
some_has (g ∷ gs) (suc i) s y = by_first (has g s) (some_has gs i s y)
  where
    by_first : (b : Bool) → list_any (λ g. has g s) gs ≡ true → (b || list_any (λ g. has g s) gs) ≡ true
    by_first true e = refl
    by_first false e = e

-- where no two groups share a CPU, one of a later group is not in the first
apart_from : (g : Mask) (gs : List Mask) (i s : ℕ) → list_all (are_apart g) gs ≡ true → s < 64
    → has (group_at gs i) s ≡ true → has g s ≡ false
unfolding are_apart
apart_from g [] i s a lt y = absurd (both_ways (has no_cpus s) (none_has s) y)
apart_from g (x ∷ gs) zero s a lt y = elim (cases_Bool (has g s)) [
  | inl here ↦ absurd (both_ways (has x s) (not-true (has x s)
      (all_members_at (λ k. not (has x k)) g ((and_parts _ _ a).0) s lt here)) y)
  | inr none ↦ none
]
apart_from g (x ∷ gs) (suc i) s a lt y = apart_from g gs i s ((and_parts (are_apart g x) _ a).1) lt y

pub not_in_first : (groups : List Mask) (i s : ℕ) → are_disjoint groups ≡ true → ltb 0 i ≡ true → s < 64
    → has (group_at groups i) s ≡ true → has (group_at groups 0) s ≡ false
not_in_first [] i s a l lt y = none_has s
not_in_first (g ∷ gs) zero s a l lt y = absurd (let z : ⊥ = cc in z)
not_in_first (g ∷ gs) (suc i) s a l lt y = apart_from g gs i s ((and_parts (list_all (are_apart g) gs) _ a).0) lt y
