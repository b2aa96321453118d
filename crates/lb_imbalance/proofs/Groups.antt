-- The groups of a domain without the excluded CPUs: each has figures and small sums, and the local
-- one keeps its CPU. For callers too.
-- For `balances` and `decide`; cited by `lb_lane_laws`, `lb_ready` and `lb_state` too.
use Rattle.std.proofs.Common.{◌≡◌, ℕ, ◌-◌, ◌^◌, ◌<◌, true, false, eqb, w64, List, [], ◌∷◌, length, get_or, sym, ◌∙◌, ap, arith, inl, inr}
use Rattle.std.specs.Prelude.{All}
use Rattle.std.proofs.lemmas.Bool.{eqb-false, and_parts, and_from, both_ways, cases_lt}
use Rattle.std.specs.Int.{bit_at}
use Rattle.std.proofs.lemmas.Nat.Bits.{bit_at-lt, bit_at_not}
use Rattle.std.proofs.lemmas.List.Elements.{All-from_get_or}
use Rattle.std.proofs.lemmas.List.Folds.{list_any_at}
use Rattle.std.proofs.lemmas.List.Sums.{get_or-le-sum_by}
use Rattle.lb_base.specs.declared.mask.Mask.{Mask}
use Rattle.lb_base.specs.declared.figure.Fig.{Fig}
use Rattle.lb_base.specs.Mask.{has, without, no_cpus}
use Rattle.lb_base.specs.Figures.{total, AllHaveFigures}
use Rattle.lb_base.proofs.Bits.{bit_set_and, bit_set_zero}
use Rattle.lb_base.proofs.Members.{has_above}
use Rattle.lb_stats.specs.Statistics.{HasSmallSums}
use Rattle.lb_imbalance.specs.Conditions.{IsUnion, HaveSmallSums}

-- what is left of a mask was in it
pub has_left : (a b : Mask) (k : ℕ) → has (without a b) k ≡ true → has a k ≡ true
unfolding has without
has_left a b k h = (and_parts _ _ (sym (bit_set_and a.bits (2 ^ 64 - 1 - b.bits) k) ∙ h)).0

-- and what the other mask lacks is left
pub left_has : (a b : Mask) (k : ℕ) → b.bits < 2 ^ 64 → k < 64 → has a k ≡ true → has b k ≡ false → has (without a b) k ≡ true
unfolding has without
left_has a b k fits lt here away =
    let digit = bit_at-lt b.bits k in
    let other : bit_at b.bits k ≡ 1 → ⊥ = eqb-false (bit_at b.bits k) 1 away in
    let one : bit_at (2 ^ 64 - 1 - b.bits) k ≡ 1 = omega (arith, bit_at_not w64 b.bits k fits lt) in
    bit_set_and a.bits (2 ^ 64 - 1 - b.bits) k ∙ and_from _ _ here (ap (λ (x : ℕ). eqb x 1) one)

-- a mask's CPUs are below the constant
pub below_all : (m : Mask) (k : ℕ) → m.bits < 2 ^ 64 → has m k ≡ true → k < 64
below_all m k fits here = elim (cases_lt k 64)
    [ inl lt ↦ lt | inr above ↦ absurd (both_ways (has m k) (has_above m k fits above) here) ]

-- there is a group where the first one has a CPU
pub some_group : (groups : List Mask) (k : ℕ) → has (get_or groups 0 no_cpus) k ≡ true → 0 < length groups
unfolding has
some_group [] k here = absurd (both_ways (has no_cpus k) (bit_set_zero k) here)
some_group (g ∷ gs) k here = omega arith

-- a group's CPUs are of the span
pub group_in_span : (span : Mask) (groups : List Mask) → IsUnion span groups → (i : ℕ) → i < length groups → (k : ℕ)
    → has (get_or groups i no_cpus) k ≡ true → has span k ≡ true
group_in_span span groups union i lt k h = union k ∙ list_any_at (λ (g : Mask). has g k) groups i no_cpus lt h

pub all_have_figures : (figs : List Fig) (span excluded : Mask) (groups : List Mask) → IsUnion span groups
    → AllHaveFigures figs span → All (λ g. AllHaveFigures figs (without g excluded)) groups
all_have_figures figs span excluded groups union figures =
    All-from_get_or (λ g. AllHaveFigures figs (without g excluded)) groups no_cpus (λ i lt k h.
    figures k (group_in_span span groups union i lt k (has_left (get_or groups i no_cpus) excluded k h)))

pub all_have_small_sums : (figs : List Fig) (excluded : Mask) (groups : List Mask)
    → HaveSmallSums figs excluded groups → All (λ g. HasSmallSums figs (without g excluded)) groups
all_have_small_sums figs excluded groups small =
    All-from_get_or (λ g. HasSmallSums figs (without g excluded)) groups no_cpus (λ i lt. record {
      nr = omega (
        arith,
        small.nr,
        get_or-le-sum_by (λ (g : Mask). total (λ fig. fig.nr) figs (without g excluded))
            groups i no_cpus lt,
      );
      load = omega (
        arith,
        small.load,
        get_or-le-sum_by
            (λ (g : Mask). total (λ fig. fig.load) figs (without g excluded)) groups i no_cpus lt,
      );
      util = omega (
        arith,
        small.util,
        get_or-le-sum_by
            (λ (g : Mask). total (λ fig. fig.util) figs (without g excluded)) groups i no_cpus lt,
      );
      runnable = omega (
        arith,
        small.runnable,
        get_or-le-sum_by
            (λ (g : Mask). total (λ fig. fig.runnable) figs (without g excluded)) groups i no_cpus lt,
      );
    })
