-- The statistics of the groups: how many they are, and the ranges of their numbers. For callers too: these
-- ranges.
-- For `decide`; cited by `lb_ready` too.
use Rattle.std.proofs.Common.{◌≡◌, ℕ, ◌+◌, ◌*◌, ◌/◌, ◌^◌, ◌<◌, ◌≤◌, true, List, [], ◌∷◌, length, get_or, refl, sym, ◌∙◌, ap, arith, inl, inr}
use Rattle.std.specs.Prelude.{All, map, sum_by}
use Rattle.std.proofs.Math.Nat.{div-le_of_le-mul, mul-le-mul_left}
use Rattle.std.proofs.lemmas.Bool.{cases_eq, eq-eqb, ne_eqb}
use Rattle.std.proofs.lemmas.List.{length-map}
use Rattle.std.proofs.lemmas.List.Elements.{All-map, All-weaker, All-from_get_or}
use Rattle.std.proofs.lemmas.List.Sums.{sum_by-le, sum_by-cons, count_by-le-length}
use Rattle.lb_base.specs.declared.mask.Mask.{Mask}
use Rattle.lb_base.specs.declared.figure.Fig.{Fig}
use Rattle.lb_base.specs.declared.group.Stats.{Stats}
use Rattle.lb_base.specs.declared.shape.Shape.{Shape}
use Rattle.lb_base.specs.Mask.{has, members, without, no_cpus}
use Rattle.lb_base.specs.Figures.{total, fig_at}
use Rattle.lb_base.proofs.Members.{length-members_le, sum_members_fits}
use Rattle.lb_stats.specs.Statistics.{stats_of, is_idle, idle_count, average_of, HasSmallSums}
use Rattle.lb_imbalance.specs.Conditions.{IsInRange}
use Rattle.lb_imbalance.specs.Levels.{percent_of}
use Rattle.lb_imbalance.specs.Decision.{all_stats}

pub length-all_stats : (shape : Shape) (groups : List Mask) (figs : List Fig) (excluded : Mask)
    → length (all_stats shape groups figs excluded) ≡ length groups
unfolding all_stats
length-all_stats shape groups figs excluded = length-map groups _

-- ---- ranges

-- a load by a capacity of one CPU or more
pub average_le : (load cap : ℕ) → 1024 ≤ cap → load * 1024 / cap ≤ load
average_le load cap enough = div-le_of_le-mul cap (omega (arith, mul-le-mul_left load enough))

average_of-le : (load weight : ℕ) → average_of load (1024 * weight) ≤ load
average_of-le load weight =
    elim (cases_eq (1024 * weight) 0) [
      | inl none ↦ rw (eq-eqb (1024 * weight) 0 none) (omega arith)
      | inr some ↦ rw (ne_eqb (1024 * weight) 0 some) (average_le load (1024 * weight) (omega arith))
    ]

idle_count-le : (figs : List Fig) (group : Mask) → idle_count figs group ≤ length (members group)
unfolding idle_count
idle_count-le figs group = count_by-le-length (λ cpu. is_idle (fig_at figs cpu)) (members group)

in_range : (figs : List Fig) (group : Mask) (position pct : ℕ) → HasSmallSums figs group
    → IsInRange (stats_of figs group position pct)
unfolding stats_of
in_range figs group position pct small =
    let few = length-members_le group in
    let load = small.load in
    record {
      nr = small.nr;
      avg = omega (arith, average_of-le (total (λ fig. fig.load) figs group) (length (members group)));
      cap = omega arith;
      idle = omega (arith, idle_count-le figs group);
    }

pub all_in_range : (shape : Shape) (groups : List Mask) (figs : List Fig) (excluded : Mask)
    → All (λ g. HasSmallSums figs (without g excluded)) groups → All IsInRange (all_stats shape groups figs excluded)
unfolding all_stats
all_in_range shape groups figs excluded small =
    let F : Mask → Stats = λ g. stats_of figs (without g excluded) shape.position (percent_of shape.name) in
    All-map IsInRange F groups (All-weaker (λ g. HasSmallSums figs (without g excluded)) (λ g. IsInRange (F g))
    (λ g s. in_range figs (without g excluded) shape.position (percent_of shape.name) s) groups small)

-- ---- the whole domain
pub caps_small : (stats : List Stats) → length stats ≤ 64 → All IsInRange stats → sum_by (λ s. s.cap) stats < 2 ^ 40
caps_small stats few ranges =
    let each : All (λ (s : Stats). s.cap ≤ 2 ^ 20) stats =
    All-weaker IsInRange (λ s. s.cap ≤ 2 ^ 20) (λ s t. omega (arith, t.cap)) stats ranges in
    omega (arith, sum_by-le (λ (s : Stats). s.cap) (2 ^ 20) stats each)

pub all_loads : (shape : Shape) (groups : List Mask) (figs : List Fig) (excluded : Mask)
    → sum_by (λ s. s.load) (all_stats shape groups figs excluded) ≡ sum_by
    (λ g. total (λ fig. fig.load) figs (without g excluded)) groups
unfolding all_stats stats_of
all_loads shape [] figs excluded = refl
all_loads shape (g ∷ gs) figs excluded =
    let L : Mask → ℕ = λ g. total (λ fig. fig.load) figs (without g excluded) in
    let F : Mask → Stats = λ g. stats_of figs (without g excluded) shape.position (percent_of shape.name) in
    sum_by-cons (λ (s : Stats). s.load) (F g) (map F gs) ∙ ap (λ (n : ℕ). L g + n) (all_loads shape gs figs excluded)
    ∙ sym (sum_by-cons L g gs)

-- a group that has a CPU has capacity
some_member : (m : Mask) (k : ℕ) → has m k ≡ true → k < 64 → 0 < length (members m)
some_member m k here lt =
    let one : ℕ → ℕ = λ _. 1 in
    let each : All (λ (x : ℕ). 1 ≤ 1) (members m) = All-from_get_or (λ (x : ℕ). 1 ≤ 1) (members m) 0 (λ i within. omega arith) in
    omega (arith, sum_members_fits one m k here lt, sum_by-le one 1 (members m) each)

pub first_cap : (shape : Shape) (groups : List Mask) (figs : List Fig) (excluded : Mask) → 0 < length groups → (k : ℕ)
    → k < 64 → has (without (get_or groups 0 no_cpus) excluded) k ≡ true → 1024 ≤ sum_by (λ s. s.cap)
    (all_stats shape groups figs excluded)
unfolding all_stats stats_of
first_cap shape [] figs excluded some k lt here = absurd (omega arith)
first_cap shape (g ∷ gs) figs excluded some k lt here =
    let F : Mask → Stats = λ g. stats_of figs (without g excluded) shape.position (percent_of shape.name) in
    omega (arith, sum_by-cons (λ (s : Stats). s.cap) (F g) (map F gs), some_member (without g excluded) k here lt)
