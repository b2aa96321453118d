-- What a decision pulls: from a CPU that is not excluded, is of a group after the local one and has tasks
-- by its figure, and an amount that is in range where the statistics of the groups are.
-- For the lemmas of `Keeping`, `Ranges` and `Work`, and so for the laws `calls_may_be_made`, `ready` and others.
use Rattle.std.proofs.Common.{arith, ◌≡◌, ℕ, ◌<◌, Bool, true, false, cond, ◌==◌, List, length, Option, Some, None, refl, sym, subst, ltb, ◌+◌, ◌-◌, ◌*◌, ◌/◌, ◌^◌, ◌≤◌, not, ◌&&◌, min, max, inl, inr}
use Rattle.std.proofs.lemmas.Bool.{and_parts, cases_lt}
use Rattle.std.specs.Prelude.{All}
use Rattle.std.proofs.Math.Nat.{mul-le-mul, max-le, min-le_left}
use Rattle.std.proofs.lemmas.List.{get_or_past}
use Rattle.lb_base.specs.declared.mask.Mask.{Mask}
use Rattle.lb_base.specs.declared.figure.Fig.{Fig}
use Rattle.lb_base.specs.declared.group.Stats.{Stats}
use Rattle.lb_base.specs.declared.shape.Shape.{Shape}
use Rattle.lb_base.specs.declared.shape.Kind.{Kind}
use Rattle.lb_base.specs.declared.view.MoveKind.{MoveKind}
use Rattle.lb_base.specs.declared.group.GroupType.{GroupType}
use Rattle.lb_base.specs.declared.group.GroupType.TheVariants.{HasSpare, Imbalanced}
use Rattle.lb_base.specs.declared.view.MoveKind.TheVariants.{Util}
use Rattle.lb_base.specs.Mask.{has, without}
use Rattle.lb_base.specs.Figures.{fig_at}
use Rattle.lb_base.specs.Greatest.{is_first_greatest, first_greatest}
use Rattle.lb_busiest.specs.Ranking.{busiest_of, stats_at, may_be_busiest, is_busier_at, no_stats}
use Rattle.lb_busiest.specs.Sources.{may_be_source, has_more, source_of}
use Rattle.lb_imbalance.specs.declared.imbalance.Imbalance.{Imbalance}
use Rattle.lb_imbalance.specs.declared.decision.Decision.{Decision}
use Rattle.lb_imbalance.specs.declared.decision.Decision.TheVariants.{NotMine, Balanced, Pull}
use Rattle.lb_imbalance.specs.Destination.{may_balance, is_busy}
use Rattle.lb_imbalance.specs.Balance.{is_level}
use Rattle.lb_imbalance.specs.Amount.{imbalance_of, is_pressed, one_task, spare_room, half_of_difference, load_to_average, imbalance_as}
use Rattle.lb_imbalance.specs.Decision.{group_at, all_stats, domain_average, pull_from, pull_or_balanced, pull_from_group, from_busiest, decision_over, decision}
use Rattle.lb_imbalance.specs.Conditions.{IsInRange}
use Rattle.lb_imbalance.specs.Levels.{is_above_cache}
use Rattle.lb_ready.proofs.Counting.{found_in, without_has, without_lacks, cond_by}

-- ---- the source
-- the CPU can be pulled from, though these are excluded; it is of a group after the local one, and the
-- amount is that of its group
pub record IsSourceOf (groups : List Mask) (figs : List Fig) (excluded : Mask) (amounts : ℕ → ℕ) (s i : ℕ) : Type 0 where
  pub group : ℕ
  pub after_local : ltb 0 group ≡ true
  pub member : has (group_at groups group) s ≡ true
  pub numbered : s < 64
  pub free : has excluded s ≡ false
  pub awake : ltb 0 (fig_at figs s).nr ≡ true
  pub amount : i ≡ amounts group

abbrev Pulls : List Mask → List Fig → Mask → (ℕ → ℕ) → Decision → Type 0
Pulls groups figs excluded amounts (Pull s k i) = IsSourceOf groups figs excluded amounts s i
Pulls groups figs excluded amounts d = Unit {0}

from_source : (groups : List Mask) (figs : List Fig) (b : ℕ) (excluded : Mask) (amounts : ℕ → ℕ) (i : Imbalance)
    (o : Option ℕ) → i.amount ≡ amounts b → ltb 0 b ≡ true →
    source_of figs (without (group_at groups b) excluded) i.kind i.amount ≡ o → Pulls groups figs excluded amounts (pull_from i o)
unfolding source_of first_greatest is_first_greatest may_be_source
from_source groups figs b excluded amounts i None same later e = tt
from_source groups figs b excluded amounts i (Some s) same later e =
    let g = without (group_at groups b) excluded in
    let f = found_in (is_first_greatest (may_be_source figs g i.kind i.amount) (has_more figs i.kind) 64) 0 64 s e in
    let p = and_parts (may_be_source figs g i.kind i.amount s) _ ((and_parts _ _ f.0).0) in
    let q = and_parts (has g s) (ltb 0 (fig_at figs s).nr) ((and_parts _ _ p.0).0) in
    let lt : s < 64 = omega (arith, f.2) in
    record {
      group = b;
      after_local = later;
      member = without_has (group_at groups b) excluded s q.0;
      numbered = lt;
      free = without_lacks (group_at groups b) excluded s lt q.0;
      awake = q.1;
      amount = same;
    }

-- what a pull from each group would move
abbrev pub amount_at : Shape → Bool → List Stats → ℕ → ℕ
amount_at shape busy stats b = (imbalance_of shape busy (domain_average stats) (stats_at stats 0) (stats_at stats b)).amount

from_group : (shape : Shape) (groups : List Mask) (figs : List Fig) (busy : Bool) (excluded : Mask)
    (stats : List Stats) (o : Option ℕ) → busiest_of stats ≡ o →
    Pulls groups figs excluded (amount_at shape busy stats) (from_busiest shape groups figs busy excluded stats o)
unfolding pull_from_group pull_or_balanced busiest_of first_greatest is_first_greatest may_be_busiest
from_group shape groups figs busy excluded stats None e = tt
from_group shape groups figs busy excluded stats (Some b) e =
    let f = found_in (is_first_greatest (may_be_busiest stats) (is_busier_at stats) (length stats)) 0 (length stats) b e in
    let later = (and_parts (ltb 0 b) _ ((and_parts (may_be_busiest stats b) _ ((and_parts _ _ f.0).0)).0)).0 in
    let i = imbalance_of shape busy (domain_average stats) (stats_at stats 0) (stats_at stats b) in
    let P = Pulls groups figs excluded (amount_at shape busy stats) in
    cond_by P (is_level shape busy (domain_average stats) (stats_at stats 0) (stats_at stats b)) Balanced _ tt
    (cond_by P (i.amount == 0) Balanced _ tt
    (from_source groups figs b excluded (amount_at shape busy stats) i _ refl later refl))

pub source_found : (shape : Shape) (groups : List Mask) (figs : List Fig) (cpu : ℕ) (kind : Kind) (excluded : Mask)
    (s : ℕ) (k : MoveKind) (i : ℕ) → Pull s k i ≡ decision shape groups figs cpu kind excluded →
    IsSourceOf groups figs excluded (amount_at shape (is_busy kind figs cpu) (all_stats shape groups figs excluded)) s i
unfolding decision decision_over
source_found shape groups figs cpu kind excluded s k i e =
    let P = Pulls groups figs excluded (amount_at shape (is_busy kind figs cpu) (all_stats shape groups figs excluded)) in
    subst P (sym e) (cond_by P (may_balance kind figs (group_at groups 0) cpu) _ NotMine
    (from_group shape groups figs (is_busy kind figs cpu) excluded (all_stats shape groups figs excluded) _ refl) tt)

-- ---- the amount
-- the most that is said to be moved
abbrev pub most_moved : ℕ
most_moved = 2 ^ 62

less_than : (b : Bool) (x y : ℕ) → x ≤ y → cond {A = ℕ} b x 0 ≤ y
less_than true x y h = h
less_than false x y h = omega arith

room_in : (busy : Bool) (local : Stats) → IsInRange local → (spare_room busy local).amount ≤ most_moved
room_in busy local r =
    let top : max local.cap local.util ≤ local.cap + local.util = max-le (omega arith) (omega arith) in
    let cap = r.cap in
    cond_by (λ i. i.amount ≤ most_moved) (max local.cap local.util - local.util == 0 && not busy) one_task
    (record { kind = Util; amount = max local.cap local.util - local.util }) (omega arith) (omega (arith, top, cap))

half_in : (shape : Shape) (local busiest : Stats) → IsInRange local → IsInRange busiest
    → (half_of_difference shape local busiest).amount ≤ most_moved
half_in shape local busiest r b = by_test _
  where
    by_test : (t : Bool) → cond {A = ℕ} t ((busiest.nr - local.nr) / 2) ((local.idle - busiest.idle) / 2) ≤ most_moved
    by_test true = let n = b.nr in omega (arith, n)
    by_test false = let n = r.idle in omega (arith, n)

average_in : (average : ℕ) (local busiest : Stats) → IsInRange busiest
    → (load_to_average average local busiest).amount ≤ most_moved
average_in average local busiest b =
    let x = (busiest.avg - average) * busiest.cap in
    let y = (average - local.avg) * local.cap in
    let avg : busiest.avg - average ≤ 2 ^ 40 = let n = b.avg in omega (arith, n) in
    let cap : busiest.cap ≤ 2 ^ 20 = let n = b.cap in omega (arith, n) in
    let product : x ≤ 2 ^ 40 * 2 ^ 20 = mul-le-mul avg cap in
    let less : min x y ≤ x = min-le_left x y in
    less_than _ (min x y / 1024) most_moved (omega (arith, product, less))

amount_as : (g l : GroupType) (shape : Shape) (busy : Bool) (average : ℕ) (local busiest : Stats) → IsInRange local
    → IsInRange busiest → (imbalance_as g l shape busy average local busiest).amount ≤ most_moved
amount_as Imbalanced l shape busy average local busiest r b = omega arith
amount_as g HasSpare shape busy average local busiest r b =
    cond_by (λ i. i.amount ≤ most_moved) (is_pressed g && is_above_cache shape.name) (spare_room busy local)
    (half_of_difference shape local busiest) (room_in busy local r) (half_in shape local busiest r b)
amount_as g l shape busy average local busiest r b = average_in average local busiest b

stats_in : (stats : List Stats) (i : ℕ) → All IsInRange stats → IsInRange (stats_at stats i)
stats_in stats i all = elim (cases_lt i (length stats)) [
  | inl lt ↦ all i no_stats lt
  | inr ge ↦ rw (get_or_past stats i no_stats ge)
      (record { nr = omega arith; avg = omega arith; cap = omega arith; idle = omega arith })
]

-- what a decision pulls
abbrev pub AmountIn : Decision → Type 0
AmountIn (Pull s k i) = i ≤ most_moved
AmountIn d = Unit {0}

pub amount_in : (shape : Shape) (groups : List Mask) (figs : List Fig) (cpu : ℕ) (kind : Kind) (excluded : Mask)
    (d : Decision) → d ≡ decision shape groups figs cpu kind excluded
    → All IsInRange (all_stats shape groups figs excluded) → AmountIn d
unfolding imbalance_of
amount_in shape groups figs cpu kind excluded (Pull s k i) e all =
    let stats = all_stats shape groups figs excluded in
    let f = source_found shape groups figs cpu kind excluded s k i e in
    rw f.amount (amount_as _ _ shape (is_busy kind figs cpu) (domain_average stats) (stats_at stats 0)
    (stats_at stats f.group) (stats_in stats 0 all) (stats_in stats f.group all))
amount_in shape groups figs cpu kind excluded NotMine e all = tt
amount_in shape groups figs cpu kind excluded Balanced e all = tt
