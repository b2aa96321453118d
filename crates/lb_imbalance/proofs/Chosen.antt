-- The decision that is computed is the one that the relations describe, and they describe no other.
-- For the law `decision_is_the_choice`.
use Rattle.std.proofs.Common.{◌≡◌, ℕ, Bool, true, false, cond, eqb, Option, Some, None, List, refl, ◌∙◌, ap}
use Rattle.std.specs.Prelude.{MatchBool}
use Rattle.lb_base.specs.declared.mask.Mask.{Mask}
use Rattle.lb_base.specs.declared.figure.Fig.{Fig}
use Rattle.lb_base.specs.declared.group.Stats.{Stats}
use Rattle.lb_base.specs.declared.shape.Shape.{Shape}
use Rattle.lb_base.specs.declared.view.MoveKind.{MoveKind}
use Rattle.lb_base.specs.declared.shape.Kind.{Kind}
use Rattle.lb_base.specs.Mask.{without}
use Rattle.lb_busiest.specs.Ranking.{stats_at, busiest_of, AnswersBusiest}
use Rattle.lb_busiest.specs.Sources.{source_of, AnswersSource}
use Rattle.lb_imbalance.specs.declared.decision.Decision.{Decision}
use Rattle.lb_imbalance.specs.declared.decision.Decision.TheVariants.{NotMine, Balanced}
use Rattle.lb_imbalance.specs.declared.imbalance.Imbalance.{Imbalance}
use Rattle.lb_imbalance.specs.Destination.{is_busy, may_balance}
use Rattle.lb_imbalance.specs.Balance.{is_level}
use Rattle.lb_imbalance.specs.Amount.{imbalance_of}
use Rattle.lb_imbalance.specs.Decision.{group_at, all_stats, domain_average, pull_from, pull_or_balanced, pull_from_group, from_busiest, decision_over, decision}
use Rattle.lb_imbalance.specs.Choice.{IsPullFrom, IsPull, EvensOut, FollowsBusiest, IsChoice, IsDecision}

-- what the laws of the busiest group and of the source queue say
pub record Laws : Type 0 where
  pub group_found : (stats : List Stats) → AnswersBusiest stats (busiest_of stats)
  pub group_unique : (stats : List Stats) (o : Option ℕ) → AnswersBusiest stats o → o ≡ busiest_of stats
  pub source_found : (figs : List Fig) (group : Mask) (kind : MoveKind) (imbalance : ℕ)
      → AnswersSource figs group kind imbalance (source_of figs group kind imbalance)
  pub source_unique : (figs : List Fig) (group : Mask) (kind : MoveKind) (imbalance : ℕ) (o : Option ℕ)
      → AnswersSource figs group kind imbalance o → o ≡ source_of figs group kind imbalance

-- ---- a choice by a test
holds : (b : Bool) (x y : Decision) (P Q : Decision → Type 0) → P x → Q y → MatchBool b (P (cond b x y)) (Q (cond b x y))
holds true x y P Q p q = p
holds false x y P Q p q = q

only : (b : Bool) (x y d : Decision) (P Q : Decision → Type 0) → (P d → d ≡ x) → (Q d → d ≡ y) → MatchBool b (P d) (Q d)
    → d ≡ cond b x y
only true x y d P Q p q h = p h
only false x y d P Q p q h = q h

-- ---- the pull
is_pull_from : (imbalance : Imbalance) (source : Option ℕ) → IsPullFrom imbalance source (pull_from imbalance source)
is_pull_from imbalance None = refl
is_pull_from imbalance (Some cpu) = refl

only_pull_from : (imbalance : Imbalance) (source : Option ℕ) (d : Decision) → IsPullFrom imbalance source d
    → d ≡ pull_from imbalance source
only_pull_from imbalance None d e = e
only_pull_from imbalance (Some cpu) d e = e

evens_out : Laws → (figs : List Fig) (group : Mask) (imbalance : Imbalance) → EvensOut figs group imbalance
    (pull_or_balanced figs group imbalance)
unfolding pull_or_balanced
evens_out laws figs group imbalance =
    let source = source_of figs group imbalance.kind imbalance.amount in
    holds (eqb imbalance.amount 0) Balanced (pull_from imbalance source) (λ d. d ≡ Balanced) (IsPull figs group imbalance) refl
    (record {
      source = source;
      chosen = laws.source_found figs group imbalance.kind imbalance.amount;
      answer = is_pull_from imbalance source;
    })

only_evens_out : Laws → (figs : List Fig) (group : Mask) (imbalance : Imbalance) (d : Decision)
    → EvensOut figs group imbalance d → d ≡ pull_or_balanced figs group imbalance
unfolding pull_or_balanced
only_evens_out laws figs group imbalance d =
    only (eqb imbalance.amount 0) Balanced
    (pull_from imbalance (source_of figs group imbalance.kind imbalance.amount)) d (λ d. d ≡ Balanced)
    (IsPull figs group imbalance) (λ e. e)
    (λ h. only_pull_from imbalance h.source d h.answer
    ∙ ap (pull_from imbalance) (laws.source_unique figs group imbalance.kind imbalance.amount h.source h.chosen))

-- ---- the busiest group
follows : Laws → (shape : Shape) (groups : List Mask) (figs : List Fig) (busy : Bool) (excluded : Mask)
    (stats : List Stats) (busiest : Option ℕ) → FollowsBusiest shape groups figs busy excluded stats busiest
    (from_busiest shape groups figs busy excluded stats busiest)
unfolding pull_from_group
follows laws shape groups figs busy excluded stats None = refl
follows laws shape groups figs busy excluded stats (Some b) =
    let group = without (group_at groups b) excluded in
    let imbalance = imbalance_of shape busy (domain_average stats) (stats_at stats 0) (stats_at stats b) in
    holds (is_level shape busy (domain_average stats) (stats_at stats 0) (stats_at stats b)) Balanced
    (pull_or_balanced figs group imbalance) (λ d. d ≡ Balanced) (EvensOut figs group imbalance) refl
    (evens_out laws figs group imbalance)

only_follows : Laws → (shape : Shape) (groups : List Mask) (figs : List Fig) (busy : Bool) (excluded : Mask)
    (stats : List Stats) (busiest : Option ℕ) (d : Decision)
    → FollowsBusiest shape groups figs busy excluded stats busiest d → d ≡ from_busiest shape groups figs busy excluded
    stats busiest
unfolding pull_from_group
only_follows laws shape groups figs busy excluded stats None d e = e
only_follows laws shape groups figs busy excluded stats (Some b) d h =
    let group = without (group_at groups b) excluded in
    let imbalance = imbalance_of shape busy (domain_average stats) (stats_at stats 0) (stats_at stats b) in
    only (is_level shape busy (domain_average stats) (stats_at stats 0) (stats_at stats b)) Balanced
    (pull_or_balanced figs group imbalance) d (λ d. d ≡ Balanced) (EvensOut figs group imbalance) (λ e. e)
    (only_evens_out laws figs group imbalance d) h

-- ---- the decision
is_choice : Laws → (shape : Shape) (groups : List Mask) (figs : List Fig) (busy : Bool) (excluded : Mask)
    (stats : List Stats) → IsChoice shape groups figs busy excluded stats (decision_over shape groups figs busy excluded stats)
unfolding decision_over
is_choice laws shape groups figs busy excluded stats = record {
  busiest = busiest_of stats;
  chosen = laws.group_found stats;
  answer = follows laws shape groups figs busy excluded stats (busiest_of stats);
}

only_choice : Laws → (shape : Shape) (groups : List Mask) (figs : List Fig) (busy : Bool) (excluded : Mask)
    (stats : List Stats) (d : Decision) → IsChoice shape groups figs busy excluded stats d
    → d ≡ decision_over shape groups figs busy excluded stats
unfolding decision_over
only_choice laws shape groups figs busy excluded stats d h =
    only_follows laws shape groups figs busy excluded stats h.busiest d h.answer
    ∙ ap (from_busiest shape groups figs busy excluded stats) (laws.group_unique stats h.busiest h.chosen)

pub is_decision : Laws → (shape : Shape) (groups : List Mask) (figs : List Fig) (cpu : ℕ) (kind : Kind)
    (excluded : Mask) → IsDecision shape groups figs cpu kind excluded (decision shape groups figs cpu kind excluded)
unfolding decision
is_decision laws shape groups figs cpu kind excluded =
    let busy = is_busy kind figs cpu in
    let stats = all_stats shape groups figs excluded in
    holds (may_balance kind figs (group_at groups 0) cpu)
    (decision_over shape groups figs busy excluded stats) NotMine (IsChoice shape groups figs busy excluded stats)
    (λ d. d ≡ NotMine)
    (is_choice laws shape groups figs busy excluded stats) refl

pub only_decision : Laws → (shape : Shape) (groups : List Mask) (figs : List Fig) (cpu : ℕ) (kind : Kind)
    (excluded : Mask) (d : Decision) → IsDecision shape groups figs cpu kind excluded d → d ≡ decision shape groups figs
    cpu kind excluded
unfolding decision
only_decision laws shape groups figs cpu kind excluded d =
    let busy = is_busy kind figs cpu in
    let stats = all_stats shape groups figs excluded in
    only (may_balance kind figs (group_at groups 0) cpu)
    (decision_over shape groups figs busy excluded stats) NotMine d (IsChoice shape groups figs busy excluded stats)
    (λ d. d ≡ NotMine)
    (only_choice laws shape groups figs busy excluded stats d) (λ e. e)
