-- The decision in words of relations: there is a busiest group or none, and a source queue or
-- none, and the answer follows from these two and from what the balance test and the imbalance say
-- of the statistics.
-- Cited by the law `decision_is_the_choice`; also by `lb_lane` and `lb_lane_laws`.
use Rattle.std.specs.Prelude.{ℕ, ◌≡◌, ◌==◌, Bool, Option, Some, None, MatchBool, List}
use Rattle.lb_base.specs.declared.mask.Mask.{Mask}
use Rattle.lb_base.specs.declared.figure.Fig.{Fig}
use Rattle.lb_base.specs.declared.group.Stats.{Stats}
use Rattle.lb_base.specs.declared.shape.Shape.{Shape}
use Rattle.lb_base.specs.declared.shape.Kind.{Kind}
use Rattle.lb_base.specs.Mask.{without}
use Rattle.lb_busiest.specs.Ranking.{stats_at, AnswersBusiest}
use Rattle.lb_busiest.specs.Sources.{AnswersSource}
use Rattle.lb_imbalance.specs.declared.decision.Decision.{Decision}
use Rattle.lb_imbalance.specs.declared.decision.Decision.TheVariants.{NotMine, Balanced, Pull}
use Rattle.lb_imbalance.specs.declared.imbalance.Imbalance.{Imbalance}
use Rattle.lb_imbalance.specs.Destination.{is_busy, may_balance}
use Rattle.lb_imbalance.specs.Balance.{is_level}
use Rattle.lb_imbalance.specs.Amount.{imbalance_of}
use Rattle.lb_imbalance.specs.Decision.{group_at, all_stats, domain_average}

-- with a source queue the CPU pulls from it, and without one nothing is to move
abbrev pub IsPullFrom : Imbalance → Option ℕ → Decision → Type 0
IsPullFrom imbalance None d = d ≡ Balanced
IsPullFrom imbalance (Some cpu) d = d ≡ Pull cpu imbalance.kind imbalance.amount

-- an imbalance is pulled from the source queue of a group
pub record IsPull (figs : List Fig) (group : Mask) (imbalance : Imbalance) (d : Decision) : Type 0 where
  pub source : Option ℕ
  pub chosen : AnswersSource figs group imbalance.kind imbalance.amount source
  pub answer : IsPullFrom imbalance source d

-- an imbalance of 0 is none
abbrev pub EvensOut : List Fig → Mask → Imbalance → Decision → Type 0
EvensOut figs group imbalance d = MatchBool (imbalance.amount == 0) (d ≡ Balanced) (IsPull figs group imbalance d)

-- without a busiest group, or beside one that is level with the local group, nothing is to move
abbrev pub FollowsBusiest : Shape → List Mask → List Fig → Bool → Mask → List Stats → Option ℕ → Decision → Type 0
FollowsBusiest shape groups figs busy excluded stats None d = d ≡ Balanced
FollowsBusiest shape groups figs busy excluded stats (Some b) d =
    MatchBool (is_level shape busy (domain_average stats) (stats_at stats 0) (stats_at stats b)) (d ≡ Balanced)
    (EvensOut figs (without (group_at groups b) excluded)
    (imbalance_of shape busy (domain_average stats) (stats_at stats 0) (stats_at stats b)) d)

-- the decision of a CPU that may balance follows from the busiest group
pub record IsChoice (shape : Shape) (groups : List Mask) (figs : List Fig) (busy : Bool) (excluded : Mask)
    (stats : List Stats) (d : Decision) : Type 0 where
  pub busiest : Option ℕ
  pub chosen : AnswersBusiest stats busiest
  pub answer : FollowsBusiest shape groups figs busy excluded stats busiest d

-- the decision
abbrev pub IsDecision : Shape → List Mask → List Fig → ℕ → Kind → Mask → Decision → Type 0
IsDecision shape groups figs cpu kind excluded d =
    MatchBool (may_balance kind figs (group_at groups 0) cpu)
    (IsChoice shape groups figs (is_busy kind figs cpu) excluded (all_stats shape groups figs excluded) d)
    (d ≡ NotMine)
