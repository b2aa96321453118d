-- The decision of a CPU about one of its domains, as a function of the domain's shape and groups,
-- the figures, the CPU, the kind of turn and the excluded CPUs: it is not the CPU's to balance, or
-- the domain is balanced, or the CPU pulls from a source queue of the busiest group.
-- Cited by the law `decision_is_the_choice`, and `decide`, `decide_over` and others; also by `lb_core`, `lb_due` and
-- other crates.
use Rattle.std.specs.Prelude.{ℕ, ◌*◌, ◌/◌, ◌==◌, Bool, if◌then◌else◌, Option, Some, None, List, map, sum_by}
use Rattle.std.specs.List.{slice_index_or}
use Rattle.lb_base.specs.declared.mask.Mask.{Mask}
use Rattle.lb_base.specs.declared.figure.Fig.{Fig}
use Rattle.lb_base.specs.declared.group.Stats.{Stats}
use Rattle.lb_base.specs.declared.shape.Shape.{Shape}
use Rattle.lb_base.specs.declared.shape.Kind.{Kind}
use Rattle.lb_base.specs.Mask.{no_cpus, without}
use Rattle.lb_stats.specs.Statistics.{stats_of}
use Rattle.lb_busiest.specs.Ranking.{stats_at, busiest_of}
use Rattle.lb_busiest.specs.Sources.{source_of}
use Rattle.lb_imbalance.specs.declared.decision.Decision.{Decision}
use Rattle.lb_imbalance.specs.declared.decision.Decision.TheVariants.{NotMine, Balanced, Pull}
use Rattle.lb_imbalance.specs.declared.imbalance.Imbalance.{Imbalance}
use Rattle.lb_imbalance.specs.Levels.{percent_of}
use Rattle.lb_imbalance.specs.Destination.{is_busy, may_balance}
use Rattle.lb_imbalance.specs.Balance.{is_level}
use Rattle.lb_imbalance.specs.Amount.{imbalance_of}

-- group i of a domain; group 0 is the local one
abbrev pub group_at : List Mask → ℕ → Mask
group_at groups i = slice_index_or groups i no_cpus

-- the statistics of the groups, without the excluded CPUs
unfoldable pub all_stats : Shape → List Mask → List Fig → Mask → List Stats
all_stats shape groups figs excluded =
    map (λ g. stats_of figs (without g excluded) shape.position (percent_of shape.name)) groups

-- the load of one CPU's capacity over the whole domain
unfoldable pub domain_average : List Stats → ℕ
domain_average stats = sum_by (λ s. s.load) stats * 1024 / sum_by (λ s. s.cap) stats

-- the pull from a source, if there is one
abbrev pub pull_from : Imbalance → Option ℕ → Decision
pull_from imbalance None = Balanced
pull_from imbalance (Some cpu) = Pull cpu imbalance.kind imbalance.amount

-- the pull of an imbalance from a group, if there is one
unfoldable pub pull_or_balanced : List Fig → Mask → Imbalance → Decision
pull_or_balanced figs group imbalance =
    if imbalance.amount == 0 then Balanced
    else pull_from imbalance (source_of figs group imbalance.kind imbalance.amount)

-- the pull from a group that is busier than the local one
unfoldable pub pull_from_group : Shape → List Mask → List Fig → Bool → Mask → List Stats → ℕ → Decision
pull_from_group shape groups figs busy excluded stats b =
    let average = domain_average stats in
    if is_level shape busy average (stats_at stats 0) (stats_at stats b) then Balanced
    else pull_or_balanced figs (without (group_at groups b) excluded) (imbalance_of shape busy average (stats_at stats 0) (stats_at stats b))

-- by the busiest group
abbrev pub from_busiest : Shape → List Mask → List Fig → Bool → Mask → List Stats → Option ℕ → Decision
from_busiest shape groups figs busy excluded stats None = Balanced
from_busiest shape groups figs busy excluded stats (Some b) = pull_from_group shape groups figs busy excluded stats b

-- the decision of a CPU that may balance, over the statistics of the groups
unfoldable pub decision_over : Shape → List Mask → List Fig → Bool → Mask → List Stats → Decision
decision_over shape groups figs busy excluded stats = from_busiest shape groups figs busy excluded stats (busiest_of stats)

-- the decision
unfoldable pub decision : Shape → List Mask → List Fig → ℕ → Kind → Mask → Decision
decision shape groups figs cpu kind excluded =
    if may_balance kind figs (group_at groups 0) cpu
    then decision_over shape groups figs (is_busy kind figs cpu) excluded (all_stats shape groups figs excluded)
    else NotMine
