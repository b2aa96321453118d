-- The source of a pull: a CPU of the machine that is not of the local group of the domain in work. So no CPU of the local
-- group is ever excluded.
-- For `lb_pass`.
use Rattle.std.proofs.Common.{◌≡◌, ℕ, ◌<◌, Bool, true, false, cond, ◌==◌, List, length, Option, Some, None, sym, ◌∙◌, ap, subst, ltb}
use Rattle.std.specs.Prelude.{MatchBool}
use Rattle.std.proofs.lemmas.Bool.{and_parts, both_ways}
use Rattle.lb_base.specs.declared.mask.Mask.{Mask}
use Rattle.lb_base.specs.declared.figure.Fig.{Fig}
use Rattle.lb_base.specs.declared.group.Stats.{Stats}
use Rattle.lb_base.specs.declared.shape.Shape.{Shape}
use Rattle.lb_base.specs.declared.shape.Kind.{Kind}
use Rattle.lb_base.specs.declared.view.MoveKind.{MoveKind}
use Rattle.lb_base.specs.Mask.{has, without, either, only}
use Rattle.lb_busiest.specs.Ranking.{stats_at, may_be_busiest, AnswersBusiest}
use Rattle.lb_busiest.specs.Sources.{may_be_source, AnswersSource}
use Rattle.lb_levels.specs.Faults.{CanBeRead}
use Rattle.lb_imbalance.specs.declared.imbalance.Imbalance.{Imbalance}
use Rattle.lb_imbalance.specs.declared.decision.Decision.{Decision}
use Rattle.lb_imbalance.specs.declared.decision.Decision.TheVariants.{NotMine, Balanced, Pull}
use Rattle.lb_imbalance.specs.Choice.{IsDecision, IsChoice, FollowsBusiest, EvensOut, IsPull, IsPullFrom}
use Rattle.lb_imbalance.specs.Amount.{imbalance_of}
use Rattle.lb_imbalance.specs.Balance.{is_level}
use Rattle.lb_imbalance.specs.Destination.{is_busy, may_balance}
use Rattle.lb_imbalance.specs.Decision.{group_at, decision, all_stats, domain_average}
use Rattle.lb_domain.specs.declared.domain.Domain.{Domain}
use Rattle.lb_domain.specs.Laws.{GroupsPart, LieInside}
use Rattle.lb_trace.specs.declared.trace.Header.{Header}
use Rattle.lb_core.specs.declared.course.Course.{Course}
use Rattle.lb_core.specs.declared.entry.CpuFig.{CpuFig}
use Rattle.lb_core.specs.Sight.{by_cpu}
use Rattle.lb_core.specs.Course.{turn_domain, turn_kind, turn_domains, source_of, is_all_pinned}
use Rattle.lb_core.specs.CourseAfter.{excluding}
use Rattle.lb_lane.specs.Looks.{decides}
use Rattle.lb_imbalance.proofs.Groups.{has_left}
use Rattle.lb_lane_laws.proofs.Masks.{some_has, not_in_first, lacks_still}

-- ---- the source is of a group after the local one
pub record IsOfLater (groups : List Mask) (s : ℕ) : Type 0 where
  pub group : ℕ
  pub later : ltb 0 group ≡ true
  pub member : has (group_at groups group) s ≡ true
  pub small : s < 64

-- the decision is a pull from that CPU
abbrev Pulls : ℕ → Decision → Type 0
Pulls s d = (k : MoveKind) × (i : ℕ) × (d ≡ Pull s k i)

by_source : (groups : List Mask) (figs : List Fig) (b s : ℕ) (excluded : Mask) (m : Imbalance) (o : Option ℕ) (d : Decision)
    → ltb 0 b ≡ true → AnswersSource figs (without (group_at groups b) excluded) m.kind m.amount o → IsPullFrom m o d
    → Pulls s d → IsOfLater groups s
unfolding may_be_source
by_source groups figs b s excluded m None d later found e p = absurd (let x = p.2 in let y : ⊥ = cc in y)
by_source groups figs b s excluded m (Some c) d later found e p =
    let same : c ≡ s = let x = p.2 in ap (λ (y : Decision). source_of (Some y)) (sym e ∙ x) in
    let passes = (and_parts _ _ found.passes).0 in
    let here = (and_parts (has (without (group_at groups b) excluded) c) _ passes).0 in
    subst (IsOfLater groups) same (record {
      group = b;
      later = later;
      member = has_left (group_at groups b) excluded c here;
      small = found.within;
    })

by_amount : (b : Bool) (d : Decision) (s : ℕ) (A P : Type 0) → MatchBool b (d ≡ Balanced) A → (A → P) → Pulls s d → P
by_amount true d s A P e f p = absurd (let x = p.2 in let y : ⊥ = cc in y)
by_amount false d s A P e f p = f e

by_busiest : (shape : Shape) (groups : List Mask) (figs : List Fig) (busy : Bool) (excluded : Mask) (stats : List Stats)
    (o : Option ℕ) (d : Decision) (s : ℕ) → AnswersBusiest stats o → FollowsBusiest shape groups figs busy excluded stats o d
    → Pulls s d → IsOfLater groups s
unfolding may_be_busiest
by_busiest shape groups figs busy excluded stats None d s found e p = absurd (let x = p.2 in let y : ⊥ = cc in y)
by_busiest shape groups figs busy excluded stats (Some b) d s found e p =
    let later = (and_parts (ltb 0 b) _ found.passes).0 in
    let m = imbalance_of shape busy (domain_average stats) (stats_at stats 0) (stats_at stats b) in
    let g = without (group_at groups b) excluded in
    by_amount (is_level shape busy (domain_average stats) (stats_at stats 0) (stats_at stats b)) d s (EvensOut figs g m d)
    (IsOfLater groups s) e
    (λ evens. by_amount (m.amount == 0) d s (IsPull figs g m d) (IsOfLater groups s) evens
    (λ x. by_source groups figs b s excluded m x.source d later x.chosen x.answer p) p) p

by_test : (b : Bool) (shape : Shape) (groups : List Mask) (figs : List Fig) (busy : Bool) (excluded : Mask)
    (stats : List Stats) (d : Decision) (s : ℕ)
    → MatchBool b (IsChoice shape groups figs busy excluded stats d) (d ≡ NotMine) → Pulls s d → IsOfLater groups s
by_test true shape groups figs busy excluded stats d s x p =
    by_busiest shape groups figs busy excluded stats x.busiest d s x.chosen x.answer p
by_test false shape groups figs busy excluded stats d s e p = absurd (let x = p.2 in let y : ⊥ = cc in y)

-- ---- it is of the machine, and not of the local group
abbrev pub DecisionLaw : Type 0
DecisionLaw = (shape : Shape) → (groups : List Mask) → (figs : List Fig) → (cpu : ℕ) → (kind : Kind) → (excluded : Mask)
    → IsDecision shape groups figs cpu kind excluded (decision shape groups figs cpu kind excluded)

-- what the laws of domains say of the turn's domains
pub record Laws : Type 0 where
  pub choice : DecisionLaw
  pub part : GroupsPart
  pub inside : LieInside

pub record IsElsewhere (h : Header) (c : Course) (s : ℕ) : Type 0 where
  pub declared : s < length h.cpus
  pub apart : has (group_at (turn_domain h c).groups 0) s ≡ false

pub source_elsewhere : (h : Header) (c : Course) (figs : List CpuFig) (s : ℕ) (k : MoveKind) (i : ℕ) → Laws
    → CanBeRead h.cpus h.distances → c.cpu < length h.cpus → c.position < length (turn_domains h c)
    → decides (turn_domain h c) c figs ≡ Pull s k i → IsElsewhere h c s
source_elsewhere h c figs s k i laws machine turned within pull =
    let d = turn_domain h c in
    let figures = by_cpu figs in
    let later = by_test (may_balance (turn_kind c) figures (group_at d.groups 0) c.cpu) d.shape d.groups figures
    (is_busy (turn_kind c) figures c.cpu) c.excluded (all_stats d.shape d.groups figures c.excluded) (decides d c figs) s
    (laws.choice d.shape d.groups figures c.cpu (turn_kind c) c.excluded) (k, i, pull) in
    let parts = laws.part h.cpus h.distances c.masks machine c.cpu turned c.position within in
    let span : has d.shape.span s ≡ true = parts.whole s ∙ some_has d.groups later.group s later.member in
    record {
      declared = (laws.inside h.cpus h.distances c.masks c.cpu c.position within).in_machine s span;
      apart = not_in_first d.groups later.group s parts.apart later.later later.small later.member;
    }

-- ---- no CPU of the local group is excluded
abbrev pub KeepsLocal : Domain → Mask → Type 0
KeepsLocal d excluded = (k : ℕ) → has (group_at d.groups 0) k ≡ true → has excluded k ≡ false

excluded_keeps : (b : Bool) (d : Domain) (x : Mask) (s : ℕ) → KeepsLocal d x → has (group_at d.groups 0) s ≡ false
    → KeepsLocal d (cond b (either x (only s)) x)
excluded_keeps false d x s keeps apart k here = keeps k here
excluded_keeps true d x s keeps apart k here = lacks_still x s k (keeps k here)
    (λ same. both_ways (has (group_at d.groups 0) k) (ap (has (group_at d.groups 0)) same ∙ apart) here)

pub excluding_keeps : (d : Domain) (c : Course) → KeepsLocal d c.excluded
    → has (group_at d.groups 0) (source_of c.decision) ≡ false → KeepsLocal d (excluding c)
excluding_keeps d c keeps apart = excluded_keeps (is_all_pinned c.taken) d c.excluded (source_of c.decision) keeps apart
