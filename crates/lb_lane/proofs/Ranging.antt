-- The CPU of a turn, the position in work and the source of a pull stay in range, whatever entry of its own a lane draws.
-- For `Lane::row`, `Lane::adopt`, `look_at` and `scan_at`.
use Rattle.std.proofs.Common.{ℕ, ◌≡◌, ◌<◌, Bool, true, false, List, Option, Some, None, sym, subst, arith}
use Rattle.std.specs.Prelude.{MatchBool}
use Rattle.lb_base.specs.declared.mask.Mask.{Mask}
use Rattle.lb_base.specs.declared.mask.TheConstants.{MAX_CPUS}
use Rattle.lb_base.specs.declared.figure.Fig.{Fig}
use Rattle.lb_base.specs.declared.group.Stats.{Stats}
use Rattle.lb_base.specs.declared.shape.Kind.{Kind}
use Rattle.lb_base.specs.declared.shape.Shape.{Shape}
use Rattle.lb_base.specs.Greatest.{Picks}
use Rattle.lb_base.specs.Mask.{without}
use Rattle.lb_busiest.specs.Ranking.{stats_at}
use Rattle.lb_imbalance.specs.declared.decision.Decision.{Decision}
use Rattle.lb_imbalance.specs.declared.decision.Decision.TheVariants.{NotMine, Balanced}
use Rattle.lb_imbalance.specs.declared.imbalance.Imbalance.{Imbalance}
use Rattle.lb_imbalance.specs.Choice.{IsPullFrom, IsPull, EvensOut, FollowsBusiest, IsChoice, IsDecision}
use Rattle.lb_imbalance.specs.Decision.{decision, group_at, all_stats, domain_average}
use Rattle.lb_imbalance.specs.Balance.{is_level}
use Rattle.lb_imbalance.specs.Amount.{imbalance_of}
use Rattle.lb_imbalance.specs.Destination.{is_busy, may_balance}
use Rattle.lb_domain.specs.declared.domain.Domain.{Domain}
use Rattle.lb_trace.specs.declared.trace.Command.{Command}
use Rattle.lb_trace.specs.declared.trace.Header.{Header}
use Rattle.lb_core.specs.declared.course.Course.{Course}
use Rattle.lb_core.specs.declared.entry.CpuFig.{CpuFig}
use Rattle.lb_core.specs.declared.entry.FigName.{FigName}
use Rattle.lb_core.specs.declared.entry.What.TheVariants.{Row, Adopt, Look, Scan}
use Rattle.lb_core.specs.Course.{source_of, turn_kind}
use Rattle.lb_core.specs.Sight.{by_cpu}
use Rattle.lb_core.specs.CourseAfter.{course_after}
use Rattle.lb_cell.specs.Cells.{LaneIs as SideIs, IsInRange}
use Rattle.lb_cell.specs.Own.{own_left}
use Rattle.lb_lane.specs.Looks.{decides}

-- ---- the source of a decision
abbrev IsBelow : Decision → Type 0
IsBelow d = source_of (Some d) < MAX_CPUS

none_below : (d : Decision) → d ≡ Balanced → IsBelow d
none_below d e = subst IsBelow (sym e) (omega arith)

pull_below : (p : ℕ → Bool) (above : ℕ → ℕ → Bool) (i : Imbalance) (o : Option ℕ) (d : Decision) → Picks p above MAX_CPUS o
    → IsPullFrom i o d → IsBelow d
pull_below p above i None d found e = none_below d e
pull_below p above i (Some cpu) d found e = subst IsBelow (sym e) found.within

by_test : (b : Bool) (A B C : Type 0) → (A → C) → (B → C) → MatchBool b A B → C
by_test true A B C f g h = f h
by_test false A B C f g h = g h

evens_below : (figs : List Fig) (group : Mask) (i : Imbalance) (d : Decision) → EvensOut figs group i d → IsBelow d
evens_below figs group i d h =
    by_test _ (d ≡ Balanced) (IsPull figs group i d) (IsBelow d) (none_below d)
    (λ (p : IsPull figs group i d). pull_below _ _ i p.source d p.chosen p.answer) h

busiest_below : (shape : Shape) (groups : List Mask) (figs : List Fig) (busy : Bool) (excluded : Mask) (stats : List Stats)
    (o : Option ℕ) (d : Decision) → FollowsBusiest shape groups figs busy excluded stats o d → IsBelow d
busiest_below shape groups figs busy excluded stats None d h = none_below d h
busiest_below shape groups figs busy excluded stats (Some b) d h =
    let average = domain_average stats in
    let local = stats_at stats 0 in
    let busiest = stats_at stats b in
    let group = without (group_at groups b) excluded in
    let amount = imbalance_of shape busy average local busiest in
    by_test (is_level shape busy average local busiest) (d ≡ Balanced) (EvensOut figs group amount d) (IsBelow d)
    (none_below d) (evens_below figs group amount d) h

decision_below : (shape : Shape) (groups : List Mask) (figs : List Fig) (cpu : ℕ) (kind : Kind) (excluded : Mask) (d : Decision)
    → IsDecision shape groups figs cpu kind excluded d → IsBelow d
decision_below shape groups figs cpu kind excluded d h =
    let busy = is_busy kind figs cpu in
    let stats = all_stats shape groups figs excluded in
    by_test (may_balance kind figs (group_at groups 0) cpu) (IsChoice shape groups figs busy excluded stats d)
    (d ≡ NotMine) (IsBelow d)
    (λ (c : IsChoice shape groups figs busy excluded stats d).
    busiest_below shape groups figs busy excluded stats c.busiest d c.answer)
    (λ e. subst IsBelow (sym e) (omega arith)) h

-- that each decision is the choice
abbrev pub IsTheChoice : Type 0
IsTheChoice =
    (shape : Shape) (groups : List Mask) (figs : List Fig) (cpu : ℕ) (kind : Kind) (excluded : Mask)
    → IsDecision shape groups figs cpu kind excluded (decision shape groups figs cpu kind excluded)

-- ---- what an entry leaves
pub row_in_range : (h : Header) (l : SideIs) (n at : ℕ) (command : Command) (masks : List Mask) (figs : List CpuFig)
    → IsInRange l.course → IsInRange (own_left h l (Row n at command) masks figs)
unfolding course_after
row_in_range h l n at command masks figs r = record { cpu = r.cpu; position = r.position; source = r.source }

pub use_in_range : (h : Header) (l : SideIs) (v : ℕ) (kind : Kind) (cpu : ℕ) (masks : List Mask) (figs : List CpuFig)
    → IsInRange l.course → cpu < MAX_CPUS → IsInRange (own_left h l (Adopt v kind cpu) masks figs)
unfolding course_after
use_in_range h l v kind cpu masks figs r below = record { cpu = below; position = r.position; source = r.source }

pub look_in_range : (h : Header) (l : SideIs) (p : ℕ) (x : Mask) (names : List FigName) (d : Decision) (masks : List Mask)
    (figs : List CpuFig) (domain : Domain) (course : Course) → IsTheChoice → d ≡ decides domain course figs → IsInRange l.course
    → IsInRange (own_left h l (Look p x names d) masks figs)
unfolding course_after
look_in_range h l p x names d masks figs domain course choice is r =
    record {
      cpu = r.cpu;
      position = r.position;
      source = subst IsBelow (sym is)
          (decision_below domain.shape domain.groups (by_cpu figs) course.cpu (turn_kind course) course.excluded _
          (choice domain.shape domain.groups (by_cpu figs) course.cpu (turn_kind course) course.excluded));
    }

pub scan_in_range : (h : Header) (l : SideIs) (names : List FigName) (target : Option ℕ) (masks : List Mask) (figs : List CpuFig)
    → IsInRange l.course → IsInRange (own_left h l (Scan names target) masks figs)
unfolding course_after
scan_in_range h l names None masks figs r = record { cpu = r.cpu; position = r.position; source = omega arith }
scan_in_range h l names (Some cpu) masks figs r = record { cpu = r.cpu; position = r.position; source = r.source }
