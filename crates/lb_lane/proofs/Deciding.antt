-- A look over the figures that are due breaks no rule, and what the lane keeps stays.
-- For `Lane::look` and `look_at`.
use Rattle.std.proofs.Common.{ℕ, ◌≡◌, ◌<◌, ◌≤◌, true, false, List, [], None, length, refl, sym, subst, ap, ◌∙◌, arith, All}
use base.Stored.{Coded}
use Rattle.logbook.specs.Pages.{Book}
use Rattle.atomic_table.specs.Seated.{TableId}
use Rattle.lb_base.specs.declared.mask.Mask.{Mask}
use Rattle.lb_domain.specs.declared.domain.Domain.{Domain}
use Rattle.lb_domain.specs.Domains.{domains_of, domain_at}
use Rattle.lb_domain.specs.Parted.{IsParted}
use Rattle.lb_domain.specs.Laws.{GroupsPart, LieInside}
use Rattle.lb_base.specs.Mask.{members, without}
use Rattle.lb_imbalance.specs.declared.decision.Decision.{Decision}
use Rattle.lb_trace.specs.declared.trace.Header.{Header}
use Rattle.lb_core.specs.declared.course.Course.{Course}
use Rattle.lb_core.specs.declared.course.Form.{Form}
use Rattle.lb_core.specs.declared.course.Form.TheVariants as forms
use Rattle.lb_core.specs.declared.entry.CpuFig.{CpuFig}
use Rattle.lb_core.specs.declared.entry.FigName.{FigName}
use Rattle.lb_core.specs.declared.entry.What.TheVariants.{Look}
use Rattle.lb_core.specs.declared.rule.Rule.{Rule}
use Rattle.lb_core.specs.declared.rule.Rule.TheVariants.{Ticket, Prev, Stage, Row as RowRule, Place, Reply as ReplyRule, Version, Figure, Decision as DecisionRule, Pick, Flight, Counters as CountersRule, Owed, End}
use Rattle.lb_core.specs.Course.{named_at, turn_domain, turn_domains}
use Rattle.lb_core.specs.CourseAfter.{course_after}
use Rattle.lb_core.specs.Stage.{stage_allows, draws}
use Rattle.lb_core.specs.Rules.{breaks_here, figures_due}
use Rattle.lb_core.specs.Sight.{Sight as StepSight}
use Rattle.lb_core.specs.Machine.{no_queue}
use Rattle.lb_journal.specs.Journal.{Journal, names_of}
use Rattle.lb_board.specs.Board.{Sight, seen_at}
use Rattle.lb_cell.specs.Cells.{LaneIs as SideIs}
use Rattle.lb_cell.specs.Own.{OwnAsks, sight_from, sight_own, entry_own, own_left}
use Rattle.lb_lane.specs.Lanes.{LaneIs, LaneKeeps, is_due}
use Rattle.lb_lane.specs.Figures.{AreOf}
use Rattle.lb_lane.specs.Looks.{LookAsks, Looked, MayLook, look_due, look_of, looked_at, decides}
use Rattle.lb_lane.proofs.Drawing.{AddsTo}
use Rattle.lb_lane.proofs.Naming.{NamesLeft, names_add, names_inside, names_right}
use Rattle.lb_core.proofs.Equality.{equal_itself, decision_itself}

-- the figures of the position in work are due
due_is : (form : Form) (h : Header) (course : Course) (s : StepSight) → look_due form h course ≡ true
    → figures_due form s ≡ without (turn_domain s.header s.course).shape.span s.course.excluded
due_is forms.Position h course s e = refl
due_is forms.Landed h course s e = refl
due_is forms.Rest h course s e = absurd (cc e)
due_is forms.Asked h course s e = absurd (cc e)
due_is forms.Flight h course s e = absurd (cc e)
due_is forms.Serving h course s e = absurd (cc e)
due_is forms.Due h course s e = absurd (cc e)
due_is forms.Used h course s e = absurd (cc e)
due_is forms.Looked h course s e = absurd (cc e)
due_is forms.Closed h course s e = absurd (cc e)
due_is forms.Done h course s e = absurd (cc e)
due_is forms.ScanDue h course s e = absurd (cc e)
due_is forms.Kicking h course s e = absurd (cc e)
due_is forms.Ended h course s e = absurd (cc e)

-- and the lane may look
draws_look : (form : Form) (h : Header) (course : Course) (lane p : ℕ) (x : Mask) (names : List FigName) (d : Decision)
    → look_due form h course ≡ true → draws form h course no_queue lane (Look p x names d) ≡ true
unfolding draws
draws_look forms.Position h course lane p x names d e = refl
draws_look forms.Landed h course lane p x names d e = e
draws_look forms.Rest h course lane p x names d e = absurd (cc e)
draws_look forms.Asked h course lane p x names d e = absurd (cc e)
draws_look forms.Flight h course lane p x names d e = absurd (cc e)
draws_look forms.Serving h course lane p x names d e = absurd (cc e)
draws_look forms.Due h course lane p x names d e = absurd (cc e)
draws_look forms.Used h course lane p x names d e = absurd (cc e)
draws_look forms.Looked h course lane p x names d e = absurd (cc e)
draws_look forms.Closed h course lane p x names d e = absurd (cc e)
draws_look forms.Done h course lane p x names d e = absurd (cc e)
draws_look forms.ScanDue h course lane p x names d e = absurd (cc e)
draws_look forms.Kicking h course lane p x names d e = absurd (cc e)
draws_look forms.Ended h course lane p x names d e = absurd (cc e)

pub look_not_due : (form : Form) (h : Header) (course : Course) → look_due form h course ≡ true → is_due form ≡ false
look_not_due forms.Rest h course e = refl
look_not_due forms.Position h course e = refl
look_not_due forms.Landed h course e = refl
look_not_due forms.Asked h course e = refl
look_not_due forms.Flight h course e = refl
look_not_due forms.Serving h course e = refl
look_not_due forms.Due h course e = absurd (cc e)
look_not_due forms.Used h course e = refl
look_not_due forms.Looked h course e = refl
look_not_due forms.Closed h course e = refl
look_not_due forms.Done h course e = refl
look_not_due forms.ScanDue h course e = refl
look_not_due forms.Kicking h course e = refl
look_not_due forms.Ended h course e = refl

-- ---- the look breaks no rule
allowed : (h : Header) (m : SideIs) (a b : Sight) (n : ℕ) (figs : List CpuFig) → look_due m.course.form h m.course ≡ true
    → ((k : ℕ) → k < n → named_at m.course k < length (seen_at a k)) → All (λ f. f.cpu < n) figs
    → AreOf a b (members (looked_at (turn_domain h m.course) m.course)) figs → (rule : Rule)
    → breaks_here rule (sight_own h m [] figs) (entry_own m (look_of (turn_domain h m.course) m.course figs)) ≡ false
unfolding stage_allows
allowed h m a b n figs due numbers inside are Stage =
    rw (equal_itself m.number)
    (rw (draws_look m.course.form h m.course m.number m.course.position m.course.excluded (names_of figs)
    (decides (turn_domain h m.course) m.course figs) due) refl)
allowed h m a b n figs due numbers inside are Figure =
    rw (due_is m.course.form h m.course (sight_own h m [] figs) due)
    (names_right h m.course (looked_at (turn_domain h m.course) m.course) a b n figs numbers inside are)
allowed h m a b n figs due numbers inside are DecisionRule =
    rw (equal_itself m.course.position)
    (rw (equal_itself m.course.excluded.bits) (rw (decision_itself (decides (turn_domain h m.course) m.course figs)) refl))
allowed h m a b n figs due numbers inside are Ticket = refl
allowed h m a b n figs due numbers inside are Prev = refl
allowed h m a b n figs due numbers inside are RowRule = refl
allowed h m a b n figs due numbers inside are Place = refl
allowed h m a b n figs due numbers inside are ReplyRule = refl
allowed h m a b n figs due numbers inside are Version = refl
allowed h m a b n figs due numbers inside are Pick = refl
allowed h m a b n figs due numbers inside are Flight = refl
allowed h m a b n figs due numbers inside are CountersRule = refl
allowed h m a b n figs due numbers inside are Owed = refl
allowed h m a b n figs due numbers inside are End = refl

-- as it is drawn, by a lane that has read and marked
pub look_allowed : (h : Header) (l m : SideIs) (a b : Sight) (n : ℕ) (names : List FigName) (d : Decision)
    (figs : List CpuFig) → m.course ≡ l.course → look_due l.course.form h l.course ≡ true
    → ((k : ℕ) → k < n → named_at l.course k < length (seen_at a k)) → All (λ f. f.cpu < n) figs
    → AreOf a b (members (looked_at (turn_domain h l.course) l.course)) figs → names ≡ names_of figs
    → d ≡ decides (turn_domain h l.course) l.course figs → (rule : Rule)
    → breaks_here rule (sight_own h m [] figs) (entry_own m (Look m.course.position m.course.excluded names d)) ≡ false
look_allowed h l m a b n names d figs same due numbers inside are en ed rule =
    subst (λ (t : Type 0). t)
    (λ i. breaks_here rule (sight_from h (sym same i) [] figs)
    (entry_own m (Look (sym same i).position (sym same i).excluded (sym en i) (sym ed i))) ≡ false)
    (allowed h (record m { course = l.course }) a b n figs due numbers inside are rule)

pub look_asks : (l m : SideIs) (n : ℕ) (names : List FigName) (d : Decision) (p : ℕ) (x : Mask) (figs : List CpuFig)
    → m.course ≡ l.course → n ≤ 64 → l.course.cpu < n → n ≤ length l.course.named → All (λ f. f.cpu < n) figs
    → names ≡ names_of figs → OwnAsks (Look p x names d) m.course None
look_asks l m n names d p x figs same few cpu named inside en = (
  subst (λ (c : Course). c.cpu < 64) (sym same) (omega (arith, few, cpu)),
  subst (λ (t : Type 0). t) (λ i. All (λ f. f.cpu < length (sym same i).named) (sym en i))
      (names_inside n l.course.named figs named inside),
)

-- ---- what is kept
look_left : (h : Header) (l : SideIs) (domain : Domain) (figs : List CpuFig)
    → NamesLeft l.course (own_left h l (look_of domain l.course figs) [] figs) figs
unfolding course_after
look_left h l domain figs = (refl, refl, refl, refl, refl)

pub look_adds : (h : Header) (board : List TableId) (versions : Book) (code : Coded Journal) (l : LaneIs) (side : SideIs)
    (d : Decision) → LaneKeeps h board versions code l → LookAsks h l → length board ≤ length l.side.course.named
    → (x : Looked h (length board) l.side side d)
    → AddsTo h code l (record l { side = side }) (look_of (turn_domain h l.side.course) l.side.course x.drew.figs) [] x.drew.figs
    x.drew.ticket
look_adds h board versions code l side d k asks room x =
    let c = l.side.course in
    let domain = turn_domain h c in
    let figs = x.drew.figs in
    names_add h board versions code l side (looked_at domain c) (look_of domain c) k room x.drew
    (subst (λ (y : Course). NamesLeft c y figs) (sym x.drew.drew.course) (look_left h l.side domain figs))
    (look_not_due c.form h c asks.due) refl tt refl

-- ---- a lane may look where its domains were copied
pub may_look : (h : Header) (board : List TableId) (versions : Book) (code : Coded Journal) (l : LaneIs)
    → LaneKeeps h board versions code l
    → length l.side.course.named ≡ length h.cpus → LookAsks h l → GroupsPart → LieInside → MayLook h (length board) l.side
may_look h board versions code l k named asks part inside =
    let c = l.side.course in
    let d = turn_domain h c in
    let cells = k.cells in
    let turned : l.turned ≡ c.cpu = k.turns (look_not_due c.form h c asks.due) in
    let within : c.cpu < length h.cpus = subst (λ n. n < length h.cpus) turned k.turned in
    let parts : IsParted c.cpu d = part h.cpus h.distances c.masks k.machine c.cpu within c.position asks.position in
    let lies = inside h.cpus h.distances c.masks c.cpu c.position asks.position in
    let few_cpus = k.machine.few in
    let copied : l.domains ≡ turn_domains h c = k.domains ∙ ap (domains_of h.cpus h.distances c.masks) turned in
    record {
      due = asks.due;
      domain = record {
        few =
            subst (λ (ds : List Domain). length (domain_at ds c.position).groups ≤ 64) copied
            (k.few.groups c.position (subst (λ (ds : List Domain). c.position < length ds) (sym copied) asks.position));
        union = parts.whole;
        local = parts.own;
        kept = asks.kept;
        inside = λ j has. let lt : j < length h.cpus = lies.in_machine j has in omega (arith, lt, cells);
        machine = omega (arith, few_cpus, cells);
        cpu = omega (arith, within, cells);
      };
      named = omega (arith, named, cells);
      numbers = λ j lt. k.numbers j (subst (λ n. j < n) cells lt);
    }
