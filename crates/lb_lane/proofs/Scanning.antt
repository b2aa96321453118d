-- A scan over the figures that are due breaks no rule, and what the lane keeps stays.
-- For `Lane::scan` and `scan_at`.
use Rattle.std.proofs.Common.{ℕ, ◌≡◌, ◌-◌, ◌<◌, ◌≤◌, false, not, ◌||◌, List, [], Option, Some, None, ltb, length, map, refl, sym, subst, ap, arith, All}
use Rattle.std.specs.List.{list_any}
use base.Stored.{Coded}
use Rattle.logbook.specs.Pages.{Book}
use Rattle.atomic_table.specs.Seated.{TableId}
use Rattle.lb_base.specs.Mask.{members}
use Rattle.lb_domain.specs.Laws.{LieInside}
use Rattle.lb_trace.specs.declared.trace.Header.{Header}
use Rattle.lb_core.specs.declared.course.Course.{Course}
use Rattle.lb_core.specs.declared.course.Form.{Form}
use Rattle.lb_core.specs.declared.course.Form.TheVariants as forms
use Rattle.lb_core.specs.declared.entry.CpuFig.{CpuFig}
use Rattle.lb_core.specs.declared.entry.FigName.{FigName}
use Rattle.lb_core.specs.declared.entry.What.TheVariants.{Scan}
use Rattle.lb_core.specs.declared.rule.Rule.{Rule}
use Rattle.lb_core.specs.declared.rule.Rule.TheVariants.{Ticket, Prev, Stage, Row as RowRule, Place, Reply as ReplyRule, Version, Figure, Decision as DecisionRule, Pick, Flight, Counters as CountersRule, Owed, End}
use Rattle.lb_core.specs.Same.{same_numbers}
use Rattle.lb_core.proofs.Equality.{equal_itself, number_itself}
use Rattle.lb_core.specs.Course.{named_at, turn_domains}
use Rattle.lb_core.specs.CourseAfter.{course_after}
use Rattle.lb_core.specs.Stage.{stage_allows, draws}
use Rattle.lb_core.specs.Rules.{breaks_here, figures_due}
use Rattle.lb_core.specs.Machine.{no_queue}
use Rattle.lb_journal.specs.Journal.{Journal, names_of}
use Rattle.lb_board.specs.Board.{Sight, seen_at}
use Rattle.lb_cell.specs.Cells.{LaneIs as SideIs}
use Rattle.lb_cell.specs.Own.{sight_from, sight_own, entry_own, own_left}
use Rattle.lb_lane.specs.Lanes.{LaneIs, LaneKeeps, is_due}
use Rattle.lb_lane.specs.Figures.{AreOf}
use Rattle.lb_lane.specs.Scans.{ScanAsks, Scanned, MayScan, scanned_at, scan_of, target_among}
use Rattle.lb_lane.proofs.Drawing.{AddsTo}
use Rattle.lb_lane.proofs.Naming.{NamesLeft, names_add, names_right}

-- ---- the scan breaks no rule
allowed : (h : Header) (m : SideIs) (a b : Sight) (n : ℕ) (figs : List CpuFig) → m.course.form ≡ forms.ScanDue
    → ((k : ℕ) → k < n → named_at m.course k < length (seen_at a k)) → All (λ f. f.cpu < n) figs
    → AreOf a b (members (scanned_at h m.course)) figs → (rule : Rule)
    → breaks_here rule (sight_own h m [] figs) (entry_own m (scan_of figs)) ≡ false
unfolding stage_allows draws
allowed h m a b n figs due numbers inside are Stage =
    rw (equal_itself m.number)
    (subst (λ (f : Form). not (draws f h m.course no_queue m.number (scan_of figs)) ≡ false) (sym due) refl)
allowed h m a b n figs due numbers inside are Figure =
    subst
    (λ (f : Form).
    (not (same_numbers (map (λ x. x.cpu) (names_of figs)) (members (figures_due f (sight_own h m [] figs))))
    || list_any (λ x. ltb x.n (named_at m.course x.cpu)) (names_of figs)) ≡ false)
    (sym due) (names_right h m.course (scanned_at h m.course) a b n figs numbers inside are)
allowed h m a b n figs due numbers inside are DecisionRule = rw (number_itself (target_among figs)) refl
allowed h m a b n figs due numbers inside are Ticket = refl
allowed h m a b n figs due numbers inside are Prev = refl
allowed h m a b n figs due numbers inside are RowRule = refl
allowed h m a b n figs due numbers inside are Place = refl
allowed h m a b n figs due numbers inside are ReplyRule = refl
allowed h m a b n figs due numbers inside are Version = refl
allowed h m a b n figs due numbers inside are Pick = refl
allowed h m a b n figs due numbers inside are Flight = refl
allowed h m a b n figs due numbers inside are CountersRule = refl
allowed h m a b n figs due numbers inside are Owed = refl
allowed h m a b n figs due numbers inside are End = refl

-- as it is drawn, by a lane that has read
pub scan_allowed : (h : Header) (l m : SideIs) (a b : Sight) (n : ℕ) (names : List FigName) (target : Option ℕ)
    (figs : List CpuFig) → m.course ≡ l.course → l.course.form ≡ forms.ScanDue
    → ((k : ℕ) → k < n → named_at l.course k < length (seen_at a k)) → All (λ f. f.cpu < n) figs
    → AreOf a b (members (scanned_at h l.course)) figs → names ≡ names_of figs → target ≡ target_among figs → (rule : Rule)
    → breaks_here rule (sight_own h m [] figs) (entry_own m (Scan names target)) ≡ false
scan_allowed h l m a b n names target figs same due numbers inside are en et rule =
    subst (λ (t : Type 0). t)
    (λ i. breaks_here rule (sight_from h (sym same i) [] figs) (entry_own m (Scan (sym en i) (sym et i))) ≡ false)
    (allowed h (record m { course = l.course }) a b n figs due numbers inside are rule)

-- ---- what is kept
left_by : (h : Header) (l : SideIs) (target : Option ℕ) (figs : List CpuFig)
    → NamesLeft l.course (own_left h l (Scan (names_of figs) target) [] figs) figs
unfolding course_after
left_by h l None figs = (refl, refl, refl, refl, refl)
left_by h l (Some cpu) figs = (refl, refl, refl, refl, refl)

pub scan_adds : (h : Header) (board : List TableId) (versions : Book) (code : Coded Journal) (l : LaneIs) (side : SideIs)
    (target : Option ℕ) → LaneKeeps h board versions code l → l.side.course.form ≡ forms.ScanDue
    → length board ≤ length l.side.course.named → (x : Scanned h (length board) l.side side target)
    → AddsTo h code l (record l { side = side }) (scan_of x.drew.figs) [] x.drew.figs x.drew.ticket
scan_adds h board versions code l side target k due room x =
    let c = l.side.course in
    let figs = x.drew.figs in
    names_add h board versions code l side (scanned_at h c) scan_of k room x.drew
    (subst (λ (y : Course). NamesLeft c y figs) (sym x.drew.drew.course) (left_by h l.side (target_among figs) figs))
    (ap is_due due) refl tt refl

-- ---- a lane may scan where its turn's CPU has domains
pub may_scan : (h : Header) (board : List TableId) (versions : Book) (code : Coded Journal) (l : LaneIs)
    → LaneKeeps h board versions code l
    → length l.side.course.named ≡ length h.cpus → ScanAsks h l → LieInside → MayScan h (length board) l.side
may_scan h board versions code l k named asks inside =
    let c = l.side.course in
    let cells = k.cells in
    let some = asks.some in
    let lies = inside h.cpus h.distances c.masks c.cpu (length (turn_domains h c) - 1) (omega (arith, some)) in
    record {
      due = asks.due;
      inside = λ j has. let lt : j < length h.cpus = lies.in_machine j has in omega (arith, lt, cells);
      named = omega (arith, named, cells);
      numbers = λ j lt. k.numbers j (subst (λ n. j < n) cells lt);
    }
