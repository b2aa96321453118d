-- An attempt of a lane: what its look, its pull and its landing leave of the course, and that a further look may be drawn.
-- For `attempt`.
use Rattle.std.proofs.Common.{ℕ, ◌≡◌, ◌<◌, true, false, List, Option, Some, length, refl, sym, ◌∙◌, ap, subst}
use base.Stored.{Coded}
use Rattle.logbook.specs.Pages.{Book}
use Rattle.atomic_table.specs.Seated.{TableId}
use Rattle.lb_base.specs.declared.view.MoveKind.{MoveKind}
use Rattle.lb_base.specs.Mask.{has}
use Rattle.lb_domain.specs.declared.domain.Domain.{Domain}
use Rattle.lb_imbalance.specs.declared.decision.Decision.{Decision}
use Rattle.lb_imbalance.specs.declared.decision.Decision.TheVariants.{Pull}
use Rattle.lb_imbalance.specs.Decision.{group_at}
use Rattle.lb_queue.specs.Hands.{HandState}
use Rattle.lb_trace.specs.declared.trace.Header.{Header}
use Rattle.lb_core.specs.declared.course.Course.{Course}
use Rattle.lb_core.specs.declared.course.Form.{Form}
use Rattle.lb_core.specs.declared.course.Form.TheVariants as forms
use Rattle.lb_core.specs.Course.{domain_at, is_pull, source_of, turn_domain, turn_domains}
use Rattle.lb_core.specs.CourseAfter.{excluding}
use Rattle.lb_journal.specs.Journal.{Journal}
use Rattle.lb_lane.specs.Lanes.{LaneIs, LaneKeeps, is_due}
use Rattle.lb_lane.specs.Looks.{LaneLooked, LookAsks, look_due}
use Rattle.lb_lane_laws.specs.Stays.{SameRows, SameTurn}
use Rattle.lb_lane_laws.proofs.Courses.{LandLeft, PullLeft, land_left, pull_left}
use Rattle.lb_lane_laws.proofs.Lanes.{lane_look_left, look_rows, rows_still, there_course, there_rows, turn_rows}
use Rattle.lb_lane_laws.proofs.Sources.{IsElsewhere, KeepsLocal, Laws, excluding_keeps, source_elsewhere}
use Rattle.lb_pass.specs.Passes.{AsksFurther, Attempted, Carries, HasSource, PullIsDue, Pulled}

-- ---- where the lane is in a turn
not_due : (form : Form) (h : Header) (c : Course) → look_due form h c ≡ true → is_due form ≡ false
not_due forms.Due h c e = absurd (let y : ⊥ = cc in y)
not_due form h c e = refl

-- the turn's CPU is one of the machine
turned : (h : Header) (board : List TableId) (versions : Book) (code : Coded Journal) (l : LaneIs)
    → LaneKeeps h board versions code l → LookAsks h l → l.side.course.cpu < length h.cpus
turned h board versions code l k asks =
    subst (λ (n : ℕ). n < length h.cpus) (k.turns (not_due l.side.course.form h l.side.course asks.due)) k.turned

-- a turn that stays has the same domains
pub same_domains : (h : Header) (c c' : Course) → SameTurn c c' → turn_domains h c' ≡ turn_domains h c
same_domains h c c' same = ap (turn_domains h) same

pub same_domain : (h : Header) (c c' : Course) → SameTurn c c' → c'.position ≡ c.position → turn_domain h c' ≡ turn_domain h c
same_domain h c c' same at =
    ap (λ (ds : List Domain). domain_at ds c'.position) (same_domains h c c' same) ∙ ap (domain_at (turn_domains h c)) at

pub still_within : (h : Header) (c c' : Course) → SameTurn c c' → c'.position ≡ c.position
    → c.position < length (turn_domains h c) → c'.position < length (turn_domains h c')
still_within h c c' same at within =
    subst (λ (ds : List Domain). c'.position < length ds) (sym (same_domains h c c' same))
    (subst (λ (n : ℕ). n < length (turn_domains h c)) (sym at) within)

-- ---- the pull that is due after a look
-- its source is a CPU of the machine that is not of the local group
pub elsewhere : (h : Header) (board : List TableId) (versions : Book) (code : Coded Journal) (n : ℕ) (l l' : LaneIs)
    (d : Decision) (s : ℕ) (k : MoveKind) (i : ℕ) → Laws → LaneKeeps h board versions code l → LookAsks h l
    → LaneLooked h n l l' d → d ≡ Pull s k i → IsElsewhere h l.side.course s
elsewhere h board versions code n l l' d s k i laws keeps asks x is =
    source_elsewhere h l.side.course x.looked.drew.figs s k i laws keeps.machine (turned h board versions code l keeps asks)
    asks.position (sym x.looked.answer ∙ is)

pub pull_due : (h : Header) (board : List TableId) (versions : Book) (code : Coded Journal) (n : ℕ) (l l' : LaneIs)
    (d : Decision) (s : ℕ) (k : MoveKind) (i : ℕ) → Laws → LaneKeeps h board versions code l → LookAsks h l
    → LaneLooked h n l l' d → d ≡ Pull s k i → PullIsDue h l'.side.course s k i
pull_due h board versions code n l l' d s k i laws keeps asks x is =
    let left = lane_look_left h n l l' d x in
    record {
      form = left.form;
      decision = left.decision ∙ ap (λ (y : Decision). Some y) is;
      declared = (elsewhere h board versions code n l l' d s k i laws keeps asks x is).declared;
      position = still_within h l.side.course l'.side.course left.turn left.position_is asks.position;
    }

-- ---- what an attempt leaves
pub record AttemptLeft (d : Decision) (l l' : LaneIs) : Type 0 where
  pub form : l'.side.course.form ≡ forms.Landed
  pub position_is : l'.side.course.position ≡ l.side.course.position
  pub turn : SameTurn l.side.course l'.side.course
  pub rows : SameRows l l'
  -- a course with the same excluded CPUs, and the decision, of which the source may be excluded
  pub before : Course
  pub excluded : before.excluded ≡ l.side.course.excluded
  pub decision : before.decision ≡ Some d
  pub excluding_is : l'.side.course.excluded ≡ excluding before
  pub decision_is : l'.side.course.decision ≡ Some d

-- the `out`
carries_left : (h : Header) (book : TableId) (board : List TableId) (code : Coded Journal) (l l' : LaneIs) (s : ℕ)
    (hand : HandState) → l.side.course.form ≡ forms.Looked → Carries h book board code l l' s hand
    → PullLeft l.side.course l'.side.course
carries_left h book board code l l' s hand form x =
    subst (PullLeft l.side.course) (sym (there_course h book board code l l' s _ x.took.there))
    (pull_left h x.took.there.before l.side x.env hand.to _ form x.asked)

pub attempt_left : (h : Header) (book : TableId) (board : List TableId) (code : Coded Journal) (l l' : LaneIs)
    → (x : Attempted h book board code l l') → AttemptLeft x.decision l l'
attempt_left h book board code l l' x =
    let looked = lane_look_left h (length board) l x.looked x.decision x.look in
    let mid = x.pulled.mid in
    let pulled = carries_left h book board code x.looked mid (source_of (Some x.decision)) x.pulled.hand looked.form
    x.pulled.carries in
    let to = mid.side.course.to in
    let landed : LandLeft mid.side.course l'.side.course =
    subst (LandLeft mid.side.course) (sym (there_course h book board code mid l' to _ x.pulled.landed))
    (land_left h x.pulled.landed.before mid.side _ x.pulled.carries.took.flies.cause_is) in
    record {
      form = landed.form;
      position_is = landed.position_is ∙ pulled.position_is ∙ looked.position_is;
      turn = landed.turn ∙ pulled.turn ∙ looked.turn;
      rows = rows_still l x.looked l' (look_rows h (length board) l x.looked x.decision x.look)
          (rows_still x.looked mid l'
          (there_rows h book board code x.looked mid (source_of (Some x.decision)) _ x.pulled.carries.took.there
          (turn_rows x.looked.side.course mid.side.course pulled.turn))
          (there_rows h book board code mid l' to _ x.pulled.landed (turn_rows mid.side.course l'.side.course landed.turn)));
      before = mid.side.course;
      excluded = pulled.excluded ∙ looked.excluded;
      decision = pulled.decision ∙ looked.decision;
      excluding_is = landed.excluded;
      decision_is = landed.decision ∙ pulled.decision ∙ looked.decision;
    }

-- ---- a further look
-- it may be drawn, where it is due
look_again : (h : Header) (l l' : LaneIs) (d : Decision) → LookAsks h l
    → has (group_at (turn_domain h l.side.course).groups 0) (source_of (Some d)) ≡ false → AttemptLeft d l l' → AsksFurther h l'
look_again h l l' d asks apart left form again =
    let c = l.side.course in
    let c' = l'.side.course in
    let same = same_domain h c c' left.turn left.position_is in
    let keeps : KeepsLocal (turn_domain h c) left.before.excluded =
    subst (KeepsLocal (turn_domain h c)) (sym left.excluded) asks.kept in
    let off : has (group_at (turn_domain h c).groups 0) (source_of left.before.decision) ≡ false =
    ap (λ (o : Option Decision). has (group_at (turn_domain h c).groups 0) (source_of o)) left.decision ∙ apart in
    let after = excluding_keeps (turn_domain h c) left.before keeps off in
    record {
      due = rw form again;
      position = still_within h c c' left.turn left.position_is asks.position;
      kept = subst (λ (e : Domain). KeepsLocal e c'.excluded) (sym same)
          (subst (KeepsLocal (turn_domain h c)) (sym left.excluding_is) after);
    }

pub asks_further : (h : Header) (book : TableId) (board : List TableId) (versions : Book) (code : Coded Journal) (l l' : LaneIs)
    (d : Decision) (s : ℕ) (k : MoveKind) (i : ℕ) → Laws → LaneKeeps h board versions code l → LookAsks h l
    → (x : Attempted h book board code l l') → x.decision ≡ d → d ≡ Pull s k i → AsksFurther h l'
asks_further h book board versions code l l' d s k i laws keeps asks x same is =
    let away = (elsewhere h board versions code (length board) l x.looked x.decision s k i laws keeps asks x.look
    (same ∙ is)).apart in
    look_again h l l' x.decision asks
    (ap (λ (e : Decision). has (group_at (turn_domain h l.side.course).groups 0) (source_of (Some e))) (same ∙ is) ∙ away)
    (attempt_left h book board code l l' x)

-- so after a look that decided to pull, and the pull
abbrev pub attempted : (h : Header) (book : TableId) (board : List TableId) (code : Coded Journal) (l m l' : LaneIs)
    (d : Decision)
    (s : ℕ) (k : MoveKind) (i : ℕ) → LaneLooked h (length board) l m d → d ≡ Pull s k i → Pulled h book board code m l' s
    → Attempted h book board code l l'
attempted h book board code l m l' d s k i x is p = record {
  looked = m;
  decision = d;
  look = x;
  pull = ap (λ (y : Decision). is_pull (Some y)) is;
  pulled = subst (Pulled h book board code m l') (ap (λ (y : Decision). source_of (Some y)) (sym is)) p;
}

pub further_after : (h : Header) (book : TableId) (board : List TableId) (versions : Book) (code : Coded Journal)
    (l m l' : LaneIs) (d : Decision) (s : ℕ) (k : MoveKind) (i : ℕ) → Laws → LaneKeeps h board versions code l → LookAsks h l
    → LaneLooked h (length board) l m d → d ≡ Pull s k i → Pulled h book board code m l' s → AsksFurther h l'
further_after h book board versions code l m l' d s k i laws keeps asks x is p =
    asks_further h book board versions code l l' d s k i laws keeps asks (attempted h book board code l m l' d s k i x is p)
    refl is

pub source_after : (h : Header) (book : TableId) (board : List TableId) (code : Coded Journal) (l m l' : LaneIs) (d : Decision)
    (s : ℕ) (k : MoveKind) (i : ℕ) → s < length h.cpus → LaneLooked h (length board) l m d → d ≡ Pull s k i
    → Pulled h book board code m l' s → HasSource h l'
source_after h book board code l m l' d s k i lt x is p =
    let left = attempt_left h book board code l l' (attempted h book board code l m l' d s k i x is p) in
    subst (λ (n : ℕ). n < length h.cpus)
    (sym (ap source_of left.decision_is ∙ ap (λ (y : Decision). source_of (Some y)) is)) lt
