-- Where the looks of a position have ended, its `close` may be drawn, and the position is done.
-- For `pass`.
use Rattle.std.proofs.Common.{ℕ, ◌≡◌, ◌<◌, true, false, List, Option, Some, length, refl, sym, ◌∙◌, ap, subst, inl, inr}
use Rattle.std.specs.Prelude.{unwrap_or}
use base.Stored.{Coded}
use Rattle.logbook.specs.Pages.{Book}
use Rattle.atomic_table.specs.Seated.{TableId}
use Rattle.lb_base.specs.declared.shape.Kind.{Kind}
use Rattle.lb_base.specs.declared.mask.Mask.{Mask}
use Rattle.lb_base.specs.Mask.{has, no_cpus}
use Rattle.lb_imbalance.specs.declared.decision.Decision.{Decision}
use Rattle.lb_imbalance.specs.declared.decision.Decision.TheVariants.{NotMine, Balanced, Pull}
use Rattle.lb_interval.specs.declared.Outcome.{Outcome}
use Rattle.lb_interval.specs.declared.Outcome.TheVariants as ends
use Rattle.lb_trace.specs.declared.trace.Header.{Header}
use Rattle.lb_core.specs.declared.course.Course.{Course}
use Rattle.lb_core.specs.declared.course.Form.{Form}
use Rattle.lb_core.specs.declared.course.Form.TheVariants as forms
use Rattle.lb_core.specs.Course.{is_pull, looks_again, outcome_of, source_of, turn_domains, turn_kind}
use Rattle.lb_core.specs.Placed.{is_flight}
use Rattle.lb_core.specs.Stage.{is_settled, queue_due}
use Rattle.lb_journal.specs.Journal.{Journal}
use Rattle.lb_cell.specs.Draws.{course_left}
use Rattle.lb_cell.specs.Turns.{CanClose, IsPositionDone}
use Rattle.lb_lane.specs.Lanes.{LaneIs, LaneKeeps, is_due}
use Rattle.lb_lane.specs.Looks.{LookAsks}
use Rattle.lb_lane_laws.specs.Stays.{ComesTo, SameRows, SameTurn, next_position}
use Rattle.lb_lane_laws.proofs.Courses.{CloseLeaves, CloseLeft, close_left}
use Rattle.lb_lane_laws.proofs.Lanes.{lane_look_left, rows_still, there_course, there_rows, turn_rows}
use Rattle.lb_lane_laws.proofs.Masks.{none_has}
use Rattle.lb_cpu.specs.Turns.{ClosedThere, IsDue, due_at}
use Rattle.lb_pass.specs.Passes.{GoesOnAfter, HasSource, LooksEnd, PassAsks, Passed, Settled, Stays, Stopped}
use Rattle.lb_pass.proofs.Attempting.{still_within}
use Rattle.lb_pass.proofs.Settling.{same_rest, unmoved}

-- ---- the first look
-- nothing is excluded where a position begins anew
pub first_look : (h : Header) (l : LaneIs) (cpu p : ℕ) (kind : Kind) → PassAsks h l cpu p kind → LookAsks h l
first_look h l cpu p kind asks =
    let c = l.side.course in
    let none : no_cpus ≡ c.excluded = ap (λ (x : Course). x.excluded) asks.begins.anew in
    record {
      due = rw asks.begins.form refl;
      position = subst (λ (n : ℕ). n < length (turn_domains h c)) (sym asks.begins.position_is) asks.within;
      kept = λ k here. subst (λ (m : Mask). has m k ≡ false) none (none_has k);
    }

-- ---- where the looks have ended
-- the position is done, and the queue that is due is that of the turn's CPU
pub record IsDone (h : Header) (c : Course) : Type 0 where
  pub done : IsPositionDone c.form h c
  pub here : queue_due c.form c ≡ Some c.cpu
  pub empty_handed : is_flight c.form ≡ false
  pub turns : is_due c.form ≡ false

settles : (d : Decision) → is_pull (Some d) ≡ false → is_settled (Some d) ≡ true
settles NotMine e = refl
settles Balanced e = refl
settles (Pull s k i) e = absurd (let y : ⊥ = cc in y)

-- by its form
done_by : (h : Header) (c : Course) (f : Form) → c.form ≡ f → IsPositionDone f h c → queue_due f c ≡ Some c.cpu
    → is_flight f ≡ false → is_due f ≡ false → IsDone h c
done_by h c f form done here empty_handed turns = record {
  done = subst (λ (x : Form). IsPositionDone x h c) (sym form) done;
  here = ap (λ (x : Form). queue_due x c) form ∙ here;
  empty_handed = ap is_flight form ∙ empty_handed;
  turns = ap is_due form ∙ turns;
}

looked_due : (c : Course) (d : Decision) → c.decision ≡ Some d → is_pull (Some d) ≡ false → queue_due forms.Looked c ≡ Some c.cpu
looked_due c d same vain =
    let no : is_pull c.decision ≡ false = ap is_pull same ∙ vain in rw no refl

pub looks_done : (h : Header) (board : List TableId) (l l' : LaneIs) → LooksEnd h board l l' → IsDone h l'.side.course
looks_done h board l l' (inl x) =
    let form : l'.side.course.form ≡ forms.Landed = ap (λ (y : LaneIs). y.side.course.form) x.same ∙ x.landed in
    done_by h l'.side.course forms.Landed form
    (subst (λ (y : LaneIs). looks_again h y.side.course ≡ false) (sym x.same) x.last) refl refl refl
looks_done h board l l' (inr x) =
    let left = lane_look_left h (length board) l l' x.decision x.look in
    done_by h l'.side.course forms.Looked left.form (ap is_settled left.decision ∙ settles x.decision x.vain)
    (looked_due l'.side.course x.decision left.decision x.vain) refl refl

pub can_close : (h : Header) (book : TableId) (board : List TableId) (code : Coded Journal) (l m : LaneIs)
    (cpu p : ℕ) (kind : Kind) → PassAsks h l cpu p kind → Settled h book board code l m → Stays l m
    → CanClose h m.side.course (due_at m.side.course)
can_close h book board code l m cpu p kind asks x stays =
    let done = looks_done h board x.tried m x.looks_end in
    let c = m.side.course in
    record {
      done = done.done;
      here = done.here ∙ ap (λ (o : Option ℕ). Some (unwrap_or o 0)) (sym done.here);
      position = still_within h l.side.course c stays.turn stays.position_is
          (subst (λ (n : ℕ). n < length (turn_domains h l.side.course)) (sym asks.begins.position_is) asks.within);
    }

-- at the turn's CPU, which is one of the machine
pub due_here : (h : Header) (book : TableId) (board : List TableId) (code : Coded Journal) (l m : LaneIs)
    (cpu p : ℕ) (kind : Kind) → PassAsks h l cpu p kind → Settled h book board code l m → Stays l m
    → due_at m.side.course ≡ cpu
due_here h book board code l m cpu p kind asks x stays =
    ap (λ (o : Option ℕ). unwrap_or o 0) (looks_done h board x.tried m x.looks_end).here
    ∙ ap (λ (c : Course). c.cpu) stays.turn ∙ asks.cpu_is

pub due_declared : (h : Header) (book : TableId) (board : List TableId) (versions : Book) (code : Coded Journal) (l m : LaneIs)
    → Settled h book board code l m → LaneKeeps h board versions code m → due_at m.side.course < length h.cpus
due_declared h book board versions code l m x keeps =
    let done = looks_done h board x.tried m x.looks_end in
    subst (λ (n : ℕ). n < length h.cpus)
    (keeps.turns done.turns ∙ sym (ap (λ (o : Option ℕ). unwrap_or o 0) done.here)) keeps.turned

-- ---- a close that is refused
pub stops_settled : (h : Header) (book : TableId) (board : List TableId) (code : Coded Journal) (l m l' : LaneIs)
    → Settled h book board code l m → l' ≡ m → Stopped h book board code l l'
stops_settled h book board code l m l' x same =
    subst (Stopped h book board code l) (sym same) (record {
      count = x.count;
      tried = x.tried;
      attempts = x.attempts;
      stops = record {
        looked = m;
        looks = elim x.looks_end [
          | inl y ↦ inl y.same
          | inr y ↦ inr (record { decision = y.decision; look = y.look })
        ];
        side = unmoved m.side;
        rest = same_rest m;
        empty_handed = (looks_done h board x.tried m x.looks_end).empty_handed;
      };
    })

-- ---- what the close leaves
pub closed_left : (h : Header) (book : TableId) (board : List TableId) (code : Coded Journal) (m l' : LaneIs) (cpu : ℕ)
    (outcome : Outcome) → ClosedThere h book board code m l' cpu outcome → CloseLeft outcome m.side.course l'.side.course
closed_left h book board code m l' cpu outcome x =
    subst (λ (o : Outcome). CloseLeft o m.side.course l'.side.course) (sym x.outcome_is)
    (subst (CloseLeft (outcome_of h m.side.course) m.side.course)
    (sym (there_course h book board code m l' cpu x.what x.there
    ∙ ap (course_left h x.there.before m.side) x.is))
    (close_left h x.there.before m.side))

pub closed_turn : (h : Header) (book : TableId) (board : List TableId) (code : Coded Journal) (l m l' : LaneIs) (cpu : ℕ)
    (outcome : Outcome) → ClosedThere h book board code m l' cpu outcome → Stays l m
    → SameTurn l.side.course l'.side.course
closed_turn h book board code l m l' cpu outcome x stays = (closed_left h book board code m l' cpu outcome x).turn ∙ stays.turn

pub closed_rows : (h : Header) (book : TableId) (board : List TableId) (code : Coded Journal) (l m l' : LaneIs) (cpu : ℕ)
    (outcome : Outcome) → ClosedThere h book board code m l' cpu outcome → Stays l m → SameRows l l'
closed_rows h book board code l m l' cpu outcome x stays =
    rows_still l m l' stays.rows (there_rows h book board code m l' cpu x.what x.there
    (turn_rows m.side.course l'.side.course (closed_left h book board code m l' cpu outcome x).turn))

-- ---- how the turn goes on
same_next : (o : Outcome) (kind : Kind) (c m : Course) → turn_kind c ≡ kind → SameTurn c m → m.position ≡ c.position
    → next_position o (turn_kind m) m.positions m.position ≡ next_position o kind c.positions c.position
same_next o kind c m same turn at =
    ap (λ (k : Kind). next_position o k m.positions m.position) (ap turn_kind turn ∙ same)
    ∙ ap (λ (ps : Mask). next_position o kind ps m.position) (ap (λ (x : Course). x.positions) turn)
    ∙ ap (next_position o kind c.positions) at

asking_due : (h : Header) (m c' : Course) → source_of m.decision < length h.cpus → c'.form ≡ forms.Closed
    → c'.decision ≡ m.decision → IsDue h forms.Closed c'
asking_due h m c' lt form same =
    let here : queue_due c'.form c' ≡ Some (source_of c'.decision) = ap (λ (f : Form). queue_due f c') form in
    let due : due_at c' ≡ source_of c'.decision = ap (λ (o : Option ℕ). unwrap_or o 0) here in
    record {
      due = record { form = form; here = ap (λ (n : ℕ). Some n) (sym due) };
      declared = subst (λ (n : ℕ). n < length h.cpus) (sym (due ∙ ap source_of same)) lt;
    }

goes_on_by : (h : Header) (o : Outcome) (kind : Kind) (c m c' : Course) → turn_kind c ≡ kind → SameTurn c m
    → m.position ≡ c.position → source_of m.decision < length h.cpus → CloseLeaves o (turn_kind m) m c'
    → GoesOnAfter h o kind c c'
goes_on_by h ends.Asking kind c m c' same turn at lt x = (asking_due h m c' lt x.0 x.2, x.1 ∙ at)
goes_on_by h ends.NotMine kind c m c' same turn at lt x =
    subst (λ (n : Option ℕ). ComesTo n c') (same_next ends.NotMine kind c m same turn at) x
goes_on_by h ends.Balanced kind c m c' same turn at lt x =
    subst (λ (n : Option ℕ). ComesTo n c') (same_next ends.Balanced kind c m same turn at) x
goes_on_by h (ends.Moved k) kind c m c' same turn at lt x =
    subst (λ (n : Option ℕ). ComesTo n c') (same_next (ends.Moved k) kind c m same turn at) x
goes_on_by h ends.Pinned kind c m c' same turn at lt x =
    subst (λ (n : Option ℕ). ComesTo n c') (same_next ends.Pinned kind c m same turn at) x
goes_on_by h ends.Failed kind c m c' same turn at lt x =
    subst (λ (n : Option ℕ). ComesTo n c') (same_next ends.Failed kind c m same turn at) x

pub goes_on_after : (h : Header) (book : TableId) (board : List TableId) (code : Coded Journal) (l m l' : LaneIs)
    (cpu p : ℕ) (kind : Kind) (due : ℕ) (outcome : Outcome) → PassAsks h l cpu p kind → Stays l m → HasSource h m
    → ClosedThere h book board code m l' due outcome → GoesOnAfter h outcome kind l.side.course l'.side.course
goes_on_after h book board code l m l' cpu p kind due outcome asks stays source x =
    goes_on_by h outcome kind l.side.course m.side.course l'.side.course asks.kind_is stays.turn stays.position_is source
    (closed_left h book board code m l' due outcome x).leaves

pub passed : (h : Header) (book : TableId) (board : List TableId) (code : Coded Journal) (l m l' : LaneIs)
    (cpu p : ℕ) (kind : Kind) (outcome : Outcome) → PassAsks h l cpu p kind → Settled h book board code l m → Stays l m
    → ClosedThere h book board code m l' (due_at m.side.course) outcome → Passed h book board code l l' cpu outcome
passed h book board code l m l' cpu p kind outcome asks settled stays x = record {
  done = m;
  settled = settled;
  closed =
      subst (λ (n : ℕ). ClosedThere h book board code m l' n outcome)
      (due_here h book board code l m cpu p kind asks settled stays) x;
}
