-- The answer of a queue to a `use` may be drawn: a turn opens, or is shut where one is open.
-- For `Cell::answer_use`, `Cell::shut_turn` and `Cell::open_turn`.
use Rattle.std.proofs.Common.{ℕ, ◌≡◌, Bool, true, false, not, ◌&&◌, Option, Some, None, is_some, is_none, List, if◌then◌else◌, refl, sym, subst, ap}
use Rattle.lb_base.specs.declared.mask.Mask.{Mask}
use Rattle.lb_base.specs.declared.shape.Shape.{Shape}
use Rattle.lb_base.specs.declared.shape.Kind.{Kind}
use Rattle.lb_queue.specs.declared.answers.TurnReply.TheVariants.{Opened, TurnOpen}
use Rattle.lb_queue.specs.Queue.{QueueState}
use Rattle.lb_queue.specs.Turns.{positions_found, opens}
use Rattle.lb_trace.specs.declared.trace.Header.{Header}
use Rattle.lb_core.specs.declared.course.Form.{Form}
use Rattle.lb_core.specs.declared.course.Form.TheVariants as forms
use Rattle.lb_core.specs.declared.entry.Owner.TheVariants.{Queue}
use Rattle.lb_core.specs.declared.entry.What.TheVariants.{Turn, Shut}
use Rattle.lb_core.specs.declared.rule.Rule.{Rule}
use Rattle.lb_core.specs.declared.rule.Rule.TheVariants as rules
use Rattle.lb_core.specs.Same.{same_mask}
use Rattle.lb_core.specs.Course.{turn_kind, turn_domains, shapes_of}
use Rattle.lb_core.specs.Elsewhere.{is_rest}
use Rattle.lb_core.specs.Stage.{is_queue, queue_due, draws, stage_allows}
use Rattle.lb_core.specs.Rules.{breaks_here}
use Rattle.lb_core.proofs.Equality.{mask_itself}
use Rattle.lb_cell.specs.Cells.{CellIs, LaneIs}
use Rattle.lb_cell.specs.Draws.{IsDueAt, MayDraw, MayAnswerUse, sight_at, entry_at}
use Rattle.lb_cell.proofs.Asking.{is_here}

-- ---- a turn opens
turn_stage : (h : Header) (c : CellIs) (l : LaneIs) (ps : Mask) → IsDueAt forms.Used l.course c.log.writer.cpu
    → not (stage_allows (sight_at h c l) (entry_at c l (Turn ps))) ≡ false
unfolding stage_allows draws
turn_stage h c l ps due =
    subst
    (λ (f : Form).
    not (is_queue (Queue c.log.writer.cpu) (queue_due f l.course)
    && draws f h l.course c.queue.state l.number (Turn ps)) ≡ false)
    (sym due.form) (rw (is_here (queue_due forms.Used l.course) c.log.writer.cpu due.here) refl)

turn_allowed : (h : Header) (c : CellIs) (l : LaneIs) (ps : Mask) → IsDueAt forms.Used l.course c.log.writer.cpu
    → is_some c.queue.state.open_turn ≡ false
    → ps ≡ positions_found c.queue.state l.course.at (turn_kind l.course) l.course.version (shapes_of (turn_domains h l.course))
    → (rule : Rule) → breaks_here rule (sight_at h c l) (entry_at c l (Turn ps)) ≡ false
turn_allowed h c l ps due closed is rules.Stage = turn_stage h c l ps due
turn_allowed h c l ps due closed is rules.Reply = closed
turn_allowed h c l ps due closed is rules.Counters =
    let found : Mask =
    positions_found c.queue.state l.course.at (turn_kind l.course) l.course.version (shapes_of (turn_domains h l.course)) in
    subst (λ (m : Mask). not (same_mask m found) ≡ false) (sym is) (rw (mask_itself found) refl)
turn_allowed h c l ps due closed is rules.Ticket = refl
turn_allowed h c l ps due closed is rules.Prev = refl
turn_allowed h c l ps due closed is rules.Row = refl
turn_allowed h c l ps due closed is rules.Place = refl
turn_allowed h c l ps due closed is rules.Version = refl
turn_allowed h c l ps due closed is rules.Figure = refl
turn_allowed h c l ps due closed is rules.Decision = refl
turn_allowed h c l ps due closed is rules.Pick = refl
turn_allowed h c l ps due closed is rules.Flight = refl
turn_allowed h c l ps due closed is rules.Owed = refl
turn_allowed h c l ps due closed is rules.End = refl

pub may_turn : (h : Header) (c : CellIs) (l : LaneIs) (ps : Mask) → IsDueAt forms.Used l.course c.log.writer.cpu
    → MayAnswerUse c l → is_some c.queue.state.open_turn ≡ false
    → ps ≡ positions_found c.queue.state l.course.at (turn_kind l.course) l.course.version (shapes_of (turn_domains h l.course))
    → MayDraw h c l (Turn ps)
may_turn h c l ps due answers closed is = record {
  of_queue = refl;
  at_work = ap is_rest due.form;
  allowed = turn_allowed h c l ps due closed is;
  answers = answers;
}

-- ---- or is shut
none_is : {X : Type 0} (o : Option X) → is_some o ≡ true → is_none o ≡ false
none_is None e = absurd (cc e)
none_is (Some x) e = refl

shut_stage : (h : Header) (c : CellIs) (l : LaneIs) → IsDueAt forms.Used l.course c.log.writer.cpu
    → not (stage_allows (sight_at h c l) (entry_at c l Shut)) ≡ false
unfolding stage_allows draws
shut_stage h c l due =
    subst
    (λ (f : Form).
    not (is_queue (Queue c.log.writer.cpu) (queue_due f l.course) && draws f h l.course c.queue.state l.number Shut) ≡ false)
    (sym due.form) (rw (is_here (queue_due forms.Used l.course) c.log.writer.cpu due.here) refl)

shut_allowed : (h : Header) (c : CellIs) (l : LaneIs) → IsDueAt forms.Used l.course c.log.writer.cpu
    → is_some c.queue.state.open_turn ≡ true → (rule : Rule) → breaks_here rule (sight_at h c l) (entry_at c l Shut) ≡ false
shut_allowed h c l due busy rules.Stage = shut_stage h c l due
shut_allowed h c l due busy rules.Reply = none_is c.queue.state.open_turn busy
shut_allowed h c l due busy rules.Counters = refl
shut_allowed h c l due busy rules.Ticket = refl
shut_allowed h c l due busy rules.Prev = refl
shut_allowed h c l due busy rules.Row = refl
shut_allowed h c l due busy rules.Place = refl
shut_allowed h c l due busy rules.Version = refl
shut_allowed h c l due busy rules.Figure = refl
shut_allowed h c l due busy rules.Decision = refl
shut_allowed h c l due busy rules.Pick = refl
shut_allowed h c l due busy rules.Flight = refl
shut_allowed h c l due busy rules.Owed = refl
shut_allowed h c l due busy rules.End = refl

pub may_shut : (h : Header) (c : CellIs) (l : LaneIs) → IsDueAt forms.Used l.course c.log.writer.cpu → MayAnswerUse c l
    → is_some c.queue.state.open_turn ≡ true → MayDraw h c l Shut
may_shut h c l due answers busy = record {
  of_queue = refl;
  at_work = ap is_rest due.form;
  allowed = shut_allowed h c l due busy;
  answers = answers;
}

-- ---- which of the two
opened_by : (b : Bool) (ps found : Mask) → Opened ps ≡ (if b then TurnOpen else Opened found) → (b ≡ false) × (ps ≡ found)
opened_by true ps found e = absurd (cc e)
opened_by false ps found e = (refl, cc e)

pub opened_is : (q : QueueState) (at : ℕ) (kind : Kind) (version : ℕ) (shapes : List Shape) (ps : Mask)
    → Opened ps ≡ opens q at kind version shapes
    → (is_some q.open_turn ≡ false) × (ps ≡ positions_found q at kind version shapes)
unfolding opens
opened_is q at kind version shapes ps e = opened_by (is_some q.open_turn) ps (positions_found q at kind version shapes) e

shut_by : (b : Bool) (found : Mask) → TurnOpen ≡ (if b then TurnOpen else Opened found) → b ≡ true
shut_by true found e = refl
shut_by false found e = absurd (cc e)

pub shut_is : (q : QueueState) (at : ℕ) (kind : Kind) (version : ℕ) (shapes : List Shape)
    → TurnOpen ≡ opens q at kind version shapes → is_some q.open_turn ≡ true
unfolding opens
shut_is q at kind version shapes e = shut_by (is_some q.open_turn) (positions_found q at kind version shapes) e
