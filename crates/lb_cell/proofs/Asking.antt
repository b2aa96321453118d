-- The entries `ask` and `kick`, by which a lane asks something of a queue, may be drawn where they are due.
-- For `Cell::kick` and `Cell::ask`.
use Rattle.std.proofs.Common.{ℕ, ◌≡◌, true, false, not, ◌&&◌, Option, Some, is_some, refl, sym, subst, ap, ◌∙◌}
use Rattle.lb_queue.specs.declared.answers.AskReply.{AskReply}
use Rattle.lb_queue.specs.Requests.{ask_active, kick}
use Rattle.lb_trace.specs.declared.trace.Header.{Header}
use Rattle.lb_core.specs.declared.course.Form.{Form}
use Rattle.lb_core.specs.declared.course.Form.TheVariants as forms
use Rattle.lb_core.specs.declared.entry.Owner.TheVariants.{Queue}
use Rattle.lb_core.specs.declared.entry.What.TheVariants.{Ask, Kick}
use Rattle.lb_core.specs.declared.rule.Rule.{Rule}
use Rattle.lb_core.specs.declared.rule.Rule.TheVariants as rules
use Rattle.lb_core.specs.Same.{same_ask}
use Rattle.lb_core.specs.Elsewhere.{is_rest}
use Rattle.lb_core.specs.Stage.{is_queue, queue_due, target_of, draws, stage_allows}
use Rattle.lb_core.specs.Rules.{breaks_here}
use Rattle.lb_core.proofs.Equality.{equal_itself, ask_itself}
use Rattle.lb_cell.specs.Cells.{CellIs, LaneIs}
use Rattle.lb_cell.specs.Draws.{IsDueAt, MayDraw, sight_at, entry_at}

-- the queue that is due is this one
pub is_here : (o : Option ℕ) (cpu : ℕ) → o ≡ Some cpu → is_queue (Queue cpu) o ≡ true
is_here o cpu e = ap (is_queue (Queue cpu)) e ∙ equal_itself cpu

ask_stage : (h : Header) (c : CellIs) (l : LaneIs) (r : AskReply) → IsDueAt forms.Closed l.course c.log.writer.cpu
    → not (stage_allows (sight_at h c l) (entry_at c l (Ask r))) ≡ false
unfolding stage_allows draws
ask_stage h c l r due =
    subst
    (λ (f : Form).
    not (is_queue (Queue c.log.writer.cpu) (queue_due f l.course) && draws f h l.course c.queue.state l.number (Ask r)) ≡ false)
    (sym due.form) (rw (is_here (queue_due forms.Closed l.course) c.log.writer.cpu due.here) refl)

ask_allowed : (h : Header) (c : CellIs) (l : LaneIs) (r : AskReply) → IsDueAt forms.Closed l.course c.log.writer.cpu
    → r ≡ (ask_active c.queue.state l.course.at l.course.cpu).0
    → (rule : Rule) → breaks_here rule (sight_at h c l) (entry_at c l (Ask r)) ≡ false
ask_allowed h c l r due is rules.Stage = ask_stage h c l r due
ask_allowed h c l r due is rules.Reply =
    subst (λ (x : AskReply). not (same_ask x (ask_active c.queue.state l.course.at l.course.cpu).0) ≡ false) (sym is)
    (rw (ask_itself (ask_active c.queue.state l.course.at l.course.cpu).0) refl)
ask_allowed h c l r due is rules.Ticket = refl
ask_allowed h c l r due is rules.Prev = refl
ask_allowed h c l r due is rules.Row = refl
ask_allowed h c l r due is rules.Place = refl
ask_allowed h c l r due is rules.Version = refl
ask_allowed h c l r due is rules.Figure = refl
ask_allowed h c l r due is rules.Decision = refl
ask_allowed h c l r due is rules.Pick = refl
ask_allowed h c l r due is rules.Flight = refl
ask_allowed h c l r due is rules.Counters = refl
ask_allowed h c l r due is rules.Owed = refl
ask_allowed h c l r due is rules.End = refl

pub may_ask : (h : Header) (c : CellIs) (l : LaneIs) (r : AskReply) → IsDueAt forms.Closed l.course c.log.writer.cpu
    → r ≡ (ask_active c.queue.state l.course.at l.course.cpu).0 → MayDraw h c l (Ask r)
may_ask h c l r due is = record {
  of_queue = refl;
  at_work = ap is_rest due.form;
  allowed = ask_allowed h c l r due is;
  answers = tt;
}

kick_stage : (h : Header) (c : CellIs) (l : LaneIs) (r : AskReply) → IsDueAt forms.Kicking l.course c.log.writer.cpu
    → not (stage_allows (sight_at h c l) (entry_at c l (Kick r))) ≡ false
unfolding stage_allows draws
kick_stage h c l r due =
    subst
    (λ (f : Form).
    not (is_queue (Queue c.log.writer.cpu) (queue_due f l.course) && draws f h l.course c.queue.state l.number (Kick r)) ≡ false)
    (sym due.form)
    (rw (is_here (target_of l.course) c.log.writer.cpu due.here) (rw (ap is_some due.here) refl))

kick_allowed : (h : Header) (c : CellIs) (l : LaneIs) (r : AskReply) → IsDueAt forms.Kicking l.course c.log.writer.cpu
    → r ≡ (kick c.queue.state l.course.at).0
    → (rule : Rule) → breaks_here rule (sight_at h c l) (entry_at c l (Kick r)) ≡ false
kick_allowed h c l r due is rules.Stage = kick_stage h c l r due
kick_allowed h c l r due is rules.Reply =
    subst (λ (x : AskReply). not (same_ask x (kick c.queue.state l.course.at).0) ≡ false) (sym is)
    (rw (ask_itself (kick c.queue.state l.course.at).0) refl)
kick_allowed h c l r due is rules.Ticket = refl
kick_allowed h c l r due is rules.Prev = refl
kick_allowed h c l r due is rules.Row = refl
kick_allowed h c l r due is rules.Place = refl
kick_allowed h c l r due is rules.Version = refl
kick_allowed h c l r due is rules.Figure = refl
kick_allowed h c l r due is rules.Decision = refl
kick_allowed h c l r due is rules.Pick = refl
kick_allowed h c l r due is rules.Flight = refl
kick_allowed h c l r due is rules.Counters = refl
kick_allowed h c l r due is rules.Owed = refl
kick_allowed h c l r due is rules.End = refl

pub may_kick : (h : Header) (c : CellIs) (l : LaneIs) (r : AskReply) → IsDueAt forms.Kicking l.course c.log.writer.cpu
    → r ≡ (kick c.queue.state l.course.at).0 → MayDraw h c l (Kick r)
may_kick h c l r due is = record {
  of_queue = refl;
  at_work = ap is_rest due.form;
  allowed = kick_allowed h c l r due is;
  answers = tt;
}
