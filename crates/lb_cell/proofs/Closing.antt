-- The close of a position that is done, and the end of a turn, may be drawn.
-- For `Cell::over` and `Cell::close`.
use Rattle.std.proofs.Common.{ℕ, ◌≡◌, true, false, not, ◌&&◌, refl, sym, subst, ap}
use Rattle.lb_trace.specs.declared.trace.Header.{Header}
use Rattle.lb_core.specs.declared.course.Course.{Course}
use Rattle.lb_core.specs.declared.course.Form.{Form}
use Rattle.lb_core.specs.declared.course.Form.TheVariants as forms
use Rattle.lb_core.specs.declared.entry.OutcomeWord.{OutcomeWord}
use Rattle.lb_core.specs.declared.entry.Owner.TheVariants.{Queue}
use Rattle.lb_core.specs.declared.entry.What.TheVariants.{Close, Over}
use Rattle.lb_core.specs.declared.rule.Rule.{Rule}
use Rattle.lb_core.specs.declared.rule.Rule.TheVariants as rules
use Rattle.lb_core.specs.Course.{outcome_of}
use Rattle.lb_core.specs.Elsewhere.{is_rest}
use Rattle.lb_core.specs.Stage.{is_queue, queue_due, draws, stage_allows}
use Rattle.lb_core.specs.Rules.{breaks_here, closed_counters, word_of}
use Rattle.lb_core.proofs.Equality.{equal_itself, word_itself}
use Rattle.lb_cell.specs.Cells.{CellIs, LaneIs}
use Rattle.lb_cell.specs.Draws.{IsDueAt, MayDraw, sight_at, entry_at}
use Rattle.lb_cell.specs.Turns.{CanClose, IsPositionDone, closing}
use Rattle.lb_cell.proofs.Asking.{is_here}

-- ---- the end of a turn
over_stage : (h : Header) (c : CellIs) (l : LaneIs) → IsDueAt forms.Done l.course c.log.writer.cpu
    → not (stage_allows (sight_at h c l) (entry_at c l Over)) ≡ false
unfolding stage_allows draws
over_stage h c l due =
    subst
    (λ (f : Form).
    not (is_queue (Queue c.log.writer.cpu) (queue_due f l.course) && draws f h l.course c.queue.state l.number Over) ≡ false)
    (sym due.form) (rw (is_here (queue_due forms.Done l.course) c.log.writer.cpu due.here) refl)

over_allowed : (h : Header) (c : CellIs) (l : LaneIs) → IsDueAt forms.Done l.course c.log.writer.cpu
    → (rule : Rule) → breaks_here rule (sight_at h c l) (entry_at c l Over) ≡ false
over_allowed h c l due rules.Stage = over_stage h c l due
over_allowed h c l due rules.Reply = refl
over_allowed h c l due rules.Ticket = refl
over_allowed h c l due rules.Prev = refl
over_allowed h c l due rules.Row = refl
over_allowed h c l due rules.Place = refl
over_allowed h c l due rules.Version = refl
over_allowed h c l due rules.Figure = refl
over_allowed h c l due rules.Decision = refl
over_allowed h c l due rules.Pick = refl
over_allowed h c l due rules.Flight = refl
over_allowed h c l due rules.Counters = refl
over_allowed h c l due rules.Owed = refl
over_allowed h c l due rules.End = refl

pub may_over : (h : Header) (c : CellIs) (l : LaneIs) → IsDueAt forms.Done l.course c.log.writer.cpu → MayDraw h c l Over
may_over h c l due = record {
  of_queue = refl;
  at_work = ap is_rest due.form;
  allowed = over_allowed h c l due;
  answers = tt;
}

-- ---- the close of a position
done_works : (f : Form) (h : Header) (c : Course) → IsPositionDone f h c → is_rest f ≡ false
done_works forms.Rest h c d = absurd d
done_works forms.Looked h c d = refl
done_works forms.Landed h c d = refl
done_works forms.Asked h c d = absurd d
done_works forms.Flight h c d = absurd d
done_works forms.Serving h c d = absurd d
done_works forms.Due h c d = absurd d
done_works forms.Used h c d = absurd d
done_works forms.Position h c d = absurd d
done_works forms.Closed h c d = absurd d
done_works forms.Done h c d = absurd d
done_works forms.ScanDue h c d = absurd d
done_works forms.Kicking h c d = absurd d
done_works forms.Ended h c d = absurd d

draws_close : (f : Form) (h : Header) (c : Course) (q : _) (lane p i n : ℕ) (w : OutcomeWord) → IsPositionDone f h c
    → draws f h c q lane (Close p w i n) ≡ true
unfolding draws
draws_close forms.Looked h c q lane p i n w d = d
draws_close forms.Landed h c q lane p i n w d = ap not d
draws_close forms.Rest h c q lane p i n w d = absurd d
draws_close forms.Asked h c q lane p i n w d = absurd d
draws_close forms.Flight h c q lane p i n w d = absurd d
draws_close forms.Serving h c q lane p i n w d = absurd d
draws_close forms.Due h c q lane p i n w d = absurd d
draws_close forms.Used h c q lane p i n w d = absurd d
draws_close forms.Position h c q lane p i n w d = absurd d
draws_close forms.Closed h c q lane p i n w d = absurd d
draws_close forms.Done h c q lane p i n w d = absurd d
draws_close forms.ScanDue h c q lane p i n w d = absurd d
draws_close forms.Kicking h c q lane p i n w d = absurd d
draws_close forms.Ended h c q lane p i n w d = absurd d

close_stage : (h : Header) (c : CellIs) (l : LaneIs) (p i n : ℕ) (w : OutcomeWord) → CanClose h l.course c.log.writer.cpu
    → not (stage_allows (sight_at h c l) (entry_at c l (Close p w i n))) ≡ false
unfolding stage_allows
close_stage h c l p i n w can =
    rw (is_here (queue_due l.course.form l.course) c.log.writer.cpu can.here)
    (rw (draws_close l.course.form h l.course c.queue.state l.number p i n w can.done) refl)

close_allowed : (h : Header) (c : CellIs) (l : LaneIs) → CanClose h l.course c.log.writer.cpu
    → (rule : Rule) → breaks_here rule (sight_at h c l) (entry_at c l (closing h c l)) ≡ false
close_allowed h c l can rules.Stage =
    close_stage h c l l.course.position (closed_counters (sight_at h c l)).interval (closed_counters (sight_at h c l)).failures
    (word_of (outcome_of h l.course)) can
close_allowed h c l can rules.Decision = rw (equal_itself l.course.position) refl
close_allowed h c l can rules.Counters =
    let k = closed_counters (sight_at h c l) in
    rw (word_itself (word_of (outcome_of h l.course))) (rw (equal_itself k.interval) (rw (equal_itself k.failures) refl))
close_allowed h c l can rules.Reply = refl
close_allowed h c l can rules.Ticket = refl
close_allowed h c l can rules.Prev = refl
close_allowed h c l can rules.Row = refl
close_allowed h c l can rules.Place = refl
close_allowed h c l can rules.Version = refl
close_allowed h c l can rules.Figure = refl
close_allowed h c l can rules.Pick = refl
close_allowed h c l can rules.Flight = refl
close_allowed h c l can rules.Owed = refl
close_allowed h c l can rules.End = refl

pub may_close : (h : Header) (c : CellIs) (l : LaneIs) → CanClose h l.course c.log.writer.cpu → MayDraw h c l (closing h c l)
may_close h c l can = record {
  of_queue = refl;
  at_work = done_works l.course.form h l.course can.done;
  allowed = close_allowed h c l can;
  answers = tt;
}
