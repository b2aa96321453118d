-- What a lane draws at the queue of its turn: the close of a position, and what answers its `use`.
-- Cited by the contracts of `Cell::close` and `Cell::answer_use`; also by `lb_cpu`, `lb_lane` and other crates.
use Rattle.std.specs.Prelude.{ℕ, ◌≡◌, ◌<◌, true, false, Some, length}
use Rattle.lb_queue.specs.declared.answers.TurnReply.{TurnReply}
use Rattle.lb_queue.specs.declared.answers.TurnReply.TheVariants.{Opened, TurnOpen}
use Rattle.lb_trace.specs.declared.trace.Header.{Header}
use Rattle.lb_core.specs.declared.course.Course.{Course}
use Rattle.lb_core.specs.declared.course.Form.{Form}
use Rattle.lb_core.specs.declared.course.Form.TheVariants.{Looked, Landed}
use Rattle.lb_core.specs.declared.entry.What.{What}
use Rattle.lb_core.specs.declared.entry.What.TheVariants.{Close, Turn, Shut}
use Rattle.lb_core.specs.Course.{turn_domains, outcome_of, looks_again}
use Rattle.lb_core.specs.Stage.{is_settled, queue_due}
use Rattle.lb_core.specs.Rules.{closed_counters, word_of}
use Rattle.lb_cell.specs.Cells.{CellIs, LaneIs}
use Rattle.lb_cell.specs.Draws.{sight_at}

-- in this form the position is done: the last look moves nothing, or after a take no further look is due
abbrev pub IsPositionDone : Form → Header → Course → Type 0
IsPositionDone Looked h c = is_settled c.decision ≡ true
IsPositionDone Landed h c = looks_again h c ≡ false
IsPositionDone f h c = ⊥

-- the position in work is one of the turn's domains and is done, and the queue is that of the turn's CPU
pub record CanClose (h : Header) (c : Course) (cpu : ℕ) : Type 0 where
  pub done : IsPositionDone c.form h c
  pub here : queue_due c.form c ≡ Some cpu
  pub position : c.position < length (turn_domains h c)

-- the close of the position in work
abbrev pub closing : Header → CellIs → LaneIs → What
closing h c l =
    Close l.course.position (word_of (outcome_of h l.course)) (closed_counters (sight_at h c l)).interval
    (closed_counters (sight_at h c l)).failures

-- ---- the answer to a `use`
abbrev pub turn_what : TurnReply → What
turn_what (Opened positions) = Turn positions
turn_what TurnOpen = Shut
