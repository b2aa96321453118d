-- What a lane draws in a turn of a CPU: the turn that it opens over a version which it chose, the close of a position, and
-- what it asks of other queues.
-- Cited by the contracts of `Cpus::close`, `Cpus::over`, `due_at` and others; also by `lb_pass` and `lb_service`.
use Rattle.std.specs.Prelude.{ℕ, ◌≡◌, ◌<◌, List, length, unwrap_or}
use base.Stored.{Coded}
use Rattle.atomic_table.specs.Seated.{TableId}
use Rattle.lb_base.specs.declared.shape.Kind.{Kind}
use Rattle.lb_interval.specs.declared.Outcome.{Outcome}
use Rattle.lb_queue.specs.declared.answers.AskReply.{AskReply}
use Rattle.lb_queue.specs.Requests.{ask_active, kick}
use Rattle.lb_trace.specs.declared.trace.Header.{Header}
use Rattle.lb_core.specs.declared.course.Course.{Course}
use Rattle.lb_core.specs.declared.course.Form.{Form}
use Rattle.lb_core.specs.declared.entry.What.{What}
use Rattle.lb_core.specs.declared.entry.What.TheVariants.{Ask, Kick}
use Rattle.lb_core.specs.Course.{outcome_of}
use Rattle.lb_core.specs.Stage.{queue_due}
use Rattle.lb_journal.specs.Journal.{Journal}
use Rattle.lb_cell.specs.Cells.{CellIs, CellKeeps}
use Rattle.lb_cell.specs.Draws.{IsDueAt}
use Rattle.lb_cell.specs.Reads.{SameBut}
use Rattle.lb_cell.specs.Turns.{closing}
use Rattle.lb_lane.specs.declared.chosen.Chosen.{Chosen}
use Rattle.lb_lane.specs.declared.turns.Began.{Began}
use Rattle.lb_lane.specs.Began.{TurnBegan}
use Rattle.lb_lane.specs.Lanes.{LaneIs}
use Rattle.lb_lane.specs.Own.{SameRest}
use Rattle.lb_lane.specs.Uses.{IsChosen}
use Rattle.lb_cpu.specs.Drawn.{DrewThere, HasReadList}

-- ---- the queue that is due
abbrev pub due_at : Course → ℕ
due_at c = unwrap_or (queue_due c.form c) 0

-- the course is in this form, and the queue that is due is that of a CPU of the machine
pub record IsDue (h : Header) (f : Form) (c : Course) : Type 0 where
  pub due : IsDueAt f c (due_at c)
  pub declared : due_at c < length h.cpus

-- ---- a turn that begins
-- the lane drew nothing; it has looked at versions, and may vouch for more than before
pub record LooksOn (l l' : LaneIs) : Type 0 where
  pub side : SameBut l.side l'.side
  pub rows : l'.rows ≡ l.rows
  pub turned : l'.turned ≡ l.turned
  pub domains : l'.domains ≡ l.domains

-- at the queue of the CPU, upon what its lock then held, the turn over the chosen version opened, was shut, or has to wait
-- for a push; and the lane has read the queue's list
pub record BeganAt (h : Header) (book : TableId) (board : List TableId) (code : Coded Journal) (l l' : LaneIs) (x : Chosen)
    (kind : Kind) (cpu : ℕ) (began : Began) : Type 0 where
  pub before : CellIs
  pub after : CellIs
  pub kept : CellKeeps h book board before
  pub here : before.log.writer.cpu ≡ cpu
  pub mid : LaneIs
  pub came : TurnBegan h before after l mid x kind began
  pub read : HasReadList code after.log.seat.list mid.side l'.side
  pub rest : SameRest mid l'

-- so it is of a version of which the lane had read the `pub`, or which is the header's
pub record BeganThere (h : Header) (book : TableId) (board : List TableId) (code : Coded Journal) (l l' : LaneIs) (kind : Kind)
    (cpu : ℕ) (began : Began) : Type 0 where
  pub mid : LaneIs
  pub looks : LooksOn l mid
  pub x : Chosen
  pub chosen : IsChosen h mid x
  pub of_cpu : x.cpu ≡ cpu
  pub there : BeganAt h book board code mid l' x kind cpu began

-- ---- a position that ends, and what it asks for
pub record ClosedThere (h : Header) (book : TableId) (board : List TableId) (code : Coded Journal) (l l' : LaneIs) (cpu : ℕ)
    (outcome : Outcome) : Type 0 where
  pub what : What
  pub there : DrewThere h book board code l l' cpu what
  pub is : what ≡ closing h there.before l.side
  pub outcome_is : outcome ≡ outcome_of h l.side.course

pub record AskedThere (h : Header) (book : TableId) (board : List TableId) (code : Coded Journal) (l l' : LaneIs) (cpu : ℕ)
    (reply : AskReply) : Type 0 where
  pub there : DrewThere h book board code l l' cpu (Ask reply)
  pub reply_is : reply ≡ (ask_active there.before.queue.state l.side.course.at l.side.course.cpu).0

pub record KickedThere (h : Header) (book : TableId) (board : List TableId) (code : Coded Journal) (l l' : LaneIs) (cpu : ℕ)
    (reply : AskReply) : Type 0 where
  pub there : DrewThere h book board code l l' cpu (Kick reply)
  pub reply_is : reply ≡ (kick there.before.queue.state l.side.course.at).0
