-- How a row of a lane is served: by the answer of a queue, by a wake that leaves one queue and lands at another, or by the
-- publication of a version.
-- Cited by the contracts of `answer_at`, `Cpus::command`, `Cpus::wake` and others; also by `lb_service`.
use Rattle.std.specs.Prelude.{ℕ, ◌≡◌, ◌⊎◌, true, Some, List}
use mathlib.Core.List.{IsPrefix}
use base.Stored.{Coded}
use Rattle.logbook.specs.Pages.{Book}
use Rattle.atomic_table.specs.Seated.{TableId}
use Rattle.lb_queue.specs.declared.answers.OutCause.TheVariants.{Wake}
use Rattle.lb_queue.specs.declared.answers.Reply.{Reply}
use Rattle.lb_queue.specs.declared.answers.Reply.TheVariants.{Done}
use Rattle.lb_queue.specs.Hands.{HandState}
use Rattle.lb_queue.specs.Queue.{QueueState}
use Rattle.lb_queue.specs.Tasks.{ids}
use Rattle.lb_trace.specs.declared.trace.Command.TheVariants.{Wake as WakeCommand}
use Rattle.lb_trace.specs.declared.trace.Header.{Header}
use Rattle.lb_trace.specs.declared.trace.Row.{Row}
use Rattle.lb_trace.specs.Accepted.{is_command}
use Rattle.lb_core.specs.declared.course.Course.{Course}
use Rattle.lb_core.specs.declared.course.Form.TheVariants.{Asked}
use Rattle.lb_core.specs.declared.entry.What.TheVariants.{Did, Out, Landed}
use Rattle.lb_core.specs.Asks.{CommandAsks}
use Rattle.lb_core.specs.Course.{task_of}
use Rattle.lb_core.specs.QueueAfter.{answer_to}
use Rattle.lb_journal.specs.Journal.{Journal}
use Rattle.lb_cell.specs.Commands.{CanAnswer, answers_at}
use Rattle.lb_cell.specs.Hands.{WakesElsewhere}
use Rattle.lb_lane.specs.Lanes.{LaneIs}
use Rattle.lb_lane.specs.Own.{DrewNothing, TookRow}
use Rattle.lb_lane.specs.Publishers.{PublisherIs, PublisherKeeps}
use Rattle.lb_lane.specs.Publishes.{Published, RebuildAsks}
use Rattle.lb_cpu.specs.declared.waking.Woken.{Woken}
use Rattle.lb_cpu.specs.declared.waking.Woken.TheVariants.{Here, Away}
use Rattle.lb_cpu.specs.Drawn.{DrewThere, HasReadList}
use Rattle.lb_cpu.specs.Hands.{InFlight}

-- ---- three ways to serve a row
-- the queue of a CPU, which may, answered the command in service
pub record Answered (h : Header) (book : TableId) (board : List TableId) (code : Coded Journal) (l l' : LaneIs)
    (reply : Reply) : Type 0 where
  pub cpu : ℕ
  pub there : DrewThere h book board code l l' cpu (Did reply)
  pub asked : CanAnswer there.before.queue.state cpu l.side.course
  pub answer : reply ≡ (answer_to l.side.course.command l.side.course.at there.before.queue.state).0

-- the woken task, which has to wake where the hand goes, left the queue of a CPU in the hand
pub record DepartedToWake (h : Header) (book : TableId) (board : List TableId) (code : Coded Journal) (l l' : LaneIs)
    (hand : HandState) : Type 0 where
  pub cpu : ℕ
  pub there : DrewThere h book board code l l' cpu (Out Wake hand.to (ids hand.tasks))
  pub wakes : WakesElsewhere there.before.queue.state l.side.course hand.to
  pub flies : InFlight h l'.side.course Wake hand

-- and it landed there
pub record WokeElsewhere (h : Header) (book : TableId) (board : List TableId) (code : Coded Journal) (l l' : LaneIs)
    (reply : Reply) : Type 0 where
  pub mid : LaneIs
  pub hand : HandState
  pub left : DepartedToWake h book board code l mid hand
  pub landed : DrewThere h book board code mid l' hand.to (Landed (ids hand.tasks))
  pub answer : reply ≡ Done

-- the masks of the `rebuild` in service were published as a version, and the lane has read its `pub`
pub record MadeVersion (h : Header) (book : TableId) (versions : Book) (code : Coded Journal) (l l' : LaneIs) (reply : Reply)
    : Type 0 where
  pub before : PublisherIs
  pub after : PublisherIs
  pub kept : PublisherKeeps h book versions before
  pub asked : RebuildAsks h l.side.course
  pub mid : LaneIs
  pub version : ℕ
  pub published : Published h before after l mid version
  pub read : HasReadList code after.seat.list mid.side l'.side
  pub vouched : l'.vouched ≡ version
  pub told : IsPrefix after.publisher.topologies l'.looker.topologies
  pub answer : reply ≡ Done
  -- of the lane all else is as it was
  pub rows : l'.rows ≡ l.rows
  pub turned : l'.turned ≡ l.turned
  pub domains : l'.domains ≡ l.domains

-- a wake is served where the task sleeps, or leaves
abbrev pub Woke : Header → TableId → List TableId → Coded Journal → LaneIs → LaneIs → Reply → Type 0
Woke h book board code l l' reply = Answered h book board code l l' reply ⊎ WokeElsewhere h book board code l l' reply

abbrev pub Served : Header → TableId → List TableId → Book → Coded Journal → LaneIs → LaneIs → Reply → Type 0
Served h book board versions code l l' reply = Woke h book board code l l' reply ⊎ MadeVersion h book versions code l l' reply

-- ---- the whole
-- the lane took up the row, which was its next, and it was served
pub record Commanded (h : Header) (book : TableId) (board : List TableId) (versions : Book) (code : Coded Journal)
    (l l' : LaneIs) (row : Row) (reply : Reply) : Type 0 where
  pub mid : LaneIs
  pub took : TookRow h l mid
  pub is : took.row ≡ row
  pub served : Served h book board versions code mid l' reply

-- nothing was drawn but the row, if that
abbrev pub AtMostTook : Header → LaneIs → LaneIs → Type 0
AtMostTook h l l' = DrewNothing l l' ⊎ TookRow h l l'

-- ---- of a row that was taken up
-- it is in service, and was accepted
pub record IsInService (h : Header) (c : Course) (row : Row) : Type 0 where
  pub form : c.form ≡ Asked
  pub command : c.command ≡ Some row.command
  pub accepted : is_command h row.command ≡ true

-- every queue that knows this task may answer it
pub record IsForTask (c : Course) (task : ℕ) : Type 0 where
  pub form : c.form ≡ Asked
  pub task_is : task_of c.command ≡ Some task
  pub answers : (cpu : ℕ) → answers_at c.command cpu ≡ true
  pub asks : (q : QueueState) → CommandAsks c.command q

-- a wake of the task is in service
pub record IsWake (c : Course) (task : ℕ) : Type 0 where
  pub form : c.form ≡ Asked
  pub command : c.command ≡ Some (WakeCommand task)

-- the queue where the task sleeps answered the wake, or nothing was drawn
abbrev pub HereOrAway : Header → TableId → List TableId → Coded Journal → LaneIs → LaneIs → Woken → Type 0
HereOrAway h book board code l l' (Here reply) = Answered h book board code l l' reply
HereOrAway h book board code l l' (Away to) = l' ≡ l
