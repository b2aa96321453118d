-- Tasks that leave a queue in the hand of a lane, and land at another: the lists that tell which they are, and when they
-- have left as their lane's course has it.
-- Cited by the contracts of `Cell::can_land`, `depart`, `Cell::leave` and others; also by `lb_cpu` and `lb_lane`.
use Rattle.std.specs.Prelude.{ℕ, ◌≡◌, ◌<◌, ◌≤◌, true, false, Option, Some, List, length, All}
use Rattle.lb_queue.specs.declared.answers.OutCause.{OutCause}
use Rattle.lb_queue.specs.declared.answers.Taken.{Taken}
use Rattle.lb_queue.specs.declared.record.TaskRecord.{TaskRecord}
use Rattle.lb_queue.specs.Queue.{QueueState, away, knows}
use Rattle.lb_queue.specs.Tasks.{ids}
use Rattle.lb_queue.specs.Hands.{HandState}
use Rattle.lb_trace.specs.declared.trace.Command.TheVariants.{Wake}
use Rattle.lb_trace.specs.declared.trace.Header.{Header}
use Rattle.lb_core.specs.declared.course.Course.{Course}
use Rattle.lb_core.specs.declared.course.Form.TheVariants.{Asked}
use Rattle.lb_core.specs.declared.entry.What.TheVariants.{Out}
use Rattle.lb_core.specs.Elsewhere.{is_rest}
use Rattle.lb_core.specs.Leaving.{leaving, leaving_by}
use Rattle.lb_core.specs.Stage.{stage_allows}
use Rattle.lb_cell.specs.declared.lists.HandLists.{HandLists}
use Rattle.lb_cell.specs.Cells.{CellIs, LaneIs}
use Rattle.lb_cell.specs.Draws.{sight_at, entry_at}

-- ---- lists
-- they are for a hand of so many tasks
pub record AreFor (count : ℕ) (lists : HandLists) : Type 0 where
  pub records : length lists.records ≡ count
  pub out : length lists.out ≡ count
  pub landing : length lists.landing ≡ count

-- they tell of these tasks
pub record AreOf (tasks : List TaskRecord) (lists : HandLists) : Type 0 where
  pub records : lists.records ≡ tasks
  pub out : lists.out ≡ ids tasks
  pub landing : lists.landing ≡ ids tasks

-- ---- a hand
-- of what the landing of a hand asks, all that is known behind the lock of the queue: room and the landings are booked, the
-- tasks come to its CPU, and it does not know them
pub record CanLand (c : CellIs) (course : Course) (hand : HandState) : Type 0 where
  pub room : 0 < c.room
  pub booked : length hand.tasks ≤ c.queue.booked
  pub to : course.to ≡ c.queue.state.cpu
  pub unknown : All (λ (t : TaskRecord). knows c.queue.state t.id ≡ false) course.hand

-- the tasks of the hand have left the queue, which is `rest` now, and that `out` is due by the course of the lane
pub record HasLeft (h : Header) (c : CellIs) (l : LaneIs) (cause : OutCause) (taken : Option Taken) (hand : HandState)
    (rest : QueueState) : Type 0 where
  pub at_work : is_rest l.course.form ≡ false
  pub stage : stage_allows (sight_at h c l) (entry_at c l (Out cause hand.to (ids hand.tasks))) ≡ true
  pub due : leaving (sight_at h c l) ≡ leaving_by cause hand.to taken (hand.tasks, rest)
  pub clock : hand.moment ≡ rest.clock

-- the woken task of the course sleeps in the queue, and has to wake at that CPU
pub record WakesElsewhere (q : QueueState) (c : Course) (to : ℕ) : Type 0 where
  pub form : c.form ≡ Asked
  pub task : ℕ
  pub command : c.command ≡ Some (Wake task)
  pub goes : away q task ≡ Some to
