-- What a call does to the tasks of a queue: which of them move, between its lists and a hand, and what
-- has to hold of a call so that it keeps what is said of the tasks.
-- For the definitions of `Laws`, and so for the laws `sound`, `clock_rises` and others; cited by `lb_core`,
-- `lb_engine` and `lb_ready`.
use Rattle.std.specs.Prelude.{◌≡◌, ℕ, ◌+◌, ◌≤◌, Bool, true, false, if◌then◌else◌, Option, Some, IfSome, List, [], ◌∷◌}
use Rattle.std.specs.List.{list_all}
use Rattle.lb_pelt.specs.declared.signal.Run.{Run}
use Rattle.lb_pelt.specs.Signal.{advanced}
use Rattle.lb_queue.specs.declared.record.TaskRecord.{TaskRecord}
use Rattle.lb_queue.specs.declared.awake.StopRequest.{StopRequest}
use Rattle.lb_queue.specs.declared.awake.StopRequest.TheVariants.{Free, Owed}
use Rattle.lb_queue.specs.declared.answers.Reply.{Reply}
use Rattle.lb_queue.specs.declared.answers.Reply.TheVariants.{Done}
use Rattle.lb_queue.specs.Tasks.{ids, awake_ids, occurs, task_with, is_pending}
use Rattle.lb_queue.specs.Queue.{QueueState, new_task, is_awake}
use Rattle.lb_queue.specs.Commands.{wake, sleep, exit, is_bad_mask, request_after, with_mask, with_nice}
use Rattle.lb_queue.specs.Hands.{leave, take_stop, take_push, take_pull}
use Rattle.lb_queue.specs.Calls.{Call}
use Rattle.lb_queue.specs.Calls.Call.{Declare, Wake, Leave, Sleep, Exit, SetMask, Renice, Tick, TakeStop, TakePush, Take, Land, Turn, CloseLook, EndTurn, AskActive, Kick}

-- ---- where tasks stand
-- in one of the queue's lists, or on hand: with the caller, who brings tasks or takes them along
pub data Side : Type 0 where
  OnAwake : Side
  OnAsleep : Side
  OnGone : Side
  OnHand : Side

abbrev pub same_side : Side → Side → Bool
same_side OnAwake OnAwake = true
same_side OnAsleep OnAsleep = true
same_side OnGone OnGone = true
same_side OnHand OnHand = true
same_side a b = false

-- the ids that stand on a side, of a queue and of the tasks on hand
abbrev pub standing : Side → QueueState → List TaskRecord → List ℕ
standing OnAwake q hand = awake_ids q.awake
standing OnAsleep q hand = ids q.asleep
standing OnGone q hand = ids q.gone
standing OnHand q hand = ids hand

-- no id stands twice among the awake tasks, and none twice among the sleeping ones
pub record AreDistinct (q : QueueState) : Type 0 where
  pub awake : (id : ℕ) → occurs id (awake_ids q.awake) ≤ 1
  pub asleep : (id : ℕ) → occurs id (ids q.asleep) ≤ 1

-- ---- what a call brings and takes along
-- the tasks of a landing, and a task that is declared
abbrev pub brought : Call → List TaskRecord
brought (Declare id nice mask) = new_task id nice mask ∷ []
brought (Land at cause moment tasks) = tasks
brought c = []

-- the tasks that leave in a hand
abbrev pub taken_along : QueueState → Call → List TaskRecord
taken_along q (Leave at id to) = (leave q at id).0
taken_along q (TakeStop at id to) = (take_stop q at id).0
taken_along q (TakePush at to) = (take_push q at to).0
taken_along q (Take at env) = (take_pull q at env).0
taken_along q c = []

-- where they go
abbrev pub goes_to : Call → ℕ
goes_to (Leave at id to) = to
goes_to (TakeStop at id to) = to
goes_to (TakePush at to) = to
goes_to (Take at env) = env.to
goes_to c = 0

-- ---- what a call moves
-- these tasks, from one side to another
pub record Move : Type 0 where
  pub tasks : List ℕ
  pub from : Side
  pub to : Side

-- the task of a command, where the answer is Done, and else none
abbrev pub if_done : Reply → ℕ → List ℕ
if_done Done id = id ∷ []
if_done r id = []

abbrev pub moved_by : QueueState → Call → Move
moved_by q (Declare id nice mask) = record { tasks = id ∷ []; from = OnHand; to = OnAsleep }
moved_by q (Wake at id) = record { tasks = if_done (wake q at id).0 id; from = OnAsleep; to = OnAwake }
moved_by q (Sleep at id) = record { tasks = if_done (sleep q at id).0 id; from = OnAwake; to = OnAsleep }
moved_by q (Exit at id) = record { tasks = if_done (exit q at id).0 id; from = if is_awake q id then OnAwake else OnAsleep; to = OnGone }
moved_by q (Leave at id to) = record { tasks = ids (leave q at id).0; from = OnAsleep; to = OnHand }
moved_by q (TakeStop at id to) = record { tasks = ids (take_stop q at id).0; from = OnAwake; to = OnHand }
moved_by q (TakePush at to) = record { tasks = ids (take_push q at to).0; from = OnAwake; to = OnHand }
moved_by q (Take at env) = record { tasks = ids (take_pull q at env).0; from = OnAwake; to = OnHand }
moved_by q (Land at cause moment tasks) = record { tasks = ids tasks; from = OnHand; to = OnAwake }
moved_by q c = record { tasks = []; from = OnHand; to = OnAwake }

-- how often an id comes to a side or leaves it, with tasks that come to `here` or leave from there
abbrev pub moving : Side → Side → ℕ → List ℕ → ℕ
moving here s id tasks = if same_side s here then occurs id tasks else 0

-- the move took place, and nothing else: on each side each id stands as often as before, and once more
-- for each time that it came, and once less for each time that it left
abbrev pub HasMoved : Move → QueueState → List TaskRecord → QueueState → List TaskRecord → Type 0
HasMoved m q hand q' hand' =
    (s : Side) (id : ℕ) →
    occurs id (standing s q' hand') + moving m.from s id m.tasks ≡ occurs id (standing s q hand) + moving m.to s id m.tasks

-- ---- what is said of tasks, and lasts
-- a task after some time: its signal is advanced, and it may have been put down
abbrev pub aged : Run → ℕ → Option ℕ → TaskRecord → TaskRecord
aged run clock put_down t = record t { signal = advanced t.signal run clock; put_down = put_down }

-- a test of awake tasks, with their stop requests, and one of the others: time does not end them, and
-- what passes as awake passes as it leaves
pub record Last (up : StopRequest → TaskRecord → Bool) (down : TaskRecord → Bool) : Type 0 where
  pub leaves : (stop : StopRequest) (t : TaskRecord) → up stop t ≡ true → down t ≡ true
  pub ages_awake : (stop : StopRequest) (t : TaskRecord) (run : Run) (clock : ℕ) (put_down : Option ℕ)
      → up stop t ≡ true → up stop (aged run clock put_down t) ≡ true
  pub ages : (t : TaskRecord) (run : Run) (clock : ℕ) (put_down : Option ℕ) → down t ≡ true → down (aged run clock put_down t) ≡ true

-- each task of the queue passes
pub record AllPass (up : StopRequest → TaskRecord → Bool) (down : TaskRecord → Bool) (q : QueueState) : Type 0 where
  pub awake : list_all (λ a. up a.stop a.task) q.awake ≡ true
  pub asleep : list_all down q.asleep ≡ true
  pub gone : list_all down q.gone ≡ true

-- a task of that id that passes does so after a change too, if it is awake with its stop request changed
pub record Allows (up : StopRequest → TaskRecord → Bool) (down : TaskRecord → Bool) (id : ℕ)
    (asked : StopRequest → StopRequest) (change : TaskRecord → TaskRecord) : Type 0 where
  pub awake : (stop : StopRequest) (t : TaskRecord) → t.id ≡ id → up stop t ≡ true → up (asked stop) (change t) ≡ true
  pub asleep : (t : TaskRecord) → t.id ≡ id → down t ≡ true → down (change t) ≡ true

-- what has to hold of a call so that each task passes after it too: a task that joins the awake ones
-- passes as one of them that is not asked to leave, a new task and one that gets another mask or nice
-- value pass, and so does an awake task whose request becomes owed
abbrev pub Admits : (StopRequest → TaskRecord → Bool) → (TaskRecord → Bool) → QueueState → Call → Type 0
Admits up down q (Declare id nice mask) = down (new_task id nice mask) ≡ true
Admits up down q (Wake at id) = IfSome (task_with id q.asleep) (λ t. down t ≡ true → up Free t ≡ true)
Admits up down q (SetMask at id mask) = is_bad_mask q mask ≡ false → Allows up down id (request_after q.cpu mask) (with_mask mask)
Admits up down q (Renice at id nice) = Allows up down id (λ stop. stop) (with_nice nice)
Admits up down q (Tick at) = (stop : StopRequest) (t : TaskRecord) → is_pending stop ≡ true → up stop t ≡ true → up Owed t ≡ true
Admits up down q (Land at cause moment tasks) = list_all (up Free) tasks ≡ true
Admits up down q call = Unit {0}

-- ---- what a call leaves as it is
-- a turn, a request for a push and a kick concern no task
abbrev pub is_of_tasks : Call → Bool
is_of_tasks (Turn at lane kind version shapes) = false
is_of_tasks (CloseLook at shape outcome imb) = false
is_of_tasks (EndTurn at) = false
is_of_tasks (AskActive at to) = false
is_of_tasks (Kick at) = false
is_of_tasks c = true

-- the version, the counters, the open turn and the flag of a kick are the same, and no active request
-- is new
pub record SameTurns (q q' : QueueState) : Type 0 where
  pub version : q'.version ≡ q.version
  pub counters : q'.counters ≡ q.counters
  pub open_turn : q'.open_turn ≡ q.open_turn
  pub kicked : q'.kicked ≡ q.kicked
  pub active : (to : ℕ) → q'.active ≡ Some to → q.active ≡ Some to

-- the tasks are the same, and what is known of the CPU's idle time
pub record SameTasks (q q' : QueueState) : Type 0 where
  pub awake : q'.awake ≡ q.awake
  pub asleep : q'.asleep ≡ q.asleep
  pub gone : q'.gone ≡ q.gone
  pub tickless : q'.tickless ≡ q.tickless
  pub idle_since : q'.idle_since ≡ q.idle_since
  pub avg_idle : q'.avg_idle ≡ q.avg_idle
