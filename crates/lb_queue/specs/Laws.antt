-- What holds of every queue, whatever calls were made on it: that it is sound, what each call moves and
-- what it leaves as it is, and where the tasks that leave may go.
-- Cited by the laws `sound`, `clock_rises`, `owed_is_pending` and others; also by `lb_cell`, `lb_core` and other
-- crates.
use Rattle.std.specs.Prelude.{◌≡◌, ℕ, ◌≤◌, Bool, true, false, not, if◌then◌else◌, is_some, Some, IfSome, All, List, length}
use Rattle.std.specs.List.{list_all}
use Rattle.lb_base.specs.Mask.{has}
use Rattle.lb_base.specs.Sets.{is_empty}
use Rattle.lb_detach.specs.declared.examination.TheConstants.{EXAMINED_AT_MOST}
use Rattle.lb_detach.specs.declared.Env.{Env}
use Rattle.lb_detach.specs.Picks.{picked_ids, kept_ids}
use Rattle.lb_queue.specs.declared.record.TaskRecord.{TaskRecord}
use Rattle.lb_queue.specs.declared.awake.Awake.{Awake}
use Rattle.lb_queue.specs.declared.awake.StopRequest.{StopRequest}
use Rattle.lb_queue.specs.Tasks.{ids, awake_ids, is_pending, is_owed}
use Rattle.lb_queue.specs.Queue.{QueueState, empty_queue, knows}
use Rattle.lb_queue.specs.Kept.{AreSound, IsTask, stands}
use Rattle.lb_queue.specs.Requests.{next_stop, has_owed, has_pending}
use Rattle.lb_queue.specs.Values.{views}
use Rattle.lb_queue.specs.Hands.{take_pull, stop_to}
use Rattle.lb_queue.specs.Calls.{Call, May, MayAll, after_call, after_calls}
use Rattle.lb_queue.specs.Moves.{AreDistinct, HasMoved, moved_by, brought, taken_along, goes_to, Last, AllPass, Admits, SameTurns, SameTasks, is_of_tasks}

-- each known task stands exactly once among those awake, asleep and gone, and each other nowhere; one
-- task runs exactly where somebody is awake, and an awake task is asked to leave exactly where its mask
-- lacks the CPU (`lists`); every task keeps its bounds
pub record IsSound (q : QueueState) : Type 0 where
  pub once : (id : ℕ) → stands q.awake q.asleep q.gone id ≡ (if knows q id then 1 else 0)
  pub lists : AreSound q.cpu q.awake q.asleep q.gone
  pub awake : All (λ (a : Awake). IsTask a.task) q.awake
  pub asleep : All IsTask q.asleep
  pub gone : All IsTask q.gone

-- an empty queue is sound, and calls that may be made keep a queue sound
abbrev pub EmptyIsSound : Type 0
EmptyIsSound = (cpu cpus : ℕ) → IsSound (empty_queue cpu cpus)

abbrev pub CallsKeepSound : Type 0
CallsKeepSound = (q : QueueState) → IsSound q → (calls : List Call) → MayAll q calls → IsSound (after_calls q calls)

-- the clock never falls
abbrev pub ClockRises : Type 0
ClockRises = (q : QueueState) → (calls : List Call) → q.clock ≤ (after_calls q calls).clock

-- a request that is owed is pending
abbrev pub OwedIsPending : Type 0
OwedIsPending = (a : Awake) → is_owed a.stop ≡ true → is_pending a.stop ≡ true

-- ---- one call
-- it moves the tasks of `moved_by`, and nothing else
abbrev pub CallsMove : Type 0
CallsMove =
    (q : QueueState) → AreDistinct q → (call : Call) →
    HasMoved (moved_by q call) q (brought call) (after_call q call) (taken_along q call)

-- where two tests last and each task passes, each passes after a call that is admitted, those that it
-- takes along too
pub record AllPassAfter (up : StopRequest → TaskRecord → Bool) (down : TaskRecord → Bool) (q : QueueState) (call : Call) : Type 0 where
  pub queue : AllPass up down (after_call q call)
  pub hand : list_all down (taken_along q call) ≡ true

abbrev pub TestsLast : Type 0
TestsLast =
    (up : StopRequest → TaskRecord → Bool) (down : TaskRecord → Bool) → Last up down →
    (q : QueueState) → AllPass up down q → (call : Call) → Admits up down q call → AllPassAfter up down q call

-- the queue stays that of its CPU and machine; where a call is of tasks all of its turns stays, and else
-- all of its tasks
pub record RestStays (q : QueueState) (call : Call) : Type 0 where
  pub cpu : (after_call q call).cpu ≡ q.cpu
  pub cpus : (after_call q call).cpus ≡ q.cpus
  pub turns : is_of_tasks call ≡ true → SameTurns q (after_call q call)
  pub tasks : is_of_tasks call ≡ false → SameTasks q (after_call q call)

abbrev pub CallsKeepRest : Type 0
CallsKeepRest = (q : QueueState) (call : Call) → RestStays q call

-- ---- tasks that leave
-- each may run where it goes
abbrev pub TakenMayRun : Type 0
TakenMayRun =
    (q : QueueState) → AreDistinct q → (call : Call) → May q call →
    All (λ t. has t.mask (goes_to call) ≡ true) (taken_along q call)

-- by a pull those leave that the rules pick, in their order and no more than one examines; those that stay stand
-- in the order that the examination left
pub record FollowsPicks (q : QueueState) (at : ℕ) (env : Env) : Type 0 where
  pub taken : ids (take_pull q at env).0 ≡ picked_ids env (views q at)
  pub left : awake_ids (take_pull q at env).1.awake ≡ kept_ids env (views q at)
  pub few : length (take_pull q at env).0 ≤ EXAMINED_AT_MOST

abbrev pub PullsFollowPicks : Type 0
PullsFollowPicks = (q : QueueState) (at : ℕ) (env : Env) → FollowsPicks q at env

-- a stop request is next exactly where a task is asked to leave
abbrev pub AskedIsNext : Type 0
AskedIsNext = (q : QueueState) (owed : Bool) → is_some (next_stop q owed) ≡ (if owed then has_owed q else has_pending q)

-- and it may be taken, where no mask of an awake task is empty
abbrev pub NextMayBeTaken : Type 0
NextMayBeTaken =
    (q : QueueState) → AreDistinct q → list_all (λ (a : Awake). not (is_empty a.task.mask)) q.awake ≡ true → (owed : Bool) →
    IfSome (next_stop q owed) (λ s. stop_to q s.id ≡ Some s.to)
