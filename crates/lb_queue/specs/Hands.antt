-- Tasks that leave a queue and land at another. A hand carries them; what leaves is the tasks in
-- their order with the state that they leave behind, by each of the causes: a wake away from here, a
-- stop request, a push and a pull. A landing lets them join the front, one after the other.
-- Cited by the contracts of `TaskLists::next_stop`, `TaskLists::take_pushed`, `TaskLists::set_order` and others; also
-- by `lb_act`, `lb_cell` and other crates.
use Rattle.std.specs.Prelude.{ℕ, max, false, if◌then◌else◌, Option, Some, None, List, [], ◌∷◌, ◌++◌, map, filter_map, Bool, true}
use Rattle.lb_base.specs.Sets.{least}
use Rattle.lb_pelt.specs.declared.signal.Run.TheVariants.{Asleep}
use Rattle.lb_active.specs.Choice.{pick_of}
use Rattle.lb_detach.specs.declared.Env.{Env}
use Rattle.lb_detach.specs.Picks.{picked_ids, kept_ids, examined, left_before, some_pinned, all_pinned}
use Rattle.lb_queue.specs.declared.record.TaskRecord.{TaskRecord}
use Rattle.lb_queue.specs.declared.awake.Awake.{Awake}
use Rattle.lb_queue.specs.declared.answers.OutCause.{OutCause}
use Rattle.lb_queue.specs.declared.answers.OutCause.TheVariants.{Wake, Stop, Pull, Push}
use Rattle.lb_queue.specs.declared.answers.Taken.{Taken}
use Rattle.lb_queue.specs.Tasks.{is_pending, task_with, awake_with, without_task, advanced_task, set_down, joined}
use Rattle.lb_queue.specs.Queue.{QueueState, clock_at, at_moment, sampled}
use Rattle.lb_queue.specs.Commands.{leaves}
use Rattle.lb_queue.specs.Values.{views}

-- ---- the hand
-- `moment` is the source's clock as the tasks left; `room` is how many tasks it can hold
pub record HandState : Type 0 where
  pub source : Option ℕ
  pub to : ℕ
  pub moment : ℕ
  pub tasks : List TaskRecord
  pub room : ℕ

-- tasks have come into the hand from a queue
abbrev pub loaded : QueueState → ℕ → List TaskRecord → HandState → HandState
loaded q at tasks h = record h { source = Some q.cpu; moment = clock_at q at; tasks = h.tasks ++ tasks }

-- ---- a wake that leaves
abbrev pub leaves_asleep : QueueState → ℕ → Option TaskRecord → List TaskRecord × QueueState
leaves_asleep q at None = ([], at_moment q at)
leaves_asleep q at (Some t) = (advanced_task Asleep (clock_at q at) t ∷ [], record (at_moment q at) { asleep = without_task t.id q.asleep })

unfoldable pub leave : QueueState → ℕ → ℕ → List TaskRecord × QueueState
leave q at id = leaves_asleep q at (task_with id q.asleep)

-- ---- an awake task that goes: by a stop request or a push
abbrev pub leaves_awake : QueueState → ℕ → Option Awake → List TaskRecord × QueueState
leaves_awake q at None = ([], at_moment q at)
leaves_awake q at (Some a) = (set_down (clock_at q at) a ∷ [], leaves a (at_moment q at))

-- where a pending stop request of the task goes
abbrev pub stop_goes : Option Awake → Option ℕ
stop_goes None = None
stop_goes (Some a) = if is_pending a.stop then least a.task.mask else None

abbrev pub stop_to : QueueState → ℕ → Option ℕ
stop_to q id = stop_goes (awake_with id q.awake)

unfoldable pub take_stop : QueueState → ℕ → ℕ → List TaskRecord × QueueState
take_stop q at id = leaves_awake q at (awake_with id q.awake)

abbrev pub awake_named : Option ℕ → List Awake → Option Awake
awake_named None awake = None
awake_named (Some id) awake = awake_with id awake

-- the task nearest the back that may run there
unfoldable pub pushed : QueueState → ℕ → ℕ → Option Awake
pushed q at to = awake_named (pick_of (views q at) to) q.awake

-- the active request is gone
unfoldable pub take_push : QueueState → ℕ → ℕ → List TaskRecord × QueueState
take_push q at to = leaves_awake (record q { active = None }) at (pushed q at to)

-- ---- a pull
-- the awake tasks with these ids, in their order
unfoldable pub in_order : List ℕ → List Awake → List Awake
in_order ids awake = filter_map (λ id. awake_with id awake) ids

-- the picked tasks leave, and the rest stands in the order that the examination left
unfoldable pub take_pull : QueueState → ℕ → Env → List TaskRecord × QueueState
take_pull q at env = (
  map (set_down (clock_at q at)) (in_order (picked_ids env (views q at)) q.awake),
  record (at_moment q at) { awake = in_order (kept_ids env (views q at)) q.awake },
)

-- what a pull says of its examination
unfoldable pub taken_by : QueueState → ℕ → Env → Taken
taken_by q at env =
    let list = views q at in
    record { some_pinned = some_pinned env list; all_pinned = all_pinned env list; left = left_before env list (examined env list) }

-- ---- a landing
abbrev pub all_joined : ℕ → List TaskRecord → List Awake → List Awake
all_joined clock [] awake = awake
all_joined clock (t ∷ ts) awake = all_joined clock ts (joined clock t awake)

abbrev pub is_wake : OutCause → Bool
is_wake Wake = true
is_wake Stop = false
is_wake Pull = false
is_wake Push = false

-- a wake alone takes a sample of the idle time
abbrev pub sampled_by : OutCause → QueueState → ℕ
sampled_by cause q = if is_wake cause then sampled q else q.avg_idle

-- tasks join, if there are any
abbrev pub landed : OutCause → List TaskRecord → QueueState → QueueState
landed cause [] q = q
landed cause (t ∷ ts) q =
    record q {
      awake = all_joined q.clock (t ∷ ts) q.awake;
      avg_idle = sampled_by cause q;
      idle_since = None;
      tickless = false;
    }

-- the clock takes the hand's moment too
unfoldable pub land : QueueState → ℕ → OutCause → ℕ → List TaskRecord → QueueState
land q at cause moment tasks = landed cause tasks (at_moment q (max at moment))
