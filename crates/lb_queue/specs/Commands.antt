-- What a queue answers to the commands on a task, and what it is afterwards: a wake, a sleep, an
-- exit, a new mask and a new nice value. Each is one function of the state, the moment and the
-- arguments. A refusal changes the clock alone, and a queue that does not know the task stays.
-- Cited by the contracts of `Awake::set_mask`, `Awake::renice`, `TaskLists::mask_awake` and others; also by
-- `lb_cell`, `lb_core` and other crates.
use Rattle.std.specs.Prelude.{ℕ, ℤ, ◌==◌, Bool, true, false, not, ◌||◌, if◌then◌else◌, Option, Some, None, List, [], ◌∷◌, ◌++◌, map}
use Rattle.lb_base.specs.declared.mask.Mask.{Mask}
use Rattle.lb_base.specs.Mask.{has}
use Rattle.lb_base.specs.Sets.{is_empty, is_below}
use Rattle.lb_pelt.specs.declared.signal.Run.TheVariants.{Asleep}
use Rattle.lb_queue.specs.declared.record.TaskRecord.{TaskRecord}
use Rattle.lb_queue.specs.declared.awake.Awake.{Awake}
use Rattle.lb_queue.specs.declared.awake.StopRequest.{StopRequest}
use Rattle.lb_queue.specs.declared.awake.StopRequest.TheVariants.{Free, Pending}
use Rattle.lb_queue.specs.declared.answers.Reply.{Reply}
use Rattle.lb_queue.specs.declared.answers.Reply.TheVariants.{Done, Already, NotHere, Gone, BadMask}
use Rattle.lb_queue.specs.Tasks.{task_with, awake_with, without_task, is_pending, advanced_task, set_down, joined, left_by}
use Rattle.lb_queue.specs.Queue.{QueueState, at_moment, sampled, idle_from}

-- by the task of that id among those gone, where it is neither awake nor asleep
abbrev pub not_here : QueueState → ℕ → Option TaskRecord → Reply × QueueState
not_here q at (Some t) = (Gone, at_moment q at)
not_here q at None = (NotHere, q)

-- ---- wake
-- a sleeping task joins the front
abbrev pub woken : TaskRecord → QueueState → QueueState
woken t q =
    record q {
      awake = joined q.clock (advanced_task Asleep q.clock t) q.awake;
      asleep = without_task t.id q.asleep;
      avg_idle = sampled q;
      idle_since = None;
      tickless = false;
    }

-- by the task of that id among those asleep, awake and gone
abbrev pub wakes : QueueState → ℕ → Option TaskRecord → Option Awake → Option TaskRecord → Reply × QueueState
wakes q at (Some t) a g = (Done, woken t (at_moment q at))
wakes q at None (Some a) g = (Already, at_moment q at)
wakes q at None None g = not_here q at g

unfoldable pub wake : QueueState → ℕ → ℕ → Reply × QueueState
wake q at id = wakes q at (task_with id q.asleep) (awake_with id q.awake) (task_with id q.gone)

-- ---- sleep
-- an awake task leaves the list
abbrev pub leaves : Awake → QueueState → QueueState
leaves a q = record q { awake = left_by q.clock a q.awake }

-- a task has stopped being awake: the queue is idle from now on, where nobody is awake
abbrev pub turns_idle : QueueState → QueueState
turns_idle q = record q { idle_since = idle_from q q.awake }

abbrev pub fallen_asleep : Awake → QueueState → QueueState
fallen_asleep a q = record (turns_idle (leaves a q)) { asleep = q.asleep ++ set_down q.clock a ∷ [] }

abbrev pub sleeps : QueueState → ℕ → Option Awake → Option TaskRecord → Option TaskRecord → Reply × QueueState
sleeps q at (Some a) t g = (Done, fallen_asleep a (at_moment q at))
sleeps q at None (Some t) g = (Already, at_moment q at)
sleeps q at None None g = not_here q at g

unfoldable pub sleep : QueueState → ℕ → ℕ → Reply × QueueState
sleep q at id = sleeps q at (awake_with id q.awake) (task_with id q.asleep) (task_with id q.gone)

-- ---- exit
abbrev pub ended : Awake → QueueState → QueueState
ended a q = record (turns_idle (leaves a q)) { gone = q.gone ++ set_down q.clock a ∷ [] }

abbrev pub ended_asleep : TaskRecord → QueueState → QueueState
ended_asleep t q = record q { asleep = without_task t.id q.asleep; gone = q.gone ++ t ∷ [] }

abbrev pub exits : QueueState → ℕ → Option Awake → Option TaskRecord → Option TaskRecord → Reply × QueueState
exits q at (Some a) t g = (Done, ended a (at_moment q at))
exits q at None (Some t) g = (Done, ended_asleep t (at_moment q at))
exits q at None None g = not_here q at g

unfoldable pub exit : QueueState → ℕ → ℕ → Reply × QueueState
exit q at id = exits q at (awake_with id q.awake) (task_with id q.asleep) (task_with id q.gone)

-- ---- a new mask
-- one task of a list is changed
abbrev pub changed_task : ℕ → (TaskRecord → TaskRecord) → List TaskRecord → List TaskRecord
changed_task id f tasks = map (λ t. if t.id == id then f t else t) tasks

abbrev pub changed_awake : ℕ → (Awake → Awake) → List Awake → List Awake
changed_awake id f awake = map (λ a. if a.task.id == id then f a else a) awake

-- an awake task whose mask lacks the CPU is asked to leave, and one whose mask has it is not
abbrev pub request_after : ℕ → Mask → StopRequest → StopRequest
request_after cpu mask s = if has mask cpu then Free else if is_pending s then s else Pending

abbrev pub with_mask : Mask → TaskRecord → TaskRecord
with_mask mask t = record t { mask = mask }

abbrev pub masked : ℕ → Mask → Awake → Awake
masked cpu mask a = record { task = with_mask mask a.task; running = a.running; stop = request_after cpu mask a.stop }

-- the mask is empty, or has a CPU past the machine
abbrev pub is_bad_mask : QueueState → Mask → Bool
is_bad_mask q mask = is_empty mask || not (is_below mask q.cpus)

abbrev pub masks_awake : ℕ → Mask → QueueState → QueueState
masks_awake id mask q = record q { awake = changed_awake id (masked q.cpu mask) q.awake }

abbrev pub masks_asleep : ℕ → Mask → QueueState → QueueState
masks_asleep id mask q = record q { asleep = changed_task id (with_mask mask) q.asleep }

-- a bad mask is refused
abbrev pub unless_bad : Bool → QueueState → QueueState → Reply × QueueState
unless_bad true before after = (BadMask, before)
unless_bad false before after = (Done, after)

abbrev pub sets_mask : QueueState → ℕ → ℕ → Mask → Option Awake → Option TaskRecord → Option TaskRecord → Reply × QueueState
sets_mask q at id mask (Some a) t g = unless_bad (is_bad_mask q mask) (at_moment q at) (masks_awake id mask (at_moment q at))
sets_mask q at id mask None (Some t) g = unless_bad (is_bad_mask q mask) (at_moment q at) (masks_asleep id mask (at_moment q at))
sets_mask q at id mask None None g = not_here q at g

unfoldable pub set_mask : QueueState → ℕ → ℕ → Mask → Reply × QueueState
set_mask q at id mask = sets_mask q at id mask (awake_with id q.awake) (task_with id q.asleep) (task_with id q.gone)

-- ---- a new nice value
-- the signal stays
abbrev pub with_nice : ℤ → TaskRecord → TaskRecord
with_nice nice t = record t { nice = nice }

abbrev pub reniced : ℤ → Awake → Awake
reniced nice a = record a { task = with_nice nice a.task }

abbrev pub renices : QueueState → ℕ → ℕ → ℤ → Option Awake → Option TaskRecord → Option TaskRecord → Reply × QueueState
renices q at id nice (Some a) t g = (Done, record (at_moment q at) { awake = changed_awake id (reniced nice) q.awake })
renices q at id nice None (Some t) g = (Done, record (at_moment q at) { asleep = changed_task id (with_nice nice) q.asleep })
renices q at id nice None None g = not_here q at g

unfoldable pub renice : QueueState → ℕ → ℕ → ℤ → Reply × QueueState
renice q at id nice = renices q at id nice (awake_with id q.awake) (task_with id q.asleep) (task_with id q.gone)
