-- The tasks of a queue in lists by id, and what becomes of them as they run: a task is put down, is
-- picked, joins the front and leaves. Their signals are advanced at these steps and at no other.
-- Cited by the contracts of `Awake::waiting`, `Awake::picked`, `Awake::set_down` and others; also by `lb_act`,
-- `lb_cell` and other crates.
use Rattle.std.specs.Prelude.{ℕ, ◌+◌, ◌==◌, Bool, true, false, not, if◌then◌else◌, Option, Some, List, [], ◌∷◌, map, filter, find, reverse}
use Rattle.std.specs.List.{list_any}
use Rattle.lb_pelt.specs.declared.signal.Run.{Run}
use Rattle.lb_pelt.specs.declared.signal.Run.TheVariants.{Waiting, Running}
use Rattle.lb_pelt.specs.Signal.{advanced}
use Rattle.lb_queue.specs.declared.record.TaskRecord.{TaskRecord}
use Rattle.lb_queue.specs.declared.awake.Awake.{Awake}
use Rattle.lb_queue.specs.declared.awake.StopRequest.{StopRequest}
use Rattle.lb_queue.specs.declared.awake.StopRequest.TheVariants.{Free, Pending, Owed}

-- ---- lists of tasks by id
abbrev pub ids : List TaskRecord → List ℕ
ids tasks = map (λ t. t.id) tasks

abbrev pub awake_ids : List Awake → List ℕ
awake_ids awake = map (λ a. a.task.id) awake

abbrev pub task_with : ℕ → List TaskRecord → Option TaskRecord
task_with id tasks = find (λ t. t.id == id) tasks

abbrev pub without_task : ℕ → List TaskRecord → List TaskRecord
without_task id tasks = filter (λ t. not (t.id == id)) tasks

abbrev pub awake_with : ℕ → List Awake → Option Awake
awake_with id awake = find (λ a. a.task.id == id) awake

abbrev pub without_awake : ℕ → List Awake → List Awake
without_awake id awake = filter (λ a. not (a.task.id == id)) awake

-- how often a number stands in a list
abbrev pub occurs : ℕ → List ℕ → ℕ
occurs t [] = 0
occurs t (x ∷ xs) = (if x == t then 1 else 0) + occurs t xs

-- ---- stop requests
abbrev pub is_pending : StopRequest → Bool
is_pending Free = false
is_pending Pending = true
is_pending Owed = true

abbrev pub is_owed : StopRequest → Bool
is_owed Free = false
is_owed Pending = false
is_owed Owed = true

-- ---- the running task
-- the signal is brought to a moment, after a time of `run`
abbrev pub advanced_task : Run → ℕ → TaskRecord → TaskRecord
advanced_task run clock t = record t { signal = advanced t.signal run clock }

-- an awake task as it stops being awake here: put down where it runs, and else advanced as waiting
abbrev pub set_down : ℕ → Awake → TaskRecord
set_down clock a =
    if a.running then record (advanced_task Running clock a.task) { put_down = Some clock }
    else advanced_task Waiting clock a.task

-- the running task is put down and waits
abbrev pub preempted : ℕ → Awake → Awake
preempted clock a = if a.running then record { task = set_down clock a; running = false; stop = a.stop } else a

-- the task is picked
abbrev pub picked : ℕ → Awake → Awake
picked clock a = record { task = advanced_task Waiting clock a.task; running = true; stop = a.stop }

abbrev pub picked_first : ℕ → List Awake → List Awake
picked_first clock [] = []
picked_first clock (a ∷ rest) = picked clock a ∷ reverse rest

-- the task at the back is picked, and goes to the front
unfoldable pub pick_back : ℕ → List Awake → List Awake
pick_back clock awake = picked_first clock (reverse awake)

unfoldable pub somebody_runs : List Awake → Bool
somebody_runs awake = list_any (λ a. a.running) awake

-- a task that waits, and is not asked to leave
abbrev pub waiting : TaskRecord → Awake
waiting t = record { task = t; running = false; stop = Free }

-- a task joins the front, and is picked where nobody runs
unfoldable pub joined : ℕ → TaskRecord → List Awake → List Awake
joined clock t awake = if somebody_runs awake then waiting t ∷ awake else picked clock (waiting t) ∷ awake

-- a task has left the list, and another is picked where it ran
unfoldable pub left_by : ℕ → Awake → List Awake → List Awake
left_by clock a awake =
    let rest = without_awake a.task.id awake in
    if a.running then pick_back clock rest else rest
