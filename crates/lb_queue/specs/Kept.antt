-- What every queue keeps, whatever calls are made on it: each task that it knows stands once, one
-- task runs where somebody is awake, and the tasks that may not stay are asked to leave.
-- Cited by the contracts of `TaskLists::land`, `Queue::declare`, `Task::new` and `Task::record`.
use Rattle.std.specs.Prelude.{◌≡◌, ℕ, pos, negsuc, ◌+◌, ◌<◌, ◌≤◌, ◌≤ℤ◌, Bool, true, false, not, if◌then◌else◌, List, sum_by}
use Rattle.std.specs.List.{list_all}
use Rattle.lb_base.specs.Mask.{has}
use Rattle.lb_base.specs.Sets.{is_empty}
use Rattle.lb_pelt.specs.Signal.{IsBounded}
use Rattle.lb_queue.specs.declared.record.TaskRecord.{TaskRecord}
use Rattle.lb_queue.specs.declared.awake.Awake.{Awake}
use Rattle.lb_queue.specs.Tasks.{ids, awake_ids, occurs, is_pending}
use Rattle.lb_queue.specs.Queue.{nobody}

-- ids are below this
abbrev pub id_limit : ℕ
id_limit = 4294967295

-- what every task keeps: its id is below the limit, its nice value is in range, it may run somewhere,
-- and its signal is bounded
pub record IsTask (t : TaskRecord) : Type 0 where
  pub numbered : t.id < id_limit
  pub low : negsuc 19 ≤ℤ t.nice
  pub high : t.nice ≤ℤ pos 19
  pub somewhere : is_empty t.mask ≡ false
  pub bounded : IsBounded t.signal

-- how often a number stands among the tasks of a queue
abbrev pub stands : List Awake → List TaskRecord → List TaskRecord → ℕ → ℕ
stands awake asleep gone u = occurs u (awake_ids awake) + occurs u (ids asleep) + occurs u (ids gone)

-- how many tasks run
abbrev pub running_count : List Awake → ℕ
running_count awake = sum_by (λ a. if a.running then 1 else 0) awake

-- an awake task is asked to leave exactly where its mask lacks the CPU
abbrev pub is_asked_rightly : ℕ → Awake → Bool
is_asked_rightly cpu a = if has a.task.mask cpu then not (is_pending a.stop) else is_pending a.stop

-- a queue's tasks
pub record AreSound (cpu : ℕ) (awake : List Awake) (asleep gone : List TaskRecord) : Type 0 where
  pub once : (u : ℕ) → stands awake asleep gone u ≤ 1
  pub numbered : (u : ℕ) → id_limit ≤ u → stands awake asleep gone u ≡ 0
  pub one_runs : running_count awake ≡ (if nobody awake then 0 else 1)
  pub asked : list_all (is_asked_rightly cpu) awake ≡ true
