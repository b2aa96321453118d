-- The steps of a pull: tasks that wait leave by their ids, and those that stay are turned into the
-- order in which they are to stand.
-- Cited by the contracts of `TaskLists::set_order`, `set_order`, `load_all` and `load_one`.
use Rattle.std.specs.Prelude.{◌≡◌, ℕ, ◌==◌, true, false, All, IsSomeAnd, List, ◌++◌, filter}
use Rattle.lb_base.specs.Mask.{has}
use Rattle.lb_queue.specs.declared.awake.Awake.{Awake}
use Rattle.lb_queue.specs.Tasks.{occurs, awake_with}

-- the task waits, and may run there
pub record CanGo (to : ℕ) (a : Awake) : Type 0 where
  pub waits : a.running ≡ false
  pub may_run : has a.task.mask to ≡ true

-- each of the ids is that of a task that can go
abbrev pub AllCanGo : ℕ → List Awake → List ℕ → Type 0
AllCanGo to awake ids = All (λ id. IsSomeAnd (awake_with id awake) (CanGo to)) ids

-- the awake tasks whose ids are not among those
abbrev pub without_all : List ℕ → List Awake → List Awake
without_all ids awake = filter (λ a. occurs a.task.id ids == 0) awake

-- the ids are two parts, which stand the other way round in the order
pub record IsTurned (ids order : List ℕ) : Type 0 where
  pub front : List ℕ
  pub back : List ℕ
  pub ids_are : ids ≡ front ++ back
  pub order_is : order ≡ back ++ front
