-- The picked list of a pull. Tasks are named by their place from the back of the queue's list, from 0;
-- each place is judged with what is left to move before it, and the examination ends at the first
-- place at which one of its four reasons holds.
-- Cited by the contracts of `picks`, `is_over`, `is_all_pinned` and `examine`; also by `lb_act`, `lb_cell` and other
-- crates.
use Rattle.std.specs.Prelude.{ℕ, zero, suc, ◌-◌, ◌==◌, nat_lt, nat_le, Bool, false, not, ◌&&◌, ◌||◌, if◌then◌else◌, List, ◌++◌, length, take, map, filter, reverse}
use Rattle.std.specs.List.{range_with_len, slice_index_or, position_or_len}
use Rattle.lb_base.specs.declared.view.TaskView.{TaskView}
use Rattle.lb_detach.specs.declared.examination.TheConstants.{EXAMINED_AT_MOST}
use Rattle.lb_detach.specs.declared.Env.{Env}
use Rattle.lb_detach.specs.Rules.{fails_mask, amount_of, refuses}

-- stands where a list has no task
abbrev pub no_task : TaskView
no_task = record { id = 0; mask = record { bits = 0 }; running = false; hot = false; load = 0; util = 0 }

-- the i-th task from the back
unfoldable pub task_at : List TaskView → ℕ → TaskView
task_at list i = slice_index_or list (length list - 1 - i) no_task

-- what is left to move before the i-th task is examined
unfoldable pub left_before : Env → List TaskView → ℕ → ℕ
left_before env list zero = env.imbalance
left_before env list (suc i) =
    let left = left_before env list i in
    if refuses env (task_at list i) left then left else left - amount_of env.kind (task_at list i)

-- the i-th task stays
unfoldable pub refused_at : Env → List TaskView → ℕ → Bool
refused_at env list i = refuses env (task_at list i) (left_before env list i)

-- of the first n places, those whose tasks are taken
unfoldable pub taken : Env → List TaskView → ℕ → List ℕ
taken env list n = filter (λ i. not (refused_at env list i)) (range_with_len 0 n)

-- of the first n places, those whose tasks stay
unfoldable pub refused : Env → List TaskView → ℕ → List ℕ
refused env list n = filter (refused_at env list) (range_with_len 0 n)

-- of the first n places, those whose tasks may run at the destination
unfoldable pub free : Env → List TaskView → ℕ → List ℕ
free env list n = filter (λ i. not (fails_mask env (task_at list i))) (range_with_len 0 n)

-- the examination ends before the i-th task: nothing is left to move, or the source would have nobody
-- left for an idle destination, or a newly-idle turn has its task, or enough were examined of which one
-- may run at the destination
unfoldable pub ends : Env → List TaskView → ℕ → Bool
ends env list i =
    left_before env list i == 0
    || (env.idle && nat_le (length list - length (taken env list i)) 1)
    || (env.newly && nat_lt 0 (length (taken env list i)))
    || (nat_le EXAMINED_AT_MOST i && nat_lt 0 (length (free env list i)))

-- how many tasks are examined: the first place at which the examination ends, or all
unfoldable pub examined : Env → List TaskView → ℕ
examined env list = position_or_len (ends env list) (range_with_len 0 (length list))

-- the ids at some places
unfoldable pub ids_at : List TaskView → List ℕ → List ℕ
ids_at list places = map (λ i. (task_at list i).id) places

-- the ids that are taken, in the order in which they are
unfoldable pub picked_ids : Env → List TaskView → List ℕ
picked_ids env list = ids_at list (taken env list (examined env list))

-- the ids that stay: those refused, the last one first, and then those that were not examined
unfoldable pub kept_ids : Env → List TaskView → List ℕ
kept_ids env list =
    ids_at list (reverse (refused env list (examined env list)))
    ++ map (λ t. t.id) (take (length list - examined env list) list)

-- not every examined task may run at the destination
abbrev pub some_pinned : Env → List TaskView → Bool
some_pinned env list = nat_lt (length (free env list (examined env list))) (examined env list)

-- tasks were examined, and none of them may run at the destination
abbrev pub all_pinned : Env → List TaskView → Bool
all_pinned env list = nat_lt 0 (examined env list) && (length (free env list (examined env list)) == 0)
