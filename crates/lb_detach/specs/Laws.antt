-- What the picked list promises, whatever the list and the pull: nothing is taken that the rule leaves,
-- nothing is left that the rule takes, and no task is lost or doubled.
-- Cited by the laws `picked_is_sound`, `picked_is_complete`, `picked_and_kept_are_the_list` and `flags_tell_pinned`;
-- also by `lb_queue`.
use Rattle.std.specs.Prelude.{◌≡◌, ℕ, ◌<◌, ◌≤◌, ◌↔◌, true, false, IsTrue, List, ◌++◌, length, map, All, Contains, IsPermutation}
use Rattle.lb_base.specs.declared.view.TaskView.{TaskView}
use Rattle.lb_base.specs.Mask.{has}
use Rattle.lb_detach.specs.declared.examination.TheConstants.{EXAMINED_AT_MOST}
use Rattle.lb_detach.specs.declared.Env.{Env}
use Rattle.lb_detach.specs.Rules.{fails_mask}
use Rattle.lb_detach.specs.Picks.{task_at, taken, refused_at, ends, examined, picked_ids, kept_ids, some_pinned, all_pinned}

-- the places whose tasks are picked
abbrev pub picked_places : Env → List TaskView → List ℕ
picked_places env list = taken env list (examined env list)

-- each picked task may run at the destination, was not running, was examined and is taken by the rule,
-- and there are no more of them than one pull examines
pub record IsSound (env : Env) (list : List TaskView) : Type 0 where
  pub permitted : All (λ i. has (task_at list i).mask env.to ≡ true) (picked_places env list)
  pub not_running : All (λ i. (task_at list i).running ≡ false) (picked_places env list)
  pub by_rule : All (λ i. refused_at env list i ≡ false) (picked_places env list)
  pub inside : All (λ i. i < examined env list) (picked_places env list)
  pub few : length (picked_ids env list) ≤ EXAMINED_AT_MOST

-- each examined task that the rule takes is picked, and the examination ends at the least place at
-- which it may
pub record IsComplete (env : Env) (list : List TaskView) : Type 0 where
  pub each : (i : ℕ) → i < examined env list → refused_at env list i ≡ false → Contains (picked_places env list) i
  pub goes_on : (i : ℕ) → i < examined env list → ends env list i ≡ false
  pub stops : examined env list < length list → ends env list (examined env list) ≡ true
  pub within : examined env list ≤ length list

-- the tasks that are picked and those that stay are the tasks of the list, each as often as there
abbrev pub IsRearranged : Env → List TaskView → Type 0
IsRearranged env list = IsPermutation (map (λ t. t.id) list) (picked_ids env list ++ kept_ids env list)

-- the flags say whether some, and whether all, of the examined tasks may not run at the destination
pub record TellsPinned (env : Env) (list : List TaskView) : Type 0 where
  pub some : IsTrue (some_pinned env list) ↔ ((i : ℕ) × (i < examined env list) × (fails_mask env (task_at list i) ≡ true))
  pub all : IsTrue (all_pinned env list) ↔
      ((0 < examined env list) × ((i : ℕ) → i < examined env list → fails_mask env (task_at list i) ≡ true))
