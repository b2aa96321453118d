-- The tasks of a queue without the rest of it: the three lists, how many tasks they have room for,
-- and how many landings are booked. What a list is after one task was taken out of it.
-- Cited by the contracts of `TaskLists::make_room`, `TaskLists::add_booked`, `TaskLists::take_asleep` and others.
use Rattle.std.specs.Prelude.{◌≡◌, MatchOption, ℕ, ◌+◌, ◌^◌, ◌<◌, ◌≤◌, ◌==◌, nat_le, Bool, true, false, not, ◌&&◌, ◌||◌, Option, Some, None, List, length}
use Rattle.std.specs.List.{list_all, list_any}
use Rattle.lb_base.specs.declared.mask.TheConstants.{MAX_CPUS}
use Rattle.lb_queue.specs.declared.record.TaskRecord.{TaskRecord}
use Rattle.lb_queue.specs.declared.awake.Awake.{Awake}
use Rattle.lb_queue.specs.Tasks.{set_down, left_by}
use Rattle.lb_queue.specs.Requests.{asks}
use Rattle.lb_queue.specs.Kept.{AreSound, stands}

pub record Lists : Type 0 where
  pub cpu : ℕ
  pub awake : List Awake
  pub asleep : List TaskRecord
  pub gone : List TaskRecord
  pub room : ℕ
  pub booked : ℕ

-- how many tasks need room, those that may still come among them
abbrev pub load_of : Lists → ℕ
load_of l = length l.awake + length l.asleep + l.booked

-- a list has room for one more task
abbrev pub HasRoom : Lists → Type 0
HasRoom l = load_of l < l.room

-- no task of that id is known
abbrev pub IsUnknown : Lists → ℕ → Type 0
IsUnknown l id = stands l.awake l.asleep l.gone id ≡ 0

-- an awake task that is taken out, and what it leaves
abbrev pub down_of : ℕ → Option Awake → Option TaskRecord
down_of clock None = None
down_of clock (Some a) = Some (set_down clock a)

abbrev pub left_of : ℕ → Option Awake → List Awake → List Awake
left_of clock None awake = awake
left_of clock (Some a) awake = left_by clock a awake

-- the vectors have the room that is told, `awake_room` and its kin being their capacities
pub record AreKept (l : Lists) (awake_room asleep_room gone_room views_room : ℕ) : Type 0 where
  pub cpu_fits : l.cpu < MAX_CPUS
  pub sound : AreSound l.cpu l.awake l.asleep l.gone
  pub booked_fit : l.booked < 2 ^ 32
  pub within : load_of l ≤ l.room
  pub awake_fits : l.room ≤ awake_room
  pub asleep_fits : l.room ≤ asleep_room
  pub gone_fits : length l.gone + l.room ≤ gone_room
  pub views_fit : l.room ≤ views_room

-- of the tasks that are asked to leave, that number is the least id, or there is none
pub record HasLeastAsked (owed : Bool) (awake : List Awake) (id : ℕ) : Type 0 where
  pub there : list_any (λ a. asks owed a && a.task.id == id) awake ≡ true
  pub least : list_all (λ a. not (asks owed a) || nat_le id a.task.id) awake ≡ true

abbrev pub IsLeastAsked : Bool → List Awake → Option ℕ → Type 0
IsLeastAsked owed awake o = MatchOption o (list_any (asks owed) awake ≡ false) (HasLeastAsked owed awake)
