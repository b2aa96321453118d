-- The tick of a queue's CPU, and what is asked of a queue: that a task leaves it (a stop request),
-- that it pushes one to another CPU (an active request), and that it balances on behalf of idle CPUs
-- (a kick).
-- Cited by the contracts of `Awake::asks`, `Awake::stop_request`, `Awake::owe` and others; also by `lb_cell`,
-- `lb_core` and other crates.
use Rattle.std.specs.Prelude.{ℕ, nat_lt, nat_le, Bool, true, false, not, ◌&&◌, ◌||◌, if◌then◌else◌, Option, Some, None, is_none, is_some, unwrap_or, List, ◌∷◌, map, length, reverse, find}
use Rattle.std.specs.List.{list_all, list_any}
use Rattle.lb_base.specs.Sets.{least}
use Rattle.lb_queue.specs.declared.awake.Awake.{Awake}
use Rattle.lb_queue.specs.declared.awake.StopRequest.TheVariants.{Owed}
use Rattle.lb_queue.specs.declared.answers.AskReply.{AskReply}
use Rattle.lb_queue.specs.declared.answers.AskReply.TheVariants.{New, Old}
use Rattle.lb_queue.specs.declared.answers.Stop.{Stop}
use Rattle.lb_queue.specs.Tasks.{without_awake, is_pending, is_owed, preempted, picked}
use Rattle.lb_queue.specs.Queue.{QueueState, nobody, at_moment}

-- ---- stop requests
-- the task is asked to leave; of the owed requests only, if asked
abbrev pub asks : Bool → Awake → Bool
asks owed a = if owed then is_owed a.stop else is_pending a.stop

unfoldable pub has_pending : QueueState → Bool
has_pending q = list_any (λ a. is_pending a.stop) q.awake

unfoldable pub has_owed : QueueState → Bool
has_owed q = list_any (λ a. is_owed a.stop) q.awake

-- the task has the least id of those that are asked
abbrev pub is_next_asked : Bool → List Awake → Awake → Bool
is_next_asked owed awake a = asks owed a && list_all (λ b. not (asks owed b) || nat_le a.task.id b.task.id) awake

unfoldable pub next_asked : Bool → List Awake → Option Awake
next_asked owed awake = find (is_next_asked owed awake) awake

-- a request goes to the least CPU of the task's mask
abbrev pub stop_of : Option Awake → Option Stop
stop_of None = None
stop_of (Some a) = Some (record { id = a.task.id; to = unwrap_or (least a.task.mask) 0 })

abbrev pub next_stop : QueueState → Bool → Option Stop
next_stop q owed = stop_of (next_asked owed q.awake)

-- ---- the tick
-- a pending request becomes owed
abbrev pub owes : Awake → Awake
owes a = if is_pending a.stop then record a { stop = Owed } else a

-- the task nearest the back that does not run
abbrev pub next_up : List Awake → Option Awake
next_up awake = find (λ a. not a.running) (reverse awake)

-- it takes the place of the running one
abbrev pub rotated_to : Option Awake → ℕ → List Awake → List Awake
rotated_to None clock awake = awake
rotated_to (Some a) clock awake = picked clock a ∷ map (preempted clock) (without_awake a.task.id awake)

-- where two or more are awake
unfoldable pub rotated : ℕ → List Awake → List Awake
rotated clock awake = if nat_lt 1 (length awake) then rotated_to (next_up awake) clock awake else awake

unfoldable pub tick : QueueState → ℕ → QueueState
tick q at =
    let now = at_moment q at in
    record now {
      awake = map owes (rotated now.clock q.awake);
      tickless = q.tickless || (nobody q.awake && is_none q.active);
    }

-- ---- active requests and kicks
abbrev pub old_where : Bool → AskReply
old_where true = Old
old_where false = New

-- a request that is pending stays
abbrev pub asked_for : Option ℕ → ℕ → Option ℕ
asked_for None to = Some to
asked_for (Some old) to = Some old

unfoldable pub ask_active : QueueState → ℕ → ℕ → AskReply × QueueState
ask_active q at to = (old_where (is_some q.active), record (at_moment q at) { active = asked_for q.active to })

unfoldable pub kick : QueueState → ℕ → AskReply × QueueState
kick q at = (old_where q.kicked, record (at_moment q at) { kicked = true })
