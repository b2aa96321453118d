-- The state of a CPU's run queue: its tasks, what is asked of it, its clock, its idle time, its
-- counters and its open turn. Then what is read off a state at once: where a task stands, the clock
-- that a call sets, and the average idle time after a sample.
-- Cited by the contracts of `TaskLists::is_idle`, `Queue::new`, `Queue::declare` and others; also by `lb_act`,
-- `lb_cell` and other crates.
use Rattle.std.specs.Prelude.{ℕ, ℤ, ◌-◌, ◌/◌, max, Bool, true, false, ◌||◌, if◌then◌else◌, Option, Some, None, is_some, List, [], ◌∷◌, ◌++◌}
use Rattle.lb_base.specs.declared.mask.Mask.{Mask}
use Rattle.lb_base.specs.Mask.{has}
use Rattle.lb_base.specs.Sets.{least}
use Rattle.lb_pelt.specs.Signal.{zero_signal}
use Rattle.lb_newidle.specs.declared.TheConstants.{MAX_AVERAGE}
use Rattle.lb_newidle.specs.Budget.{average_after}
use Rattle.lb_interval.specs.declared.Counters.{Counters}
use Rattle.lb_queue.specs.declared.queue.TheConstants.{NANOSECONDS_PER_MILLISECOND}
use Rattle.lb_queue.specs.declared.record.TaskRecord.{TaskRecord}
use Rattle.lb_queue.specs.declared.awake.Awake.{Awake}
use Rattle.lb_queue.specs.declared.answers.OpenTurn.{OpenTurn}
use Rattle.lb_queue.specs.Tasks.{task_with, awake_with}

-- the awake tasks run from the front to the back; those that fell asleep or ended last stand last;
-- `active` is where an active request goes; there are no counters before the first turn
pub record QueueState : Type 0 where
  pub cpu : ℕ
  pub cpus : ℕ
  pub awake : List Awake
  pub asleep : List TaskRecord
  pub gone : List TaskRecord
  pub active : Option ℕ
  pub tickless : Bool
  pub kicked : Bool
  pub clock : ℕ
  pub idle_since : Option ℕ
  pub avg_idle : ℕ
  pub version : ℕ
  pub counters : Option (List Counters)
  pub open_turn : Option OpenTurn

-- a queue as contracts see it: its state, and how many landings are booked there
pub record BookedQueue : Type 0 where
  pub state : QueueState
  pub booked : ℕ

abbrev pub empty_queue : ℕ → ℕ → QueueState
empty_queue cpu cpus =
    record {
      cpu = cpu;
      cpus = cpus;
      awake = [];
      asleep = [];
      gone = [];
      active = None;
      tickless = false;
      kicked = false;
      clock = 0;
      idle_since = None;
      avg_idle = MAX_AVERAGE;
      version = 1;
      counters = None;
      open_turn = None;
    }

-- a task as it is declared: it never was awake
abbrev pub new_task : ℕ → ℤ → Mask → TaskRecord
new_task id nice mask = record { id = id; nice = nice; mask = mask; signal = zero_signal; put_down = None }

-- a declared task sleeps
abbrev pub declared : TaskRecord → QueueState → QueueState
declared t q = record q { asleep = q.asleep ++ t ∷ [] }

-- ---- what is known
abbrev pub is_awake : QueueState → ℕ → Bool
is_awake q id = is_some (awake_with id q.awake)

abbrev pub is_asleep : QueueState → ℕ → Bool
is_asleep q id = is_some (task_with id q.asleep)

abbrev pub is_gone : QueueState → ℕ → Bool
is_gone q id = is_some (task_with id q.gone)

abbrev pub knows : QueueState → ℕ → Bool
knows q id = is_awake q id || is_asleep q id || is_gone q id

abbrev pub nobody : List Awake → Bool
nobody [] = true
nobody (a ∷ rest) = false

-- ---- the clock
-- it never falls
abbrev pub clock_at : QueueState → ℕ → ℕ
clock_at q at = max q.clock at

abbrev pub at_moment : QueueState → ℕ → QueueState
at_moment q at = record q { clock = clock_at q at }

abbrev pub milliseconds : ℕ → ℕ
milliseconds clock = clock / NANOSECONDS_PER_MILLISECOND

-- ---- idle time
abbrev pub average_with : Option ℕ → ℕ → ℕ → ℕ
average_with None clock avg = avg
average_with (Some since) clock avg = average_after avg (clock - since)

-- the average idle time as a task comes: a sample is taken where nobody was awake
abbrev pub sampled : QueueState → ℕ
sampled q = if nobody q.awake then average_with q.idle_since q.clock q.avg_idle else q.avg_idle

-- the moment since when it is idle, after an awake task fell asleep or ended
abbrev pub idle_from : QueueState → List Awake → Option ℕ
idle_from q awake = if nobody awake then Some q.clock else q.idle_since

-- ---- where a sleeping task has to wake
abbrev pub away_of : QueueState → Option TaskRecord → Option ℕ
away_of q None = None
away_of q (Some t) = if has t.mask q.cpu then None else least t.mask

-- the least CPU of the mask of a task that sleeps here, where the mask lacks this CPU
unfoldable pub away : QueueState → ℕ → Option ℕ
away q id = away_of q (task_with id q.asleep)
