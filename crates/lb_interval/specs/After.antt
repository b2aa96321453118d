-- The balance counters of a position: those of a new position, when it is due, and those after each
-- outcome, as a table by outcome. The weight is that of the domain's span; it is the least interval,
-- and twice as much the greatest that a balanced look leads to.
-- Cited by the contracts of `after`, `fresh`, `due` and others; also by `lb_journal_rows`, `lb_queue` and other
-- crates.
use Rattle.std.specs.Prelude.{ℕ, ◌+◌, ◌-◌, ◌*◌, ◌^◌, min, max, nat_lt, nat_le, Bool, false, ◌||◌, if◌then◌else◌, Option, Some, None}
use Rattle.lb_base.specs.declared.shape.Kind.{Kind}
use Rattle.lb_base.specs.declared.shape.Kind.TheVariants.{Idle}
use Rattle.lb_interval.specs.declared.TheConstants.{BUSY_FACTOR, WAIT_PER_CPU, PINNED_BELOW}
use Rattle.lb_interval.specs.declared.Counters.{Counters}
use Rattle.lb_interval.specs.declared.Outcome.{Outcome}
use Rattle.lb_interval.specs.declared.Outcome.TheVariants.{NotMine, Balanced, Moved, Pinned, Failed, Asking}

-- the counters of a new position
abbrev pub fresh_counters : ℕ → ℕ → Counters
fresh_counters weight now = record { last = now; interval = weight; failures = 0; imb = false }

-- how long a position waits; `busy` says that somebody is awake on the CPU
abbrev pub wait_of : ℕ → Bool → ℕ → ℕ
wait_of interval busy cpus = min (max (if busy then interval * BUSY_FACTOR - 1 else interval) 1) (WAIT_PER_CPU * cpus)

-- whether a position is due
abbrev pub is_due : Counters → Bool → ℕ → ℕ → Bool
is_due c busy cpus now = nat_le (c.last + wait_of c.interval busy cpus) now

-- one more, at most the greatest count
abbrev pub one_more : ℕ → ℕ
one_more n = min (n + 1) (2 ^ 32 - 1)

-- the failures after an outcome
abbrev pub failures_after : Outcome → ℕ → ℕ → ℕ
failures_after NotMine failures tries = failures
failures_after Balanced failures tries = 0
failures_after (Moved n) failures tries = 0
failures_after Pinned failures tries = 0
failures_after Failed failures tries = one_more failures
failures_after Asking failures tries = one_more tries

-- the failures after an outcome of a newly-idle turn: a failure is not counted
abbrev pub idle_failures : Outcome → ℕ → ℕ → ℕ
idle_failures Failed failures tries = failures
idle_failures o failures tries = failures_after o failures tries

-- the interval after an outcome
abbrev pub interval_after : Outcome → ℕ → ℕ → ℕ
interval_after NotMine interval weight = interval
interval_after Balanced interval weight = if nat_lt interval (2 * weight) then 2 * interval else interval
interval_after (Moved n) interval weight = weight
interval_after Pinned interval weight = if nat_lt interval (2 * weight) || nat_lt interval PINNED_BELOW then 2 * interval else interval
interval_after Failed interval weight = weight
interval_after Asking interval weight = weight

-- the imbalance flag after an outcome: what the last take says of it, if there was one; without a
-- take a balanced look alone clears it
abbrev pub flag_after : Outcome → Option Bool → Bool → Bool
flag_after o (Some said) flag = said
flag_after Balanced None flag = false
flag_after o None flag = flag

-- the counters after an outcome of a turn of this kind
unfoldable pub counters_after : Counters → Kind → Outcome → Option Bool → ℕ → ℕ → ℕ → Counters
counters_after c Idle o imb weight tries now =
    record { last = c.last; interval = c.interval; failures = idle_failures o c.failures tries; imb = flag_after o imb c.imb }
counters_after c kind o imb weight tries now =
    record {
      last = now;
      interval = interval_after o c.interval weight;
      failures = failures_after o c.failures tries;
      imb = flag_after o imb c.imb;
    }
