-- The figure of a queue: how many tasks are awake, and the sums of what the tasks' signals say at the
-- queue's clock, with its flags.
-- Cited by the contracts of `Awake::value`, `TaskLists::sums`, `Queue::figure` and others; also by `lb_cell`,
-- `lb_core` and other crates.
use Rattle.std.specs.Prelude.{ℕ, ◌+◌, ◌^◌, if◌then◌else◌, unwrap_or, List, [], ◌∷◌, length, sum_by}
use Rattle.lb_base.specs.declared.figure.Fig.{Fig}
use Rattle.lb_pelt.specs.declared.signal.Run.TheVariants.{Asleep}
use Rattle.lb_pelt.specs.declared.signal.Value.{Value}
use Rattle.lb_interval.specs.declared.Counters.{Counters}
use Rattle.lb_queue.specs.declared.record.TaskRecord.{TaskRecord}
use Rattle.lb_queue.specs.declared.awake.Awake.{Awake}
use Rattle.lb_queue.specs.Queue.{QueueState}
use Rattle.lb_queue.specs.Values.{run_of, value_of}

-- bit 8 + p for each position p with the imbalance flag, from a position on
abbrev pub flags_from : ℕ → List Counters → ℕ
flags_from p [] = 0
flags_from p (c ∷ cs) = (if c.imb then 2 ^ (8 + p) else 0) + flags_from (p + 1) cs

abbrev pub awake_value : ℕ → Awake → Value
awake_value now a = value_of (run_of a.running) now a.task

abbrev pub asleep_value : ℕ → TaskRecord → Value
asleep_value now t = value_of Asleep now t

-- the figure of a queue, after its n-th entry
unfoldable pub figure : QueueState → ℕ → ℕ → Fig
figure q n ticket =
    record {
      n = n;
      ticket = ticket;
      nr = length q.awake;
      load = sum_by (λ a. (awake_value q.clock a).load) q.awake + sum_by (λ t. (asleep_value q.clock t).load) q.asleep;
      util = sum_by (λ a. (awake_value q.clock a).util) q.awake + sum_by (λ t. (asleep_value q.clock t).util) q.asleep;
      runnable = sum_by (λ a. (awake_value q.clock a).runnable) q.awake;
      flags = (if q.tickless then 1 else 0) + flags_from 0 (unwrap_or q.counters []);
    }
