-- What every call keeps: the tasks of a queue are sound, and each keeps its bounds.
-- For the lemmas of `CallsKeep` and `Reached`, and so for the laws `clock_rises`, `sound` and others.
use Rattle.std.proofs.Common.{ℕ}
use Rattle.std.specs.Prelude.{All}
use Rattle.lb_pelt.specs.declared.signal.Run.{Run}
use Rattle.lb_pelt.specs.Signal.{Sums, IsBounded, advanced}
use Rattle.lb_queue.specs.declared.record.TaskRecord.{TaskRecord}
use Rattle.lb_queue.specs.declared.awake.Awake.{Awake}
use Rattle.lb_queue.specs.declared.awake.StopRequest.{StopRequest}
use Rattle.lb_queue.specs.Kept.{AreSound, IsTask}
use Rattle.lb_queue.specs.Queue.{QueueState}
use Rattle.lb_queue.proofs.Lasting.{Lasts}

abbrev pub SoundQueue : QueueState → Type 0
SoundQueue q = AreSound q.cpu q.awake q.asleep q.gone

abbrev pub IsUp : Awake → Type 0
IsUp a = IsTask a.task

pub record Keeps (q : QueueState) : Type 0 where
  pub sound : SoundQueue q
  pub up : All IsUp q.awake
  pub down : All IsTask q.asleep
  pub past : All IsTask q.gone

-- signals keep their bounds as they are advanced
abbrev pub Grows : Type 0
Grows = (s : Sums) (run : Run) (now : ℕ) → IsBounded s → IsBounded (advanced s run now)

-- so a task keeps all of its bounds
abbrev pub AnyTask : StopRequest → TaskRecord → Type 0
AnyTask s t = IsTask t

pub tasks_last : Grows → Lasts AnyTask IsTask
tasks_last grows = record {
  leaves = λ s t h. h;
  ages_awake = λ s t run clock down h. record {
    numbered = h.numbered;
    low = h.low;
    high = h.high;
    somewhere = h.somewhere;
    bounded = grows t.signal run clock h.bounded;
  };
  ages = λ t run clock down h. record {
    numbered = h.numbered;
    low = h.low;
    high = h.high;
    somewhere = h.somewhere;
    bounded = grows t.signal run clock h.bounded;
  };
}
