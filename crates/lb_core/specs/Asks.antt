-- What a call of a queue asks that an entry stands for, by the course of the entry's lane: the answer to a
-- row, a landing, and the opening of a turn. The machine's states are ready for each of them.
-- Cited by `lb_act`, `lb_cell` and other crates.
use Rattle.std.specs.Prelude.{◌≡◌, ℕ, pos, negsuc, ◌≤◌, ◌≤ℤ◌, false, Option, Some, None, All, length}
use Rattle.lb_queue.specs.declared.queue.TheConstants.{MAX_SHAPES}
use Rattle.lb_queue.specs.declared.record.TaskRecord.{TaskRecord}
use Rattle.lb_queue.specs.Queue.{QueueState, away, knows}
use Rattle.lb_queue.specs.Requests.{has_owed}
use Rattle.lb_queue.specs.Tasks.{ids, occurs}
use Rattle.lb_queue.specs.Turns.{AreInOrder, FitCounters}
use Rattle.lb_trace.specs.declared.trace.Command.{Command}
use Rattle.lb_trace.specs.declared.trace.Command.TheVariants.{Wake, Nice, Tick}
use Rattle.lb_trace.specs.declared.trace.Header.{Header}
use Rattle.lb_core.specs.declared.course.Course.{Course}
use Rattle.lb_core.specs.Course.{turn_domains, shapes_of}

-- a wake is for a task that stays, a nice value is in range, and a tick passes no owed request over
abbrev pub CommandAsks : Option Command → QueueState → Type 0
CommandAsks (Some (Wake t)) q = away q t ≡ None
CommandAsks (Some (Nice t nice)) q = (negsuc 19 ≤ℤ nice) × (nice ≤ℤ pos 19)
CommandAsks (Some (Tick cpu)) q = has_owed q ≡ false
CommandAsks command q = Unit {0}

-- the tasks of the hand come to this queue, each once, and it does not know them
pub record LandingAsks (c : Course) (q : QueueState) : Type 0 where
  pub to : c.to ≡ q.cpu
  pub differ : (id : ℕ) → occurs id (ids c.hand) ≤ 1
  pub unknown : All (λ (t : TaskRecord). knows q t.id ≡ false) c.hand

-- the domains of a turn are few, stand in order, and fit the counters of the queue
pub record OpeningAsks (h : Header) (q : QueueState) (c : Course) : Type 0 where
  pub few : length (shapes_of (turn_domains h c)) ≤ MAX_SHAPES
  pub in_order : AreInOrder (shapes_of (turn_domains h c))
  pub fit : FitCounters q c.version (shapes_of (turn_domains h c))
