-- What a task's signal says at a moment, whether a task is hot then, and the awake tasks as a pull
-- sees them.
-- Cited by the contracts of `Awake::view`, `TaskLists::view`, `TaskLists::take_pushed` and others; also by `lb_act`,
-- `lb_cell` and other crates.
use Rattle.std.specs.Prelude.{ℕ, ◌-◌, nat_lt, Bool, true, false, Option, Some, None, List, map}
use Rattle.lb_base.specs.declared.view.TaskView.{TaskView}
use Rattle.lb_base.specs.Weight.{weight_of}
use Rattle.lb_pelt.specs.declared.signal.Run.{Run}
use Rattle.lb_pelt.specs.declared.signal.Run.TheVariants.{Waiting, Running}
use Rattle.lb_pelt.specs.declared.signal.Value.{Value}
use Rattle.lb_pelt.specs.Signal.{advanced, signal_value}
use Rattle.lb_queue.specs.declared.record.TaskRecord.{TaskRecord}
use Rattle.lb_queue.specs.declared.record.TheConstants.{HOT_BELOW}
use Rattle.lb_queue.specs.declared.awake.Awake.{Awake}
use Rattle.lb_queue.specs.Queue.{QueueState, clock_at}

abbrev pub run_of : Bool → Run
run_of true = Running
run_of false = Waiting

-- what a task's signal says at a moment
unfoldable pub value_of : Run → ℕ → TaskRecord → Value
value_of run now t = signal_value (advanced t.signal run now) (weight_of t.nice)

-- the task ran less than half a millisecond ago
abbrev pub is_hot : ℕ → Option ℕ → Bool
is_hot now None = false
is_hot now (Some down) = nat_lt (now - down) HOT_BELOW

unfoldable pub view_at : ℕ → Awake → TaskView
view_at now a =
    let v = value_of (run_of a.running) now a.task in
    record { id = a.task.id; mask = a.task.mask; running = a.running; hot = is_hot now a.task.put_down; load = v.load; util = v.util }

-- the awake tasks, from the front to the back, at the clock that a call at that moment sets
unfoldable pub views : QueueState → ℕ → List TaskView
views q at = map (view_at (clock_at q at)) q.awake
