-- When a queue may answer the command in service.
-- Cited by the contract of `Cell::answer`; also by `lb_cpu`, `lb_lane` and `lb_service`.
use Rattle.std.specs.Prelude.{ℕ, ◌≡◌, ◌==◌, Bool, true, false, Option, Some, None, IfSome}
use Rattle.lb_queue.specs.Queue.{QueueState, knows}
use Rattle.lb_trace.specs.declared.trace.Command.{Command}
use Rattle.lb_trace.specs.declared.trace.Command.TheVariants.{Tick, Rebuild}
use Rattle.lb_core.specs.declared.course.Course.{Course}
use Rattle.lb_core.specs.declared.course.Form.TheVariants.{Asked}
use Rattle.lb_core.specs.Course.{task_of}
use Rattle.lb_core.specs.Asks.{CommandAsks}

-- the queue of this CPU answers such a command
abbrev pub answers_at : Option Command → ℕ → Bool
answers_at None cpu = false
answers_at (Some (Rebuild parts)) cpu = false
answers_at (Some (Tick ticked)) cpu = cpu == ticked
answers_at command cpu = true

-- the queue of this CPU may answer the command of the course: it knows the task; the task of a wake stays, a nice value
-- is in range, and a tick passes no owed request over
pub record CanAnswer (q : QueueState) (cpu : ℕ) (c : Course) : Type 0 where
  pub form : c.form ≡ Asked
  pub command : answers_at c.command cpu ≡ true
  pub asks : CommandAsks c.command q
  pub here : IfSome (task_of c.command) (λ t. knows q t ≡ true)
