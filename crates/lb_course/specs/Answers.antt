-- What is known of a queue before it answers a command: whether the command's task is awake there.
use Rattle.std.specs.Prelude.{◌≡◌, Bool, Option, IfSome}
use Rattle.lb_queue.specs.Queue.{QueueState, is_awake}
use Rattle.lb_trace.specs.declared.trace.Command.{Command}
use Rattle.lb_core.specs.Course.{task_of}

-- the task of the command, if it is about one, is awake in the queue, or is not
abbrev pub WasAwake : Option Command → QueueState → Bool → Type 0
WasAwake command q was = IfSome (task_of command) (λ t. is_awake q t ≡ was)
