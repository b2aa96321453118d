-- The `out` that is due at a queue, whole: why tasks leave it and where they go, the tasks in the
-- hand, and the queue that they leave behind. It is a wake to a CPU that the task's mask has, a stop,
-- a push or a pull, by the form of the course.
-- For the definitions of `CourseAfter`, `QueueAfter` and `Rules`, and so for the laws `turns_stay_open`, `replies`
-- and others; cited by `lb_cell`, `lb_course` and other crates.
use Rattle.std.specs.Prelude.{ℕ, true, false, Option, Some, None, List}
use Rattle.lb_detach.specs.declared.Env.{Env}
use Rattle.lb_queue.specs.declared.answers.Stop.{Stop}
use Rattle.lb_queue.specs.declared.answers.OutCause.{OutCause}
use Rattle.lb_queue.specs.declared.answers.OutCause.TheVariants.{Wake as WakeOut, Stop as StopOut, Pull as PullOut, Push as PushOut}
use Rattle.lb_queue.specs.declared.answers.Taken.{Taken}
use Rattle.lb_queue.specs.declared.record.TaskRecord.{TaskRecord}
use Rattle.lb_queue.specs.Queue.{QueueState, away}
use Rattle.lb_queue.specs.Requests.{next_stop}
use Rattle.lb_queue.specs.Hands.{leave, take_stop, take_push, take_pull, taken_by}
use Rattle.lb_trace.specs.declared.trace.Command.{Command}
use Rattle.lb_trace.specs.declared.trace.Command.TheVariants.{Wake}
use Rattle.lb_trace.specs.declared.trace.Header.{Header}
use Rattle.lb_core.specs.declared.course.Course.{Course}
use Rattle.lb_core.specs.declared.course.Form.{Form}
use Rattle.lb_core.specs.declared.course.Form.TheVariants.{Rest, Asked, Serving, Looked}
use Rattle.lb_core.specs.Course.{env_of}
use Rattle.lb_core.specs.Sight.{Sight}

-- `rest` is the queue without the tasks, and `taken` what else is known of a pull
pub record Leaving : Type 0 where
  pub cause : OutCause
  pub to : ℕ
  pub hand : List TaskRecord
  pub rest : QueueState
  pub taken : Option Taken

-- tasks that leave, with the queue that they leave behind
abbrev pub leaving_by : OutCause → ℕ → Option Taken → List TaskRecord × QueueState → Option Leaving
leaving_by cause to taken moved = Some (record { cause = cause; to = to; hand = moved.0; rest = moved.1; taken = taken })

-- a wake, to the least CPU of the task's mask
abbrev pub wake_to : Option ℕ → ℕ → ℕ → QueueState → Option Leaving
wake_to None at t q = None
wake_to (Some to) at t q = leaving_by WakeOut to None (leave q at t)

abbrev pub wake_out : Option Command → ℕ → QueueState → Option Leaving
wake_out (Some (Wake t)) at q = wake_to (away q t) at t q
wake_out command at q = None

-- a stop, to the least CPU of the task's mask
abbrev pub stop_out : Option Stop → ℕ → QueueState → Option Leaving
stop_out None at q = None
stop_out (Some stop) at q = leaving_by StopOut stop.to None (take_stop q at stop.id)

-- a push, to where the active request goes
abbrev pub push_out : Option ℕ → ℕ → QueueState → Option Leaving
push_out None at q = None
push_out (Some to) at q = leaving_by PushOut to None (take_push q at to)

-- at a tick the owed stops come before the push
abbrev pub served_out : Option Stop → ℕ → QueueState → Option Leaving
served_out None at q = push_out q.active at q
served_out (Some stop) at q = stop_out (Some stop) at q

-- a pull, to the CPU that balances
abbrev pub pull_out : Option Env → ℕ → QueueState → Option Leaving
pull_out None at q = None
pull_out (Some env) at q = leaving_by PullOut env.to (Some (taken_by q at env)) (take_pull q at env)

abbrev pub out_by : Form → Header → Course → QueueState → Option Leaving
out_by Rest h c q = stop_out (next_stop q false) c.at q
out_by Asked h c q = wake_out c.command c.at q
out_by Serving h c q = served_out (next_stop q true) c.at q
out_by Looked h c q = pull_out (env_of h c) c.at q
out_by f h c q = None

-- the `out` that is due at the queue, if one is
unfoldable pub leaving : Sight → Option Leaving
leaving s = out_by s.course.form s.header s.course s.queue
