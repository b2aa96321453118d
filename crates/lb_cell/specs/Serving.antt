-- What is due at a queue to a lane that serves a tick: first the owed stops, then the push.
-- Cited by the contracts of `Cell::out_due` and `Cell::serve`; also by `lb_cpu`, `lb_lane` and `lb_service`.
use Rattle.std.specs.Prelude.{ℕ, true, Option, Some, None, if◌then◌else◌}
use Rattle.lb_queue.specs.declared.answers.OutCause.{OutCause}
use Rattle.lb_queue.specs.declared.answers.OutCause.TheVariants.{Stop as StopOut, Push as PushOut}
use Rattle.lb_queue.specs.declared.answers.Stop.{Stop}
use Rattle.lb_queue.specs.Queue.{QueueState}
use Rattle.lb_queue.specs.Requests.{next_stop}
use Rattle.lb_core.specs.declared.course.Course.{Course}
use Rattle.lb_core.specs.Stage.{push_is_due}

-- where the push goes, if one is due
abbrev pub push_target : Course → QueueState → Option ℕ
push_target c q = if push_is_due c q then q.active else None

abbrev pub target_by : Option Stop → Option ℕ → Option ℕ
target_by (Some stop) push = Some stop.to
target_by None push = push

-- where the tasks go that are due to leave, if any are
abbrev pub out_target : Course → QueueState → Option ℕ
out_target c q = target_by (next_stop q true) (push_target c q)

abbrev pub cause_by : Option Stop → OutCause
cause_by (Some stop) = StopOut
cause_by None = PushOut

-- why they leave
abbrev pub out_cause : QueueState → OutCause
out_cause q = cause_by (next_stop q true)
