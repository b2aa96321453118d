-- Tasks that leave a queue in a hand, by the `out` that is due; and what the engine is after they left, and
-- after they landed.
-- Cited by the contracts of `Engine::take_out`, `Engine::take_landing`, `leave_asleep` and others; also by
-- `lb_state`.
use Rattle.std.specs.Prelude.{◌≡◌, ℕ, ◌+◌, ◌-◌, Option, Some, None, IfSome, IsSomeAnd, length, slice_set, true, false}
use Rattle.lb_queue.specs.declared.answers.Taken.{Taken}
use Rattle.lb_queue.specs.Hands.{HandState}
use Rattle.lb_queue.specs.Queue.{QueueState}
use Rattle.lb_queue.specs.Requests.{next_stop}
use Rattle.lb_queue.specs.declared.answers.OutCause.{OutCause}
use Rattle.lb_detach.specs.declared.Env.{Env}
use Rattle.lb_trace.specs.declared.trace.Header.{Header}
use Rattle.lb_core.specs.declared.course.Form.{Form}
use Rattle.lb_core.specs.declared.course.Form.TheVariants.{Rest, Asked, Serving, Looked}
use Rattle.lb_core.specs.Course.{env_of}
use Rattle.lb_core.specs.declared.course.Course.{Course}
use Rattle.lb_core.specs.Leaving.{Leaving, wake_out, stop_out, served_out, pull_out}
use Rattle.lb_core.specs.Machine.{course_at}
use Rattle.lb_engine.specs.Held.{Held, IsInFlight, booked_at}

-- ---- the `out` that is due
-- if one is, it goes to that CPU
abbrev pub GoesTo : Option Leaving → ℕ → Type 0
GoesTo out to = IfSome out (λ l. l.to ≡ to)

-- it is for that cause, goes there, and takes so many tasks
pub record IsOut (l : Leaving) (cause : OutCause) (to count : ℕ) : Type 0 where
  pub cause_is : l.cause ≡ cause
  pub to_is : l.to ≡ to
  pub tasks_are : length l.hand ≡ count

-- one is due, and is that one
abbrev pub IsDue : Option Leaving → OutCause → ℕ → ℕ → Type 0
IsDue out cause to count = IsSomeAnd out (λ l. IsOut l cause to count)

-- the one that is due, where a pull asks for this
abbrev pub out_with : Form → Option Env → Course → QueueState → Option Leaving
out_with Rest env c q = stop_out (next_stop q false) c.at q
out_with Asked env c q = wake_out c.command c.at q
out_with Serving env c q = served_out (next_stop q true) c.at q
out_with Looked env c q = pull_out env c.at q
out_with f env c q = None

-- where a pull is due, it asks for this
abbrev pub IsEnvDue : Form → Header → Course → Option Env → Type 0
IsEnvDue Looked h c env = env ≡ env_of h c
IsEnvDue f h c env = Unit {0}

-- its tasks have left the queue, which is `rest` now, in a hand that was empty and is `loaded` now
pub record HasLeft (l : Leaving) (rest : QueueState) (empty loaded : HandState) (taken : Option Taken) : Type 0 where
  pub rest_is : rest ≡ l.rest
  pub tasks_are : loaded.tasks ≡ l.hand
  pub moment_is : loaded.moment ≡ l.rest.clock
  pub to_is : loaded.to ≡ empty.to
  pub taken_is : taken ≡ l.taken

-- so for the one that is due, if one is
abbrev pub HaveLeft : Option Leaving → QueueState → HandState → HandState → Option Taken → Type 0
HaveLeft out rest empty loaded taken = IfSome out (λ l. HasLeft l rest empty loaded taken)

-- ---- the engine
-- the lane has a hand, which is that of its course, goes to that CPU and holds so many tasks
pub record HasLoaded (before after : Held) (lane to count : ℕ) : Type 0 where
  pub hand : HandState
  pub hands : after.hands ≡ slice_set before.hands lane (Some hand)
  pub loaded : IsInFlight hand (course_at after.machine.courses lane)
  pub goes : hand.to ≡ to
  pub holds : length hand.tasks ≡ count

-- and as many landings more are booked where it goes
pub record HasTakenOff (before after : Held) (lane to : ℕ) : Type 0 where
  pub count : ℕ
  pub loaded : HasLoaded before after lane to count
  pub booked : after.booked ≡ slice_set before.booked to (booked_at before.booked to + count)

-- the lane has no hand any more, and its landings are used up
pub record HasLanded (before after : Held) (hand : HandState) (lane cpu : ℕ) : Type 0 where
  pub hands : after.hands ≡ slice_set before.hands lane None
  pub booked : after.booked ≡ slice_set before.booked cpu (booked_at before.booked cpu - length hand.tasks)
