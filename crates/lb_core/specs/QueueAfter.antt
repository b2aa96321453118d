-- The queue that an entry of it leaves: one step of the queue for each kind of entry, with the values
-- that the course of its lane fixes.
-- For the definitions of `CourseAfter`, `OpenTurns` and others, and so for the laws `turns_stay_open`, `replies` and
-- others; cited by `lb_act`, `lb_cell` and other crates.
use Rattle.std.specs.Prelude.{ℕ, Option, Some, None, unwrap_or}
use Rattle.lb_queue.specs.declared.answers.Reply.{Reply}
use Rattle.lb_queue.specs.declared.answers.Reply.TheVariants.{Done as DoneReply}
use Rattle.lb_queue.specs.declared.answers.OutCause.{OutCause}
use Rattle.lb_queue.specs.declared.answers.OutCause.TheVariants.{Wake as WakeOut}
use Rattle.lb_queue.specs.Queue.{QueueState}
use Rattle.lb_queue.specs.Commands.{wake, sleep, exit, set_mask, renice}
use Rattle.lb_queue.specs.Hands.{land}
use Rattle.lb_queue.specs.Requests.{tick, ask_active, kick}
use Rattle.lb_queue.specs.Turns.{opened, shut, close_look, end_turn}
use Rattle.lb_trace.specs.declared.trace.Command.{Command}
use Rattle.lb_trace.specs.declared.trace.Command.TheVariants.{Wake, Sleep, Exit, SetMask, Nice, Tick}
use Rattle.lb_core.specs.declared.course.Course.{Course}
use Rattle.lb_core.specs.declared.entry.What.{What}
use Rattle.lb_core.specs.declared.entry.What.TheVariants.{Did, Out, Landed, Turn, Shut, Close, Ask, Kick, Over}
use Rattle.lb_core.specs.declared.entry.Entry.{Entry}
use Rattle.lb_core.specs.Course.{turn_kind, turn_domains, turn_domain, shapes_of, outcome_of, flag_of}
use Rattle.lb_core.specs.Sight.{Sight}
use Rattle.lb_core.specs.Leaving.{Leaving, leaving}

-- ---- the answer to a command, and the queue after it
abbrev pub answer_to : Option Command → ℕ → QueueState → Reply × QueueState
answer_to (Some (Wake t)) at q = wake q at t
answer_to (Some (Sleep t)) at q = sleep q at t
answer_to (Some (Exit t)) at q = exit q at t
answer_to (Some (SetMask t m)) at q = set_mask q at t m
answer_to (Some (Nice t n)) at q = renice q at t n
answer_to (Some (Tick cpu)) at q = (DoneReply, tick q at)
answer_to command at q = (DoneReply, q)

-- ---- the queue that tasks leave behind
abbrev pub rest_of : Option Leaving → QueueState → QueueState
rest_of None q = q
rest_of (Some l) q = l.rest

-- why the tasks in the hand left their queue
abbrev pub cause_of : Course → OutCause
cause_of c = unwrap_or c.cause WakeOut

abbrev pub queue_by : What → Sight → ℕ → QueueState
queue_by (Did r) s lane = (answer_to s.course.command s.course.at s.queue).1
queue_by (Out cause to tasks) s lane = rest_of (leaving s) s.queue
queue_by (Landed tasks) s lane = land s.queue s.course.at (cause_of s.course) s.course.moment s.course.hand
queue_by (Turn ps) s lane = opened s.queue s.course.at lane (turn_kind s.course) s.course.version (shapes_of (turn_domains s.header s.course))
queue_by Shut s lane = shut s.queue s.course.at (turn_kind s.course)
queue_by (Close p w i f) s lane =
    close_look s.queue s.course.at (turn_domain s.header s.course).shape (outcome_of s.header s.course) (flag_of s.course.taken)
queue_by (Ask r) s lane = (ask_active s.queue s.course.at s.course.cpu).1
queue_by (Kick r) s lane = (kick s.queue s.course.at).1
queue_by Over s lane = end_turn s.queue s.course.at
queue_by w s lane = s.queue

-- the queue after an entry of it
unfoldable pub queue_after : Sight → Entry → QueueState
queue_after s e = queue_by e.what s e.lane
