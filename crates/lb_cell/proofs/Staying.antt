-- Whatever entries it drew, a queue is that of its CPU.
-- For `Cell::cpu`; cited by `lb_end` too.
use Rattle.std.proofs.Common.{ℕ, ◌≡◌, ◌+◌, true, false, List, [], ◌∷◌, Option, Some, None, refl, ◌∙◌}
use Rattle.lb_queue.specs.declared.answers.Stop.{Stop}
use Rattle.lb_detach.specs.declared.Env.{Env}
use Rattle.lb_queue.specs.Queue.{QueueState, away}
use Rattle.lb_queue.specs.Requests.{next_stop, ask_active, kick}
use Rattle.lb_queue.specs.Turns.{close_look}
use Rattle.lb_queue.specs.Calls.Call.{Wake as WakeCall, Sleep as SleepCall, Exit as ExitCall, SetMask as MaskCall, Renice, Tick as TickCall, Leave, TakeStop, TakePush, Take, Land}
use Rattle.lb_queue.specs.Laws.{CallsKeepRest}
use Rattle.lb_trace.specs.declared.trace.Command.{Command}
use Rattle.lb_trace.specs.declared.trace.Command.TheVariants.{Wake, Sleep, Exit, SetMask, Nice, Tick}
use Rattle.lb_trace.specs.declared.trace.Header.{Header}
use Rattle.lb_core.specs.declared.course.Course.{Course}
use Rattle.lb_core.specs.declared.course.Form.{Form}
use Rattle.lb_core.specs.declared.course.Form.TheVariants.{Rest, Asked, Serving, Looked}
use Rattle.lb_core.specs.declared.entry.What.{What}
use Rattle.lb_core.specs.declared.entry.What.TheVariants.{Did, Out, Landed}
use Rattle.lb_core.specs.Sight.{Sight}
use Rattle.lb_core.specs.Course.{env_of}
use Rattle.lb_core.specs.Leaving.{leaving, out_by, stop_out, push_out, served_out, wake_out, wake_to, pull_out}
use Rattle.lb_core.specs.Machine.{opening_queue}
use Rattle.lb_core.specs.QueueAfter.{answer_to, rest_of, cause_of, queue_by, queue_after}
use Rattle.lb_journal.specs.Journal.{Journal, replay, replay_from}

answer_stays : CallsKeepRest → (command : Option Command) (at : ℕ) (q : QueueState) → (answer_to command at q).1.cpu ≡ q.cpu
answer_stays law (Some (Wake t)) at q = (law q (WakeCall at t)).cpu
answer_stays law (Some (Sleep t)) at q = (law q (SleepCall at t)).cpu
answer_stays law (Some (Exit t)) at q = (law q (ExitCall at t)).cpu
answer_stays law (Some (SetMask t mask)) at q = (law q (MaskCall at t mask)).cpu
answer_stays law (Some (Nice t nice)) at q = (law q (Renice at t nice)).cpu
answer_stays law (Some (Tick cpu)) at q = (law q (TickCall at)).cpu
answer_stays law command at q = refl

-- ---- tasks that leave
wake_stays : CallsKeepRest → (to : Option ℕ) (at t : ℕ) (q : QueueState) → (rest_of (wake_to to at t q) q).cpu ≡ q.cpu
wake_stays law None at t q = refl
wake_stays law (Some to) at t q = (law q (Leave at t to)).cpu

woken_stays : CallsKeepRest → (command : Option Command) (at : ℕ) (q : QueueState)
    → (rest_of (wake_out command at q) q).cpu ≡ q.cpu
woken_stays law (Some (Wake t)) at q = wake_stays law (away q t) at t q
woken_stays law command at q = refl

stop_stays : CallsKeepRest → (o : Option Stop) (at : ℕ) (q : QueueState) → (rest_of (stop_out o at q) q).cpu ≡ q.cpu
stop_stays law None at q = refl
stop_stays law (Some stop) at q = (law q (TakeStop at stop.id stop.to)).cpu

push_stays : CallsKeepRest → (o : Option ℕ) (at : ℕ) (q : QueueState) → (rest_of (push_out o at q) q).cpu ≡ q.cpu
push_stays law None at q = refl
push_stays law (Some to) at q = (law q (TakePush at to)).cpu

served_stays : CallsKeepRest → (o : Option Stop) (at : ℕ) (q : QueueState) → (rest_of (served_out o at q) q).cpu ≡ q.cpu
served_stays law None at q = push_stays law q.active at q
served_stays law (Some stop) at q = stop_stays law (Some stop) at q

pull_stays : CallsKeepRest → (o : Option Env) (at : ℕ) (q : QueueState) → (rest_of (pull_out o at q) q).cpu ≡ q.cpu
pull_stays law None at q = refl
pull_stays law (Some env) at q = (law q (Take at env)).cpu

out_stays : CallsKeepRest → (f : Form) (h : Header) (c : Course) (q : QueueState) → (rest_of (out_by f h c q) q).cpu ≡ q.cpu
out_stays law Rest h c q = stop_stays law (next_stop q false) c.at q
out_stays law Asked h c q = woken_stays law c.command c.at q
out_stays law Serving h c q = served_stays law (next_stop q true) c.at q
out_stays law Looked h c q = pull_stays law (env_of h c) c.at q
out_stays law f h c q = refl

-- ---- each entry, and a list of them
step_stays : CallsKeepRest → (w : What) (s : Sight) (lane : ℕ) → (queue_by w s lane).cpu ≡ s.queue.cpu
unfolding leaving close_look ask_active kick
step_stays law (Did r) s lane = answer_stays law s.course.command s.course.at s.queue
step_stays law (Out cause to tasks) s lane = out_stays law s.course.form s.header s.course s.queue
step_stays law (Landed tasks) s lane =
    (law s.queue (Land s.course.at (cause_of s.course) s.course.moment s.course.hand)).cpu
step_stays law w s lane = refl

list_stays : CallsKeepRest → (n : ℕ) (q : QueueState) (ds : List (ℕ × Journal)) → (replay_from n q ds).cpu ≡ q.cpu
unfolding queue_after
list_stays law n q [] = refl
list_stays law n q (d ∷ ds) = list_stays law (n + 1) _ ds ∙ step_stays law d.1.entry.what _ d.1.entry.lane

pub replay_stays : CallsKeepRest → (h : Header) (cpu : ℕ) (ds : List (ℕ × Journal)) → (replay h cpu ds).cpu ≡ cpu
unfolding opening_queue
replay_stays law h cpu ds = list_stays law 0 (opening_queue h cpu) ds
