-- What a queue keeps for turns: its version, its counters and its open turn. Each step of a queue
-- leaves them, but for the opening of a turn, the close of a position and the end of a turn.
-- For the lemmas of `Turning` and `Turns`, and so for the laws `turns_fit`, `turns_stay_open` and others.
use Rattle.std.proofs.Common.{◌≡◌, ℕ, Bool, true, false, List, Option, Some, None, refl, subst}
use Rattle.lb_interval.specs.declared.Counters.{Counters}
use Rattle.lb_queue.specs.declared.answers.OpenTurn.{OpenTurn}
use Rattle.lb_queue.specs.Queue.{QueueState}
use Rattle.lb_queue.specs.Requests.{ask_active, kick}
use Rattle.lb_queue.specs.Calls.{Call, after_call}
use Rattle.lb_queue.specs.Calls.Call.{Wake as WakeCall, Sleep as SleepCall, Exit as ExitCall, SetMask as MaskCall, Renice, Tick as TickCall, Leave, TakeStop, TakePush, Take, Land}
use Rattle.lb_queue.specs.Moves.{is_of_tasks, SameTurns}
use Rattle.lb_queue.specs.Laws.{CallsKeepRest}
use Rattle.lb_trace.specs.declared.trace.Command.{Command}
use Rattle.lb_trace.specs.declared.trace.Command.TheVariants.{Wake, Sleep, Exit, SetMask, Nice, Tick}
use Rattle.lb_trace.specs.declared.trace.Header.{Header}
use Rattle.lb_core.specs.declared.course.Course.{Course}
use Rattle.lb_core.specs.declared.course.Form.{Form}
use Rattle.lb_core.specs.declared.entry.What.{What}
use Rattle.lb_core.specs.declared.entry.What.TheVariants.{Did, Out, Landed, Turn, Close, Over}
use Rattle.lb_core.specs.Sight.{Sight}
use Rattle.lb_core.specs.Leaving.{Leaving, leaving, out_by}
use Rattle.lb_core.specs.QueueAfter.{answer_to, rest_of, cause_of, queue_by}
use Rattle.lb_core.proofs.Leavings.{leaves, is_left}

pub record TurnPart : Type 0 where
  pub version : ℕ
  pub counters : Option (List Counters)
  pub opened : Option OpenTurn

abbrev pub part_of : QueueState → TurnPart
part_of q = record { version = q.version; counters = q.counters; opened = q.open_turn }

abbrev Quiet : QueueState → QueueState → Type 0
Quiet q now = part_of now ≡ part_of q

-- ---- calls of tasks
same_part : (q now : QueueState) → SameTurns q now → Quiet q now
same_part q now s = rw (s.version, s.counters, s.open_turn) refl

call_quiet : CallsKeepRest → (q : QueueState) (call : Call) → is_of_tasks call ≡ true → Quiet q (after_call q call)
call_quiet law q call h = same_part q (after_call q call) ((law q call).turns h)

answer_quiet : CallsKeepRest → (command : Option Command) (at : ℕ) (q : QueueState) → Quiet q (answer_to command at q).1
answer_quiet law (Some (Wake t)) at q = call_quiet law q (WakeCall at t) refl
answer_quiet law (Some (Sleep t)) at q = call_quiet law q (SleepCall at t) refl
answer_quiet law (Some (Exit t)) at q = call_quiet law q (ExitCall at t) refl
answer_quiet law (Some (SetMask t mask)) at q = call_quiet law q (MaskCall at t mask) refl
answer_quiet law (Some (Nice t nice)) at q = call_quiet law q (Renice at t nice) refl
answer_quiet law (Some (Tick cpu)) at q = call_quiet law q (TickCall at) refl
answer_quiet law command at q = refl

leaves_tasks : (call : Call) → leaves call ≡ true → is_of_tasks call ≡ true
leaves_tasks (Leave at id to) h = refl
leaves_tasks (TakeStop at id to) h = refl
leaves_tasks (TakePush at to) h = refl
leaves_tasks (Take at env) h = refl
leaves_tasks call h = absurd (let y : ⊥ = cc in y)

out_quiet : CallsKeepRest → (f : Form) (h : Header) (c : Course) (q : QueueState) → Quiet q (rest_of (out_by f h c q) q)
out_quiet law f h c q = by_out (out_by f h c q) refl
  where
    by_out : (o : Option Leaving) → out_by f h c q ≡ o → Quiet q (rest_of o q)
    by_out None e = refl
    by_out (Some l) e = let left = is_left f h c q l e in
        subst (λ (x : Leaving). Quiet q x.rest) left.is (call_quiet law q left.call (leaves_tasks left.call left.leaves))

-- ---- each entry
-- the entries that change it
abbrev pub turns : What → Bool
turns (Turn ps) = true
turns (Close p w i f) = true
turns Over = true
turns w = false

pub quiet_by : CallsKeepRest → (w : What) (s : Sight) (lane : ℕ) → turns w ≡ false → part_of (queue_by w s lane) ≡ part_of s.queue
unfolding leaving ask_active kick
quiet_by law (Did r) s lane n = answer_quiet law s.course.command s.course.at s.queue
quiet_by law (Out cause to tasks) s lane n = out_quiet law s.course.form s.header s.course s.queue
quiet_by law (Landed tasks) s lane n = call_quiet law s.queue
    (Land s.course.at (cause_of s.course) s.course.moment s.course.hand) refl
quiet_by law (Turn ps) s lane n = absurd (let y : ⊥ = cc in y)
quiet_by law (Close p w i f) s lane n = absurd (let y : ⊥ = cc in y)
quiet_by law Over s lane n = absurd (let y : ⊥ = cc in y)
quiet_by law w s lane n = refl
