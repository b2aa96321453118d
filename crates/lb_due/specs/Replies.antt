-- What is replied to a command, by the place of its task.
-- Cited by the contracts of `reply_due` and `done_unless_gone`; also by `lb_draw` and `lb_judge`.
use Rattle.std.specs.Prelude.{◌≡◌, ℕ, Bool, if◌then◌else◌, Option, Some, None}
use Rattle.lb_queue.specs.declared.answers.Reply.{Reply}
use Rattle.lb_queue.specs.declared.answers.Reply.TheVariants.{Done, BadMask, Gone, NotHere}
use Rattle.lb_trace.specs.declared.trace.Command.{Command}
use Rattle.lb_core.specs.declared.place.Place.{Place}
use Rattle.lb_core.specs.declared.place.Place.TheVariants.{Awake as AwakeAt, Asleep as AsleepAt, Gone as GoneAt, Hand as HandOf}
use Rattle.lb_core.specs.Course.{task_of}
use Rattle.lb_core.specs.Machine.{MachineState, place_at}
use Rattle.lb_ready.specs.Next.{cpu_of_place}

-- the CPU's queue answers the command: it is where the task is, if the command is about one
abbrev pub StandsAt : Option ℕ → MachineState → ℕ → Type 0
StandsAt None m cpu = Unit {0}
StandsAt (Some t) m cpu = cpu_of_place (place_at m t) ≡ Some cpu

abbrev pub AnswersAt : Option Command → MachineState → ℕ → Type 0
AnswersAt command m cpu = StandsAt (task_of command) m cpu

-- to a command that is for each task that has not ended, and may be refused for its mask
abbrev pub done_unless_gone : Place → Bool → Reply
done_unless_gone (AwakeAt cpu) is_bad = if is_bad then BadMask else Done
done_unless_gone (AsleepAt cpu) is_bad = if is_bad then BadMask else Done
done_unless_gone (GoneAt cpu) is_bad = Gone
done_unless_gone (HandOf lane) is_bad = NotHere
