-- The step of an entry in layers: what the entry itself changes, then the figure that its queue publishes,
-- then the last tickets.
-- Cited by the contracts of `Engine::take_out`, `Engine::take_landing`, `Engine::take_row` and others; also by
-- `lb_state`.
use Rattle.std.specs.Prelude.{ℕ, ◌+◌, [], ◌∷◌, ◌++◌, length, slice_set}
use Rattle.lb_queue.specs.Figures.{figure}
use Rattle.lb_core.specs.declared.entry.Entry.{Entry}
use Rattle.lb_core.specs.declared.entry.Owner.{Owner}
use Rattle.lb_core.specs.declared.entry.Owner.TheVariants.{Lane, Publisher, Queue}
use Rattle.lb_core.specs.declared.entry.What.{What}
use Rattle.lb_core.specs.CourseAfter.{course_by, cpu_of, drew}
use Rattle.lb_core.specs.Machine.{MachineState, course_at, figures_at, queue_at, sight}
use Rattle.lb_core.specs.QueueAfter.{queue_after}
use Rattle.lb_core.specs.Step.{after}
use Rattle.lb_engine.specs.Held.{Held}

-- the engine with another machine
abbrev pub becomes : MachineState → Held → Held
becomes m p = record p { machine = m }

-- an entry of an owner; the step does not read the ticket before it
abbrev pub entry_of : Owner → ℕ → What → Entry
entry_of owner lane what = record { owner = owner; lane = lane; prev = 0; what = what }

-- an entry of a lane, of the publisher and of a queue
abbrev pub of_lane : ℕ → What → Entry
of_lane lane what = entry_of (Lane lane) lane what

abbrev pub of_publisher : ℕ → What → Entry
of_publisher lane what = entry_of Publisher lane what

abbrev pub of_queue : ℕ → ℕ → What → Entry
of_queue cpu lane what = entry_of (Queue cpu) lane what

-- the machine after an entry, with the last tickets of before
abbrev pub stepped : MachineState → Entry → MachineState
stepped m e = record (after m e) { ticket = m.ticket; last = m.last }

-- and without the figure of the queue and its number
abbrev pub served : MachineState → Entry → MachineState
served m e =
    record (stepped m e) {
      figures = m.figures;
      courses = slice_set m.courses e.lane (course_by e.what (sight m e) (cpu_of e.owner) (queue_after (sight m e) e));
    }

-- the queue of a CPU publishes its figure, which its lane knows from then on
abbrev pub published : MachineState → ℕ → ℕ → MachineState
published m cpu lane =
    let number = length (figures_at m.figures cpu) in
    record m {
      figures = slice_set m.figures cpu (figures_at m.figures cpu ++ figure (queue_at m.queues cpu) number (m.ticket + 1) ∷ []);
      courses = slice_set m.courses lane (drew (Queue cpu) number (course_at m.courses lane));
    }
