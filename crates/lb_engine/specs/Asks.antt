-- What the step of an entry asks of the machine beside what its call of a queue asks: named facts, each of
-- which a machine that is ready has for an entry that may be added.
-- Cited by the contracts of `Engine::take_out`, `Engine::take_row`, `Engine::take_look` and others; also by
-- `lb_draw`, `lb_due` and other crates.
use Rattle.std.specs.Prelude.{◌≡◌, ℕ, ◌<◌, Bool, true, false, Option, Some, None, IfSome, List, length}
use Rattle.lb_base.specs.declared.figure.Fig.{Fig}
use Rattle.lb_queue.specs.Queue.{QueueState, is_awake}
use Rattle.lb_trace.specs.declared.trace.Command.{Command}
use Rattle.lb_trace.specs.declared.trace.Command.TheVariants.{Tick, Rebuild}
use Rattle.lb_levels.specs.Faults.{parts_fault_of}
use Rattle.lb_core.specs.declared.course.Course.{Course}
use Rattle.lb_core.specs.declared.course.Form.{Form}
use Rattle.lb_core.specs.declared.course.Form.TheVariants.{Looked}
use Rattle.lb_core.specs.Course.{turn_domains}
use Rattle.lb_core.specs.declared.entry.FigName.{FigName}
use Rattle.lb_core.specs.declared.place.Place.{Place}
use Rattle.lb_core.specs.declared.place.Place.TheVariants.{Awake as AwakeAt}
use Rattle.lb_core.specs.Machine.{MachineState, figures_at, place_at}
use Rattle.lb_core.specs.OpenTurns.{IsVersion}

-- ---- rows and their answers
-- a ticked CPU is one of so many
abbrev pub TicksBelow : ℕ → Command → Type 0
TicksBelow n (Tick cpu) = cpu < n
TicksBelow n command = Unit {0}

abbrev pub is_awake_place : Place → Bool
is_awake_place (AwakeAt cpu) = true
is_awake_place place = false

-- the task has a place, and is awake there exactly where it is awake in the queue that answers
abbrev pub IsMapped : MachineState → QueueState → Option ℕ → Type 0
IsMapped m q task = IfSome task (λ t. (t < length m.places) × (is_awake q t ≡ is_awake_place (place_at m t)))

-- the masks that are to be published part the CPUs
abbrev pub RebuildAsks : ℕ → Option Command → Type 0
RebuildAsks cpus (Some (Rebuild parts)) = parts_fault_of cpus parts ≡ None
RebuildAsks cpus command = Unit {0}

-- ---- versions and figures
-- the lane took up a published version, and its turn is of a CPU of the machine
pub record HasTurn (m : MachineState) (c : Course) : Type 0 where
  pub version : IsVersion m c.version c.masks
  pub turned : c.cpu < length m.header.cpus

-- where a pull is due, the position in work is one of the turn's domains
pub record HasPosition (m : MachineState) (c : Course) : Type 0 where
  pub turn : HasTurn m c
  pub inside : c.position < length (turn_domains m.header c)

abbrev pub PullAsks : Form → MachineState → Course → Type 0
PullAsks Looked m c = HasPosition m c
PullAsks f m c = Unit {0}

-- a figure of that name was published
pub record IsPublished (figures : List (List Fig)) (name : FigName) : Type 0 where
  pub cpu_is : name.cpu < length figures
  pub there : name.n < length (figures_at figures name.cpu)
