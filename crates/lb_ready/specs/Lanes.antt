-- What every lane keeps whatever its form: it has a number for each CPU, its position is one that a mask has
-- room for, and the masks that it is to publish part the CPUs.
-- Cited by the law `lanes_suit`; also by `lb_state`.
use Rattle.std.specs.Prelude.{◌≡◌, ℕ, ◌<◌, Option, Some, None, List, length}
use Rattle.lb_base.specs.declared.mask.TheConstants.{MAX_CPUS}
use Rattle.lb_levels.specs.Faults.{parts_fault_of}
use Rattle.lb_trace.specs.declared.trace.Command.{Command}
use Rattle.lb_trace.specs.declared.trace.Command.TheVariants.{Rebuild}
use Rattle.lb_trace.specs.declared.trace.Header.{Header}
use Rattle.lb_core.specs.declared.course.Course.{Course}
use Rattle.lb_core.specs.Machine.{MachineState, course_at}
use Rattle.lb_ready.specs.Ready.{IsReady}

-- masks that are to be published part the CPUs
abbrev pub PartsCpus : Header → Option Command → Type 0
PartsCpus h (Some (Rebuild parts)) = parts_fault_of (length h.cpus) parts ≡ None
PartsCpus h command = Unit {0}

pub record IsSuited (h : Header) (ns : List ℕ) (at : ℕ) (command : Option Command) : Type 0 where
  pub numbers : length ns ≡ length h.cpus
  pub position : at < MAX_CPUS
  pub parts : PartsCpus h command

abbrev pub Suits : Header → Course → Type 0
Suits h c = IsSuited h c.named c.position c.command

-- so for each declared lane of a ready machine
abbrev pub LanesSuit : Type 0
LanesSuit = (m : MachineState) (lane : ℕ) → IsReady m → lane < length m.courses → Suits m.header (course_at m.courses lane)
