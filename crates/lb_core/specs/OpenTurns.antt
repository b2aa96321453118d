-- The law that turns stay open: after every legal front, what a lane in a turn took up is a published
-- version; its turn is open, at positions of its CPU's domains, at the queue of that CPU until the lane
-- ends it; and the position in work is one of them.
-- Cited by the law `turns_stay_open`; also by `lb_engine`, `lb_judge` and other crates.
use Rattle.std.specs.Prelude.{◌≡◌, ℕ, ◌<◌, ◌≤◌, true, Some, List, length}
use Rattle.lb_base.specs.declared.mask.Mask.{Mask}
use Rattle.lb_base.specs.Mask.{has}
use Rattle.lb_domain.specs.Domains.{domains_of}
use Rattle.lb_queue.specs.declared.answers.OutCause.{OutCause}
use Rattle.lb_queue.specs.declared.answers.OutCause.TheVariants.{Pull as PullOut}
use Rattle.lb_trace.specs.declared.trace.Header.{Header}
use Rattle.lb_core.specs.declared.course.Course.{Course}
use Rattle.lb_core.specs.declared.course.Form.{Form}
use Rattle.lb_core.specs.declared.course.Form.TheVariants.{Flight, Used, Position, Looked, Landed, Closed, Done}
use Rattle.lb_core.specs.declared.entry.Entry.{Entry}
use Rattle.lb_core.specs.Course.{turn_kind}
use Rattle.lb_core.specs.QueueAfter.{cause_of}
use Rattle.lb_core.specs.Machine.{MachineState, queue_at, course_at, masks_at, start}
use Rattle.lb_core.specs.Legal.{run, IsLegalFront}

-- the lane took up this version, with its masks
pub record IsVersion (m : MachineState) (version : ℕ) (masks : List Mask) : Type 0 where
  pub from_first : 1 ≤ version
  pub published : version ≤ length m.versions
  pub masks_are : masks ≡ masks_at m version

-- its turn is open at the queue of its CPU, at positions of the CPU's domains
pub record IsOpenFor (m : MachineState) (lane : ℕ) (c : Course) : Type 0 where
  pub taken_up : IsVersion m c.version c.masks
  pub opened : (queue_at m.queues c.cpu).open_turn ≡ Some (record { lane = lane; kind = turn_kind c; positions = c.positions })
  pub inside : (p : ℕ) → has c.positions p ≡ true → p < length (domains_of m.header.cpus m.header.distances c.masks c.cpu)

-- and the position in work is one of them
abbrev pub IsAtPosition : MachineState → ℕ → Course → Type 0
IsAtPosition m lane c = IsOpenFor m lane c × (has c.positions c.position ≡ true)

-- tasks in flight belong to a turn where they were pulled
abbrev pub FliesInTurn : OutCause → MachineState → ℕ → Course → Type 0
FliesInTurn PullOut m lane c = IsAtPosition m lane c
FliesInTurn cause m lane c = Unit {0}

-- by the form of the lane's course
abbrev pub TurnIn : Form → MachineState → ℕ → Course → Type 0
TurnIn Used m lane c = IsVersion m c.version c.masks
TurnIn Position m lane c = IsAtPosition m lane c
TurnIn Looked m lane c = IsAtPosition m lane c
TurnIn Flight m lane c = FliesInTurn (cause_of c) m lane c
TurnIn Landed m lane c = IsAtPosition m lane c
TurnIn Closed m lane c = IsOpenFor m lane c
TurnIn Done m lane c = IsOpenFor m lane c
TurnIn form m lane c = Unit {0}

abbrev pub KeepsTurn : MachineState → ℕ → Course → Type 0
KeepsTurn m lane c = TurnIn c.form m lane c

abbrev pub TurnsStayOpen : Type 0
TurnsStayOpen = (h : Header) (es : List Entry) (lane : ℕ) → IsLegalFront h es
    → (let m = run es (start h) in KeepsTurn m lane (course_at m.courses lane))
