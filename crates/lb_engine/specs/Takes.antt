-- What the step of an entry asks of the engine, by its owner and its kind; and what it does to hands and
-- bookings.
-- Cited by the contracts of `Engine::take`, `Engine::take_beside`, `Engine::serve` and others; also by `lb_state`.
use Rattle.std.specs.Prelude.{◌≡◌, ℕ, ◌+◌, ◌^◌, ◌<◌, ◌≤◌, Bool, true, false, is_some, IsSome, IsSomeAnd, All, List, length}
use Rattle.lb_base.specs.declared.mask.TheConstants.{MAX_CPUS}
use Rattle.lb_queue.specs.declared.answers.OutCause.{OutCause}
use Rattle.lb_queue.specs.Queue.{QueueState}
use Rattle.lb_queue.specs.Turns.{IsOpenAt}
use Rattle.lb_core.specs.declared.course.Course.{Course}
use Rattle.lb_core.specs.declared.entry.Entry.{Entry}
use Rattle.lb_core.specs.declared.entry.FigName.{FigName}
use Rattle.lb_core.specs.declared.entry.Owner.{Owner}
use Rattle.lb_core.specs.declared.entry.Owner.TheVariants.{Queue}
use Rattle.lb_core.specs.declared.entry.What.{What}
use Rattle.lb_core.specs.declared.entry.What.TheVariants.{Row, Adopt, Look, Scan, End, Did, Out, Landed, Turn, Shut, Close, Ask, Kick, Over, Pub}
use Rattle.lb_core.specs.Course.{task_of, turn_domain, source_of}
use Rattle.lb_core.specs.Leaving.{leaving}
use Rattle.lb_core.specs.Machine.{MachineState, course_at, queue_at, figures_at, sight}
use Rattle.lb_core.specs.Placed.{is_flight}
use Rattle.lb_core.specs.Asks.{CommandAsks, LandingAsks, OpeningAsks}
use Rattle.lb_engine.specs.Asks.{TicksBelow, IsMapped, RebuildAsks, HasTurn, HasPosition, PullAsks, IsPublished}
use Rattle.lb_engine.specs.Held.{Held, hand_at, in_hands}
use Rattle.lb_engine.specs.Leaves.{IsDue, HasTakenOff, HasLanded}
use Rattle.lb_engine.specs.Steps.{of_queue}

-- ---- entries of lanes and of the publisher
-- the figures that are named were published, and the lane keeps a number for each of their CPUs
pub record NamesAsks (m : MachineState) (c : Course) (names : List FigName) : Type 0 where
  pub named : All (λ (f : FigName). f.cpu < length c.named) names
  pub there : All (IsPublished m.figures) names

pub record UseAsks (m : MachineState) (version : ℕ) : Type 0 where
  pub some : 1 ≤ version
  pub published : version ≤ length m.versions

pub record LookStepAsks (m : MachineState) (c : Course) (figures : List FigName) : Type 0 where
  pub names : NamesAsks m c figures
  pub turned : c.cpu < MAX_CPUS

abbrev pub LaneAsks : What → MachineState → Course → Type 0
LaneAsks (Row n at command) m c = TicksBelow (length m.ticked) command
LaneAsks (Adopt v k cpu) m c = UseAsks m v
LaneAsks (Look p x names d) m c = LookStepAsks m c names
LaneAsks (Scan names t) m c = NamesAsks m c names
LaneAsks (End unserved) m c = Unit {0}
LaneAsks (Pub v) m c = RebuildAsks (length m.header.cpus) c.command
LaneAsks w m c = ⊥

-- ---- entries of queues
pub record AnswerAsks (m : MachineState) (q : QueueState) (c : Course) : Type 0 where
  pub command : CommandAsks c.command q
  pub mapped : IsMapped m q (task_of c.command)

-- the `out` is the one that is due, goes to a CPU of the machine, and its tasks are declared; and all tasks in hand
-- are few
pub record OutAsks (m : MachineState) (cpu lane : ℕ) (cause : OutCause) (target : ℕ) (tasks : List ℕ) : Type 0 where
  pub due : IsDue (leaving (sight m (of_queue cpu lane (Out cause target tasks)))) cause target (length tasks)
  pub to : target < length m.queues
  pub pull : PullAsks (course_at m.courses lane).form m (course_at m.courses lane)
  pub places : All (λ t. t < length m.places) tasks
  pub few : in_hands m.courses + length tasks < 2 ^ 32

-- the tasks of the hand come to this queue, and are declared
pub record LandedStepAsks (m : MachineState) (q : QueueState) (cpu : ℕ) (c : Course) (tasks : List ℕ) : Type 0 where
  pub hand : LandingAsks c q
  pub here : c.to ≡ cpu
  pub source : source_of c.decision < MAX_CPUS
  pub places : All (λ t. t < length m.places) tasks

pub record TurnStepAsks (m : MachineState) (q : QueueState) (c : Course) (is_open : Bool) : Type 0 where
  pub turn : HasTurn m c
  pub opening : OpeningAsks m.header q c
  pub open_is : is_some q.open_turn ≡ is_open

pub record CloseAsks (m : MachineState) (q : QueueState) (c : Course) : Type 0 where
  pub work : HasPosition m c
  pub position : c.position < MAX_CPUS
  pub open_is : IsOpenAt q.open_turn (turn_domain m.header c).shape.position

pub record OverAsks (m : MachineState) (q : QueueState) (c : Course) : Type 0 where
  pub turn : HasTurn m c
  pub open_is : IsSome q.open_turn

abbrev pub QueueStepAsks : What → MachineState → ℕ → ℕ → QueueState → Course → Type 0
QueueStepAsks (Did r) m cpu lane q c = AnswerAsks m q c
QueueStepAsks (Out cause to tasks) m cpu lane q c = OutAsks m cpu lane cause to tasks
QueueStepAsks (Landed tasks) m cpu lane q c = LandedStepAsks m q cpu c tasks
QueueStepAsks (Turn ps) m cpu lane q c = TurnStepAsks m q c false
QueueStepAsks Shut m cpu lane q c = TurnStepAsks m q c true
QueueStepAsks (Close p w i f) m cpu lane q c = CloseAsks m q c
QueueStepAsks (Ask r) m cpu lane q c = c.position < MAX_CPUS
QueueStepAsks (Kick r) m cpu lane q c = Unit {0}
QueueStepAsks Over m cpu lane q c = OverAsks m q c
QueueStepAsks w m cpu lane q c = ⊥

-- by the kind of the entry
abbrev pub ServeAsks : What → MachineState → ℕ → ℕ → Type 0
ServeAsks w m cpu lane = QueueStepAsks w m cpu lane (queue_at m.queues cpu) (course_at m.courses lane)

-- a queue with figures draws the entry, and its lane keeps a number for the CPU
pub record OfQueueAsks (w : What) (m : MachineState) (cpu lane : ℕ) : Type 0 where
  pub cpu_is : cpu < length m.queues
  pub figures : cpu < length m.figures
  pub opening : 1 ≤ length (figures_at m.figures cpu)
  pub named : cpu < length (course_at m.courses lane).named
  pub few : length m.header.cpus ≤ MAX_CPUS
  pub serve : ServeAsks w m cpu lane

-- ---- all entries
abbrev pub OwnerAsks : Owner → What → MachineState → ℕ → Type 0
OwnerAsks (Queue cpu) w m lane = OfQueueAsks w m cpu lane
OwnerAsks o w m lane = LaneAsks w m (course_at m.courses lane)

abbrev pub is_landing : What → Bool
is_landing (Landed tasks) = true
is_landing w = false

-- the lane is declared, and is in flight exactly where the entry is a landing
pub record TakeAsks (m : MachineState) (e : Entry) : Type 0 where
  pub lane : e.lane < length m.courses
  pub last : e.lane < length m.last
  pub flight : is_flight (course_at m.courses e.lane).form ≡ is_landing e.what
  pub owner : OwnerAsks e.owner e.what m e.lane

-- ---- hands and bookings
-- they stay
pub record StillHeld (before after : Held) : Type 0 where
  pub hands : after.hands ≡ before.hands
  pub booked : after.booked ≡ before.booked

-- unless tasks leave or land
abbrev pub HandsAfter : What → Held → Held → ℕ → ℕ → Type 0
HandsAfter (Out cause to tasks) before after cpu lane = HasTakenOff before after lane to
HandsAfter (Landed tasks) before after cpu lane = IsSomeAnd (hand_at before.hands lane) (λ h. HasLanded before after h lane cpu)
HandsAfter w before after cpu lane = StillHeld before after
