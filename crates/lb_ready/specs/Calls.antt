-- What the call that an entry stands for asks, with the values that the course of its lane fixes: of the
-- queue that draws the entry, of a decision, and of the search for the target of a kick.
-- For the definitions of `Laws`, and so for the laws `ready`, `entries_fall` and others; cited by `lb_draw`, `lb_due`
-- and other crates.
use Rattle.std.specs.Prelude.{◌≡◌, ℕ, ◌<◌, ◌≤◌, true, false, Option, Some, IfSome, IsSome, Bool, All, length, find, is_some, ◌==◌, List}
use Rattle.lb_base.specs.declared.mask.TheConstants.{MAX_CPUS}
use Rattle.lb_base.specs.Mask.{has}
use Rattle.lb_base.specs.Figures.{AllHaveFigures}
use Rattle.lb_imbalance.specs.Conditions.{IsUnion, HaveSmallSums}
use Rattle.lb_trace.specs.declared.trace.Command.{Command}
use Rattle.lb_trace.specs.declared.trace.Command.TheVariants.{Wake}
use Rattle.lb_queue.specs.declared.record.TaskRecord.{TaskRecord}
use Rattle.lb_queue.specs.declared.answers.OutCause.{OutCause}
use Rattle.lb_queue.specs.declared.answers.OutCause.TheVariants.{Wake as WakeOut, Push as PushOut}
use Rattle.lb_queue.specs.Tasks.{awake_with, task_with}
use Rattle.lb_queue.specs.Queue.{QueueState, away}
use Rattle.lb_queue.specs.Requests.{next_stop}
use Rattle.lb_queue.specs.Hands.{stop_to}
use Rattle.lb_queue.specs.Turns.{IsOpenAt}
use Rattle.lb_core.specs.declared.course.Course.{Course}
use Rattle.lb_core.specs.declared.entry.What.{What}
use Rattle.lb_core.specs.declared.entry.What.TheVariants.{Look, Did, Out, Landed, Turn, Shut, Close, Over, Scan}
use Rattle.lb_core.specs.declared.entry.CpuFig.{CpuFig}
use Rattle.lb_core.specs.declared.place.Place.{Place}
use Rattle.lb_core.specs.declared.place.Place.TheVariants.{Awake as AwakeAt, Asleep as AsleepAt, Gone as GoneAt, Hand as HandOf}
use Rattle.lb_core.specs.Machine.{MachineState, queue_at}
use Rattle.lb_core.specs.Course.{turn_domain, widest_span}
use Rattle.lb_core.specs.Sight.{Sight, by_cpu}
use Rattle.lb_core.specs.Leaving.{leaving}
use Rattle.lb_core.specs.Asks.{CommandAsks, LandingAsks, OpeningAsks}
use Rattle.lb_ready.specs.Ready.{local_group}

-- a task that wakes elsewhere has to, and a push goes where the active request goes
abbrev pub LeavingAsks : OutCause → Option Command → ℕ → QueueState → Type 0
LeavingAsks WakeOut (Some (Wake t)) to q = away q t ≡ Some to
LeavingAsks PushOut command to q = q.active ≡ Some to
LeavingAsks cause command to q = Unit {0}

-- the tasks of the hand may land at this queue, and may run there
pub record LandedAsks (c : Course) (q : QueueState) : Type 0 where
  pub landing : LandingAsks c q
  pub permitted : All (λ (t : TaskRecord). has t.mask q.cpu ≡ true) c.hand

-- a turn may open over the domains of the course
abbrev pub TurnAsks : Sight → Type 0
TurnAsks s = OpeningAsks s.header s.queue s.course

-- by the kind of the entry
abbrev pub QueueAsks : What → Sight → Type 0
QueueAsks (Did r) s = CommandAsks s.course.command s.queue
QueueAsks (Out cause to tasks) s = IfSome (leaving s) (λ l. LeavingAsks l.cause s.course.command l.to s.queue)
QueueAsks (Landed tasks) s = LandedAsks s.course s.queue
QueueAsks (Turn ps) s = TurnAsks s
QueueAsks Shut s = TurnAsks s
QueueAsks (Close p w i f) s = IsOpenAt s.queue.open_turn (turn_domain s.header s.course).shape.position
QueueAsks Over s = IsSome s.queue.open_turn
QueueAsks w s = Unit {0}

-- before the answer is known: all but what a command asks
abbrev pub TrialAsks : What → Sight → Type 0
TrialAsks (Did r) s = Unit {0}
TrialAsks w s = QueueAsks w s

-- the next stop of a queue is that of a task that is asked to leave
abbrev pub StopAsks : QueueState → Type 0
StopAsks q = (owed : Bool) → IfSome (next_stop q owed) (λ s. stop_to q s.id ≡ Some s.to)

-- ---- where a task is
-- in which of the lists of a queue it stands
pub record IsOn (q : QueueState) (t : ℕ) (is_awake is_asleep is_gone : Bool) : Type 0 where
  pub awake : is_some (awake_with t q.awake) ≡ is_awake
  pub asleep : is_some (task_with t q.asleep) ≡ is_asleep
  pub gone : is_some (task_with t q.gone) ≡ is_gone

-- in the list of the place, and in no other
abbrev pub IsOnAt : MachineState → ℕ → Place → Type 0
IsOnAt m t (AwakeAt cpu) = (cpu < length m.header.cpus) × IsOn (queue_at m.queues cpu) t true false false
IsOnAt m t (AsleepAt cpu) = (cpu < length m.header.cpus) × IsOn (queue_at m.queues cpu) t false true false
IsOnAt m t (GoneAt cpu) = (cpu < length m.header.cpus) × IsOn (queue_at m.queues cpu) t false false true
IsOnAt m t (HandOf lane) = Unit {0}

-- ---- decisions
-- the entry names a figure of the CPU
abbrev pub IsNamed : List CpuFig → ℕ → Type 0
IsNamed figures k = is_some (find (λ f. f.cpu == k) figures) ≡ true

-- the groups of the domain are few and make up its span; the first has the CPU, and none of its CPUs
-- is excluded; each CPU of the span has a figure, of those that are not excluded a named one, and the
-- sums of the figures are small
pub record DecideAsks (s : Sight) : Type 0 where
  pub count : length (turn_domain s.header s.course).groups ≤ MAX_CPUS
  pub union : IsUnion (turn_domain s.header s.course).shape.span (turn_domain s.header s.course).groups
  pub local : has (local_group s.header s.course) s.course.cpu ≡ true
  pub kept : (k : ℕ) → has (local_group s.header s.course) k ≡ true → has s.course.excluded k ≡ false
  pub figures : AllHaveFigures (by_cpu s.figs) (turn_domain s.header s.course).shape.span
  pub named : (k : ℕ) → has (turn_domain s.header s.course).shape.span k ≡ true → has s.course.excluded k ≡ false → IsNamed s.figs k
  pub sums : HaveSmallSums (by_cpu s.figs) s.course.excluded (turn_domain s.header s.course).groups

-- each CPU of the span that is scanned has a named figure
pub record ScanAsks (s : Sight) : Type 0 where
  pub figures : AllHaveFigures (by_cpu s.figs) (widest_span s.header s.course)
  pub named : (k : ℕ) → has (widest_span s.header s.course) k ≡ true → IsNamed s.figs k

-- what is asked of a decision, and of the search for a target
abbrev pub LookAsks : What → Sight → Type 0
LookAsks (Look p x names d) s = DecideAsks s
LookAsks (Scan names t) s = ScanAsks s
LookAsks w s = Unit {0}
