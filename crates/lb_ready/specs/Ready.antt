-- What every reachable state of the machine keeps: a legal front leads to it, each task stands at one
-- place where it may be, what courses and queues speak of is of the machine, owed stop requests are being
-- served, what lanes have named was published, turns stay open, and numbers stay small.
-- For the definitions of `Calls`, `Lanes` and others, and so for the laws `lanes_suit`, `ready` and others; cited by
-- `lb_draw`, `lb_due` and other crates.
use Rattle.std.specs.Prelude.{◌≡◌, ℕ, ◌<◌, ◌≤◌, ◌+◌, ◌*◌, nat_lt, nat_le, Bool, true, false, not, ◌&&◌, Option, Some, None, is_some, unwrap_or, ◌^◌, List, [], length}
use Rattle.std.specs.List.{list_all, slice_index_or}
use Rattle.lb_base.specs.declared.shape.Kind.TheVariants.{Tick as TickTurn}
use Rattle.lb_base.specs.declared.mask.Mask.{Mask}
use Rattle.lb_base.specs.declared.figure.Fig.{Fig}
use Rattle.lb_base.specs.Figures.{no_fig}
use Rattle.lb_base.specs.Mask.{has, no_cpus}
use Rattle.lb_base.specs.Sets.{is_empty, is_below}
use Rattle.lb_pelt.specs.Signal.{Sums}
use Rattle.lb_interval.specs.declared.Counters.{Counters}
use Rattle.lb_imbalance.specs.Decision.{group_at}
use Rattle.lb_trace.specs.declared.trace.Command.{Command}
use Rattle.lb_trace.specs.declared.trace.Command.TheVariants.{Wake, Sleep, Exit, SetMask, Nice, Tick, Rebuild}
use Rattle.lb_trace.specs.declared.trace.Header.{Header}
use Rattle.lb_trace.specs.Accepted.{IsHeader, is_nice_value}
use Rattle.lb_queue.specs.declared.answers.OutCause.{OutCause}
use Rattle.lb_queue.specs.declared.answers.OutCause.TheVariants.{Pull as PullOut}
use Rattle.lb_queue.specs.declared.record.TaskRecord.{TaskRecord}
use Rattle.lb_queue.specs.Turns.{counters_at}
use Rattle.lb_queue.specs.Queue.{QueueState}
use Rattle.lb_queue.specs.Requests.{has_owed}
use Rattle.lb_core.specs.declared.course.Course.{Course}
use Rattle.lb_core.specs.declared.course.Form.{Form}
use Rattle.lb_core.specs.declared.course.Form.TheVariants.{Asked, Flight, Serving, Due, Position, Looked, Landed as LandedForm, ScanDue, Kicking, Ended}
use Rattle.lb_core.specs.declared.entry.CpuFig.{CpuFig}
use Rattle.lb_core.specs.declared.entry.What.{What}
use Rattle.lb_core.specs.declared.entry.What.TheVariants.{Row}
use Rattle.lb_core.specs.declared.entry.Entry.{Entry}
use Rattle.lb_core.specs.Same.{same_kind}
use Rattle.lb_core.specs.Course.{ticked_cpu, is_tick, turn_kind, turn_domains, turn_domain, is_pull, source_of, named_at}
use Rattle.lb_core.specs.Sight.{tickless_in}
use Rattle.lb_core.specs.Stage.{target_of}
use Rattle.lb_core.specs.QueueAfter.{cause_of}
use Rattle.lb_core.specs.Machine.{MachineState, queue_at, course_at, figures_at, entries_at, start}
use Rattle.lb_core.specs.Placed.{IsPlaced, HandsRest}
use Rattle.lb_core.specs.Legal.{run, IsLegalFront}
use Rattle.lb_core.specs.Permitted.{IsPermitted}
use Rattle.lb_core.specs.OpenTurns.{IsVersion, KeepsTurn}
use Rattle.lb_core.specs.TurnCounters.{FitsDomains, domains_in_version}

-- ---- entries in range
-- all that no rule asks of an entry and a ready machine needs: the nice value of a row is one
abbrev pub nice_fits : What → Bool
nice_fits (Row n at (Nice t nice)) = is_nice_value nice
nice_fits w = true

-- ---- sizes
-- what the machine has one of for each CPU or lane; there is a version, and each CPU has a figure; and
-- what is counted is at most the last ticket
pub record HasSizes (m : MachineState) : Type 0 where
  pub queues : length m.queues ≡ length m.header.cpus
  pub figures : length m.figures ≡ length m.header.cpus
  pub courses : length m.courses ≡ m.header.lanes
  pub lasts : length m.last ≡ m.header.lanes
  pub ticks : length m.ticked ≡ length m.header.cpus
  pub versions : 1 ≤ length m.versions
  pub few_versions : length m.versions ≤ m.ticket + 1
  pub published : (cpu : ℕ) → cpu < length m.header.cpus → 1 ≤ length (figures_at m.figures cpu)
  pub drawn : (cpu : ℕ) → entries_at m cpu ≤ m.ticket
  pub last : (lane : ℕ) → slice_index_or m.last lane 0 ≤ m.ticket

-- ---- courses
-- the course without the numbers of the figures that it has named, which no form asks for
abbrev pub unnamed : Course → Course
unnamed c = record c { named = [] }

-- the command names what is declared, and its nice value is in range
abbrev pub Names : Header → Option Command → Type 0
Names h None = Unit {0}
Names h (Some (Wake t)) = t < length h.tasks
Names h (Some (Sleep t)) = t < length h.tasks
Names h (Some (Exit t)) = t < length h.tasks
Names h (Some (SetMask t mask)) = t < length h.tasks
Names h (Some (Nice t nice)) = (t < length h.tasks) × (is_nice_value nice ≡ true)
Names h (Some (Tick cpu)) = cpu < length h.cpus
Names h (Some (Rebuild parts)) = Unit {0}

-- what a form asks of the other fields: a scan is due over a domain, without excluded CPUs, and the last
-- form is reached at the end alone
abbrev pub FitsForm : Bool → Header → Form → Course → Type 0
FitsForm ended h Asked c = is_some c.command ≡ true
FitsForm ended h Flight c = c.to < length h.cpus
FitsForm ended h Serving c = is_tick c.command ≡ true
FitsForm ended h Due c = same_kind (turn_kind c) TickTurn ≡ false
FitsForm ended h Looked c = is_some c.decision ≡ true
FitsForm ended h ScanDue c = (c.excluded ≡ no_cpus) × (0 < length (turn_domains h c))
FitsForm ended h Kicking c = is_some (target_of c) ≡ true
FitsForm ended h Ended c = ended ≡ true
FitsForm ended h f c = Unit {0}

-- the mask has CPUs, and those of the machine alone
abbrev pub is_mask_in : ℕ → Mask → Bool
is_mask_in cpus m = is_below m cpus && not (is_empty m)

-- the signal is in its bounds
abbrev pub is_bounded : Sums → Bool
is_bounded s =
    nat_lt s.part 1024 && nat_le s.load_sum (46718 + s.part) && nat_le s.runnable_sum
    (1024 * (46718 + s.part) + 49152) && nat_le s.util_sum (1024 * (46718 + s.part) + 49152)

-- both, of a task
abbrev pub is_task_in : ℕ → TaskRecord → Bool
is_task_in cpus t = is_mask_in cpus t.mask && is_bounded t.signal

-- what a course speaks of is of the machine: the CPU of its turn, the source of its pull, the CPUs
-- that its scan shows tickless, its command, and where the tasks in its hand may run; it drew at most
-- `ticket` rows, and the excluded CPUs are a mask
pub record IsOfMachine (h : Header) (ticket rows cpu source : ℕ) (figures : List CpuFig) (command : Option Command)
    (hand : List TaskRecord) (excluded : Mask) : Type 0 where
  pub counted : rows ≤ ticket
  pub turned : cpu < length h.cpus
  pub pulled : source < length h.cpus
  pub tickless : (k : ℕ) → has (tickless_in figures) k ≡ true → k < length h.cpus
  pub names : Names h command
  pub masks : list_all (λ t. is_task_in (length h.cpus) t) hand ≡ true
  pub narrow : excluded.bits < 2 ^ 64

abbrev pub Speaks : Header → ℕ → Course → Type 0
Speaks h ticket c = IsOfMachine h ticket c.rows c.cpu (source_of c.decision) c.figures c.command c.hand c.excluded

-- and its form asks no more than it has; `ended` says whether the end was drawn
pub record Fits (ended : Bool) (h : Header) (ticket : ℕ) (c : Course) : Type 0 where
  pub says : Speaks h ticket c
  pub form : FitsForm ended h c.form (unnamed c)

-- ---- queues
-- the queue is that of this CPU and of a machine of so many; no task on it, and no active request, may
-- go past the machine, and the signals of its tasks are in their bounds
pub record IsQueueOf (cpus cpu : ℕ) (q : QueueState) : Type 0 where
  pub own : q.cpu ≡ cpu
  pub machine : q.cpus ≡ cpus
  pub awake : list_all (λ a. is_task_in cpus a.task) q.awake ≡ true
  pub asleep : list_all (λ t. is_task_in cpus t) q.asleep ≡ true
  pub gone : list_all (λ t. is_task_in cpus t) q.gone ≡ true
  pub active : (to : ℕ) → q.active ≡ Some to → to < cpus

-- ---- owed stop requests
-- tasks leave by a pull
abbrev pub is_pulling : OutCause → Bool
is_pulling PullOut = true
is_pulling cause = false

-- by its form, a course serves the tick of a CPU: its requests, or tasks in flight that left for one
abbrev pub ServesIn : Form → Course → ℕ → Type 0
ServesIn Serving c cpu = ticked_cpu c.command ≡ Some cpu
ServesIn Flight c cpu = (ticked_cpu c.command ≡ Some cpu) × (is_pulling (cause_of c) ≡ false)
ServesIn f c cpu = ⊥

-- so for the form that it has
abbrev pub Serves : Course → ℕ → Type 0
Serves c cpu = ServesIn c.form (unnamed c) cpu

-- a lane serves the tick of this CPU
pub record IsServedBy (m : MachineState) (cpu : ℕ) : Type 0 where
  pub lane : ℕ
  pub serves : Serves (course_at m.courses lane) cpu

-- ---- versions and figures
-- what a lane has named was published
pub record NamesPublished (m : MachineState) (c : Course) : Type 0 where
  pub version : c.named_version ≤ length m.versions
  pub figures : (cpu : ℕ) → named_at c cpu ≤ entries_at m cpu

-- ---- scans
-- a scan that is due is over a published version
abbrev pub ScansIn : Form → MachineState → ℕ → List Mask → Type 0
ScansIn ScanDue m version masks = IsVersion m version masks
ScansIn f m version masks = Unit {0}

abbrev pub ScansVersion : MachineState → Course → Type 0
ScansVersion m c = ScansIn c.form m c.version c.masks

-- ---- excluded CPUs
-- the local group of the position in work
abbrev pub local_group : Header → Course → Mask
local_group h c = group_at (turn_domain h c).groups 0

-- none of its CPUs is excluded
abbrev pub SparesLocal : Header → Course → Type 0
SparesLocal h c = (k : ℕ) → has (local_group h c) k ≡ true → has c.excluded k ≡ false

-- of tasks in flight: nor were they pulled from one
abbrev pub PullsSparing : OutCause → Header → Course → Type 0
PullsSparing PullOut h c = SparesLocal h c × (has (local_group h c) (source_of c.decision) ≡ false)
PullsSparing cause h c = Unit {0}

-- by its form, a course excludes no CPU of the local group, and pulls from none
abbrev pub Spares : Form → Header → Course → Type 0
Spares Position h c = SparesLocal h c
Spares Looked h c = SparesLocal h c × (is_pull c.decision ≡ true → has (local_group h c) (source_of c.decision) ≡ false)
Spares Flight h c = PullsSparing (cause_of c) h c
Spares LandedForm h c = SparesLocal h c
Spares f h c = Unit {0}

-- so for the form that it has
abbrev pub KeepsLocal : Header → Course → Type 0
KeepsLocal h c = Spares c.form h (unnamed c)

-- ---- counters
-- an interval of at most 1,024 ms, and failures that 32 bits hold
pub record IsInRange (c : Counters) : Type 0 where
  pub interval : c.interval ≤ 1024
  pub failures : c.failures ≤ 4294967295

-- at every position
abbrev pub AreInRange : Option (List Counters) → Type 0
AreInRange counters = (p : ℕ) → IsInRange (counters_at (unwrap_or counters []) p)

-- ---- figures
-- what 4,096 tasks awake and as many asleep can say at most
abbrev pub most_said : ℕ
most_said = 727130112

-- the figure's sums are no more than that
pub record IsSmall (f : Fig) : Type 0 where
  pub nr : f.nr ≤ most_said
  pub load : f.load ≤ most_said
  pub util : f.util ≤ most_said
  pub runnable : f.runnable ≤ most_said

-- ---- the machine
-- it is the state after a legal front
pub record IsReached (m : MachineState) : Type 0 where
  pub front : List Entry
  pub legal : IsLegalFront m.header front
  pub is : run front (start m.header) ≡ m

-- `accepted`: the header is that of an accepted trace. `placed` and `permitted`: each task stands at one
-- place, and may be there or is asked to leave. `hands`: a hand is empty but in flight. `fits`, `named`,
-- `turns`, `scans` and `spares` are of each lane; `queues`, `owed`, `small`, `counts` and `counters_in_range` of each CPU:
-- its queue, who serves its owed requests, its figures, and its counters, as many as it has domains.
pub record IsReady (m : MachineState) : Type 0 where
  pub reached : IsReached m
  pub accepted : IsHeader m.header
  pub sizes : HasSizes m
  pub placed : IsPlaced m
  pub permitted : IsPermitted m
  pub hands : HandsRest m
  pub fits : (lane : ℕ) → Fits m.ended m.header m.ticket (course_at m.courses lane)
  pub queues : (cpu : ℕ) → cpu < length m.header.cpus → IsQueueOf (length m.header.cpus) cpu (queue_at m.queues cpu)
  pub owed : (cpu : ℕ) → has_owed (queue_at m.queues cpu) ≡ true → IsServedBy m cpu
  pub named : (lane : ℕ) → NamesPublished m (course_at m.courses lane)
  pub turns : (lane : ℕ) → KeepsTurn m lane (course_at m.courses lane)
  pub scans : (lane : ℕ) → ScansVersion m (course_at m.courses lane)
  pub spares : (lane : ℕ) → KeepsLocal m.header (course_at m.courses lane)
  pub small : (cpu n : ℕ) → IsSmall (slice_index_or (figures_at m.figures cpu) n no_fig)
  pub counts : (cpu : ℕ) → (let q = queue_at m.queues cpu in FitsDomains (length m.versions) (domains_in_version m q.version cpu) q)
  pub counters_in_range : (cpu : ℕ) → AreInRange (queue_at m.queues cpu).counters
