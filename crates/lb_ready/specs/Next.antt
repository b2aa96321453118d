-- The entry that a lane draws next where it makes the newest choices: it takes up the last published
-- version, and reads each queue's last figure. At rest it takes up the row that is given, or without one
-- goes on closing the history. Two laws say that this is the serial entry: what comes next may be added,
-- and no other serial entry of the lane may.
-- For the definitions of `Laws`, and so for the laws `ready`, `entries_fall` and others; cited by `lb_draw`, `lb_due`
-- and other crates.
use Rattle.std.specs.Prelude.{ℕ, ◌+◌, ◌-◌, ◌≡◌, ◌==◌, nat_lt, Bool, true, not, ◌&&◌, ◌||◌, if◌then◌else◌, Option, Some, None, is_some, unwrap_or, option_to_list, List, [], map, length}
use Rattle.std.specs.List.{slice_index_or}
use Rattle.lb_base.specs.declared.shape.Kind.TheVariants.{Tick as TickTurn}
use Rattle.lb_base.specs.Mask.{members}
use Rattle.lb_base.specs.Sets.{least}
use Rattle.lb_imbalance.specs.Decision.{decision}
use Rattle.lb_queue.specs.Tasks.{ids}
use Rattle.lb_queue.specs.Queue.{QueueState}
use Rattle.lb_queue.specs.Requests.{has_owed, ask_active, kick}
use Rattle.lb_trace.specs.declared.trace.Command.{Command}
use Rattle.lb_trace.specs.declared.trace.Row.{Row}
use Rattle.lb_core.specs.declared.course.Course.{Course}
use Rattle.lb_core.specs.declared.course.Form.{Form}
use Rattle.lb_core.specs.declared.course.Form.TheVariants.{Rest, Asked, Flight, Serving, Due, Used, Position, Looked, Landed as LandedForm, Closed, Done, ScanDue, Kicking, Ended}
use Rattle.lb_core.specs.declared.entry.Entry.{Entry}
use Rattle.lb_core.specs.declared.entry.FigName.{FigName}
use Rattle.lb_core.specs.declared.entry.Owner.{Owner}
use Rattle.lb_core.specs.declared.entry.Owner.TheVariants.{Publisher, Lane, Queue}
use Rattle.lb_core.specs.declared.entry.What.{What}
use Rattle.lb_core.specs.declared.entry.What.TheVariants.{Row as RowEntry, Adopt, Look, Scan, End, Did, Out, Landed, Turn, Shut, Close, Ask, Kick, Over, Pub}
use Rattle.lb_core.specs.declared.place.Place.{Place}
use Rattle.lb_core.specs.declared.place.Place.TheVariants.{Awake as AwakeAt, Asleep as AsleepAt, Gone as GoneAt, Hand as HandOf}
use Rattle.lb_core.specs.Course.{ticked_cpu, is_tick, is_rebuild, task_of, turn_kind, turn_domain, is_pull, looks_again, outcome_of}
use Rattle.lb_core.specs.Sight.{Sight, by_cpu, tickless_in}
use Rattle.lb_core.specs.Stage.{queue_due, push_is_due}
use Rattle.lb_core.specs.Leaving.{Leaving, out_by}
use Rattle.lb_core.specs.QueueAfter.{answer_to}
use Rattle.lb_core.specs.Rules.{is_undeclared, leaves_instead, figures_due, word_of, positions_due, closed_counters}
use Rattle.lb_core.specs.Machine.{MachineState, queue_at, course_at, place_at, entries_at, figures_named}
use Rattle.lb_core.specs.Elsewhere.{all_rest, first_pending, unserved, ticked_elsewhere}
use Rattle.lb_core.specs.Legal.{MayBeAdded}
use Rattle.lb_core.specs.OfTrace.{row_of}
use Rattle.lb_core.specs.Serial.{is_serial}

-- ---- whose the entry is
-- where the map has a task, if no lane has it in its hand
abbrev pub cpu_of_place : Place → Option ℕ
cpu_of_place (AwakeAt cpu) = Some cpu
cpu_of_place (AsleepAt cpu) = Some cpu
cpu_of_place (GoneAt cpu) = Some cpu
cpu_of_place (HandOf lane) = None

abbrev pub cpu_of_task : Option ℕ → MachineState → Option ℕ
cpu_of_task None m = None
cpu_of_task (Some t) m = cpu_of_place (place_at m t)

-- the queue that a course leaves open: the first one with a pending stop, or the one where the task is
abbrev pub cpu_open : Form → MachineState → Course → Option ℕ
cpu_open Rest m c = first_pending m
cpu_open f m c = cpu_of_task (task_of c.command) m

-- the CPU whose queue draws next, where a queue does
abbrev pub cpu_next : Form → MachineState → Course → ℕ
cpu_next f m c = unwrap_or (queue_due f c) (unwrap_or (cpu_open f m c) 0)

abbrev pub queue_next : Form → MachineState → Course → QueueState
queue_next f m c = queue_at m.queues (cpu_next f m c)

abbrev pub owner_of : What → ℕ → ℕ → Owner
owner_of (RowEntry n at command) lane cpu = Lane lane
owner_of (Adopt v kind turned) lane cpu = Lane lane
owner_of (Look p x names d) lane cpu = Lane lane
owner_of (Scan names t) lane cpu = Lane lane
owner_of (End cpus) lane cpu = Lane lane
owner_of (Pub v) lane cpu = Publisher
owner_of w lane cpu = Queue cpu

-- ---- what it says
-- what the values read of a course and a queue, where no version and no figure is named
abbrev pub bare : MachineState → Course → QueueState → Sight
bare m c q = record { header = m.header; course = c; queue = q; count = 0; masks = []; figs = [] }

-- the last figures of these CPUs
abbrev pub newest : MachineState → List ℕ → List FigName
newest m cpus = map (λ cpu. record { cpu = cpu; n = entries_at m cpu }) cpus

-- those that are due
abbrev pub newest_due : Form → MachineState → Course → List FigName
newest_due f m c = newest m (members (figures_due f (bare m c (queue_next f m c))))

abbrev pub look_over : MachineState → Course → List FigName → What
look_over m c names =
    Look c.position c.excluded names
    (decision (turn_domain m.header c).shape (turn_domain m.header c).groups
    (by_cpu (figures_named m.figures names)) c.cpu (turn_kind c) c.excluded)

abbrev pub scan_over : MachineState → List FigName → What
scan_over m names = Scan names (least (tickless_in (figures_named m.figures names)))

abbrev pub close_of : MachineState → Course → QueueState → What
close_of m c q =
    Close c.position (word_of (outcome_of m.header c)) (closed_counters (bare m c q)).interval (closed_counters (bare m c q)).failures

-- where nothing is to leave, nothing is said
abbrev pub out_of : Option Leaving → What
out_of None = Over
out_of (Some l) = Out l.cause l.to (ids l.hand)

abbrev pub what_by : Form → MachineState → Course → QueueState → What
what_by Rest m c q = if is_some (first_pending m) then out_of (out_by Rest m.header c q) else End (unserved m)
what_by Asked m c q =
    if is_rebuild c.command then Pub (length m.versions - 1 + 2)
    else if leaves_instead c.command q then out_of (out_by Asked m.header c q)
    else Did (answer_to c.command c.at q).0
what_by Flight m c q = Landed (ids c.hand)
what_by Serving m c q =
    if has_owed q || push_is_due c q then out_of (out_by Serving m.header c q)
    else Adopt (length m.versions) TickTurn (unwrap_or (ticked_cpu c.command) 0)
what_by Due m c q = Adopt (length m.versions) (turn_kind c) c.cpu
what_by Used m c q = if is_some q.open_turn then Shut else Turn (positions_due (bare m c q))
what_by Position m c q = look_over m c (newest_due Position m c)
what_by Looked m c q = if is_pull c.decision then out_of (out_by Looked m.header c q) else close_of m c q
what_by LandedForm m c q = if looks_again m.header c then look_over m c (newest_due LandedForm m c) else close_of m c q
what_by Closed m c q = Ask (ask_active q c.at c.cpu).0
what_by Done m c q = Over
what_by ScanDue m c q = scan_over m (newest_due ScanDue m c)
what_by Kicking m c q = Kick (kick q c.at).0
what_by Ended m c q = Over

abbrev pub what_next : Form → MachineState → Course → What
what_next f m c = what_by f m c (queue_next f m c)

-- ---- whether there is one
-- a command on a task is answered where the task is, so not while it is in a hand; a tick waits for the
-- stops that are owed from an earlier one
abbrev pub is_answerable : Option Command → MachineState → Bool
is_answerable command m =
    is_rebuild command || is_some (cpu_of_task (task_of command) m)
    || (is_tick command && not (has_owed (queue_at m.queues (unwrap_or (ticked_cpu command) 0))))

-- a row is taken up where all rest and no stop was served at rest; it names what is declared, and ticks no
-- CPU that another lane ticks
abbrev pub row_by : MachineState → ℕ → Course → Row → What
row_by m lane c row = RowEntry (c.rows + 1) row.at row.command

abbrev pub may_take : MachineState → ℕ → Course → Row → Bool
may_take m lane c row =
    not m.closing && all_rest m && not (is_undeclared m.header row.command) && not (ticked_elsewhere m lane (row_by m lane c row))

abbrev pub drawn : MachineState → ℕ → Owner → What → Entry
drawn m lane o w = record { owner = o; lane = lane; prev = slice_index_or m.last lane 0; what = w }

abbrev pub drawn_if : Bool → MachineState → ℕ → ℕ → What → Option Entry
drawn_if may m lane cpu w = if may then Some (drawn m lane (owner_of w lane cpu) w) else None

-- at rest; lane 0 closes the history
abbrev pub at_rest : Option Row → MachineState → ℕ → Course → Option Entry
at_rest (Some row) m lane c = drawn_if (may_take m lane c row) m lane 0 (row_by m lane c row)
at_rest None m lane c = drawn_if ((lane == 0) && all_rest m) m lane (cpu_next Rest m c) (what_next Rest m c)

abbrev pub next_in : Form → Option Row → MachineState → ℕ → Course → Option Entry
next_in Rest row m lane c = at_rest row m lane c
next_in Asked row m lane c = drawn_if (is_answerable c.command m) m lane (cpu_next Asked m c) (what_next Asked m c)
next_in f row m lane c = Some (drawn m lane (owner_of (what_next f m c) lane (cpu_next f m c)) (what_next f m c))

-- the entry that the lane draws next, if there is one
unfoldable pub next_entry : MachineState → ℕ → Option Row → Option Entry
next_entry m lane row =
    if m.ended || not (nat_lt lane (length m.courses)) then None
    else next_in (course_at m.courses lane).form row m lane (course_at m.courses lane)

-- ---- serial entries of a lane
-- the row is for a lane at rest alone: the entry takes it up, and where none is given, none
abbrev pub Takes : Form → Option Row → ℕ → What → Type 0
Takes Rest row lane w = row_of w lane ≡ option_to_list row
Takes f row lane w = Unit {0}

-- the lane may draw the entry, which is serial in its choices
pub record IsSerialNext (m : MachineState) (lane : ℕ) (row : Option Row) (e : Entry) : Type 0 where
  pub own : e.lane ≡ lane
  pub may : MayBeAdded m e
  pub serial : is_serial m e.what ≡ true
  pub takes : Takes (course_at m.courses lane).form row lane e.what
