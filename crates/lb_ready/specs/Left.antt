-- How many entries are left, at most: a number that every entry lowers. A row that is still to come
-- is worth all that it can ask for, a lane all that its course can still draw, and a stop request the
-- two entries that serve it; the end is one entry.
-- For the definitions of `Laws`, and so for the laws `ready`, `entries_fall` and others; cited by `lb_serial`.
use Rattle.std.specs.Prelude.{ℕ, ◌+◌, ◌-◌, ◌*◌, ◌==◌, nat_lt, Bool, not, ◌&&◌, if◌then◌else◌, List, length, sum_by}
use Rattle.std.specs.List.{list_any, range_with_len}
use Rattle.lb_base.specs.declared.mask.Mask.{Mask}
use Rattle.lb_base.specs.declared.mask.TheConstants.{MAX_CPUS}
use Rattle.lb_base.specs.declared.shape.Kind.{Kind}
use Rattle.lb_base.specs.declared.shape.Kind.TheVariants.{Tick as TickTurn, Idle, Nohz}
use Rattle.lb_base.specs.Mask.{has}
use Rattle.lb_queue.specs.declared.awake.Awake.{Awake}
use Rattle.lb_queue.specs.declared.answers.OutCause.{OutCause}
use Rattle.lb_queue.specs.declared.answers.OutCause.TheVariants.{Pull as PullOut}
use Rattle.lb_queue.specs.Tasks.{is_pending}
use Rattle.lb_queue.specs.Queue.{QueueState}
use Rattle.lb_core.specs.declared.course.Course.{Course}
use Rattle.lb_core.specs.declared.course.Form.{Form}
use Rattle.lb_core.specs.declared.course.Form.TheVariants.{Rest, Asked, Flight, Serving, Due, Used, Position, Looked, Landed as LandedForm, Closed, Done, ScanDue, Kicking, Ended}
use Rattle.lb_core.specs.declared.entry.CpuFig.{CpuFig}
use Rattle.lb_core.specs.declared.entry.What.{What}
use Rattle.lb_core.specs.declared.entry.What.TheVariants.{Row}
use Rattle.lb_core.specs.Course.{is_tick, turn_kind, is_all_pinned, is_pull, source_of}
use Rattle.lb_core.specs.Sight.{tickless_in}
use Rattle.lb_core.specs.QueueAfter.{cause_of}
use Rattle.lb_core.specs.Machine.{MachineState}
use Rattle.lb_ready.specs.Ready.{unnamed}

-- how many numbers below n pass a test
unfoldable pub count_where : (ℕ → Bool) → ℕ → ℕ
count_where p n = sum_by (λ k. if p k then 1 else 0) (range_with_len 0 n)

-- ---- the most that a position, a turn, a scan and a row are worth
-- a position: from each of 64 CPUs a look, an `out` and an `in`, and then a look, a close and an ask; a
-- turn: 64 positions, a `use`, the queue's answer and the end; a scan: 64 turns, itself, the kick and one
-- more; a row: a turn, a scan, and seven entries: itself, its answer and what is then in flight, a push of two,
-- and the two of a stop that it may ask for
abbrev pub position_work : ℕ
position_work = 3 * 64 + 3

abbrev pub turn_work : ℕ
turn_work = 64 * position_work + 3

abbrev pub scan_work : ℕ
scan_work = 64 * turn_work + 3

abbrev pub row_work : ℕ
row_work = turn_work + scan_work + 7

-- ---- what a course can still draw
-- the positions above the one in work
abbrev pub positions_above : Course → ℕ
positions_above c = count_where (λ p. nat_lt c.position p && has c.positions p) MAX_CPUS

-- the tickless CPUs above one, by the figures of a scan
abbrev pub kicks_above : ℕ → List CpuFig → ℕ
kicks_above turned figures = count_where (λ cpu. nat_lt turned cpu && has (tickless_in figures) cpu) MAX_CPUS

-- after a turn of this kind of a CPU
abbrev pub work_after : Kind → ℕ → List CpuFig → ℕ
work_after TickTurn cpu figures = scan_work
work_after Idle cpu figures = 0
work_after Nohz cpu figures = turn_work * kicks_above cpu figures

-- from the end of the turn on
abbrev pub work_at_end : Course → ℕ
work_at_end c = 1 + work_after (turn_kind c) c.cpu c.figures

-- after the position in work
abbrev pub work_above : Course → ℕ
work_above c = position_work * positions_above c + work_at_end c

-- the CPUs that the position may still pull from
abbrev pub sources_left : Mask → ℕ
sources_left excluded = count_where (λ cpu. not (has excluded cpu)) MAX_CPUS

-- and without one source
abbrev pub sources_but : ℕ → Mask → ℕ
sources_but source excluded = count_where (λ cpu. not (cpu == source) && not (has excluded cpu)) MAX_CPUS

abbrev pub work_pulling : Course → ℕ
work_pulling c = 3 * sources_but (source_of c.decision) c.excluded

-- of a tick that was answered: its push, its turn and its scan
abbrev pub work_serving : Course → ℕ
work_serving c = (if c.pushed then 0 else 2) + turn_work + scan_work

abbrev pub work_of_tick : Course → ℕ
work_of_tick c = if is_tick c.command then work_serving c else 0

-- of tasks in the hand
abbrev pub work_in_flight : OutCause → Course → ℕ
work_in_flight PullOut c = work_pulling c + 4 + work_above c
work_in_flight cause c = 1 + work_of_tick c

abbrev pub work_in : Form → Course → ℕ
work_in Rest c = work_of_tick c
work_in Asked c = row_work - 1
work_in Flight c = work_in_flight (cause_of c) c
work_in Serving c = work_serving c
work_in Due c = turn_work + work_after (turn_kind c) c.cpu c.figures
work_in Used c = turn_work - 2 + work_at_end c
work_in Position c = 3 * sources_left c.excluded + 3 + work_above c
work_in Looked c = (if is_pull c.decision then work_pulling c + 5 else 2) + work_above c
work_in LandedForm c = (if is_all_pinned c.taken then 3 * sources_left c.excluded + 3 else 2) + work_above c
work_in Closed c = 1 + work_above c
work_in Done c = work_at_end c
work_in ScanDue c = scan_work - 1
work_in Kicking c = 1 + turn_work * count_where (has (tickless_in c.figures)) MAX_CPUS
work_in Ended c = 0

abbrev pub work_of : Course → ℕ
work_of c = work_in c.form (unnamed c)

-- ---- stop requests
-- a task of that id is asked to leave
abbrev pub is_asked : List Awake → ℕ → Bool
is_asked awake id = list_any (λ a. a.task.id == id && is_pending a.stop) awake

-- how many of so many tasks are
abbrev pub asked_count : ℕ → QueueState → ℕ
asked_count tasks q = count_where (is_asked q.awake) tasks

-- ---- the machine
-- with so many rows to come
abbrev pub entries_left : ℕ → MachineState → ℕ
entries_left rows m =
    row_work * rows + sum_by work_of m.courses + 2 * sum_by (asked_count (length m.header.tasks)) m.queues + (if m.ended then 0 else 1)

-- the rows to come before an entry, where so many come after it
abbrev pub rows_before : What → ℕ → ℕ
rows_before (Row n at command) rows = rows + 1
rows_before w rows = rows
