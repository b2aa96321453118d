-- The course that an entry leaves: the column "Form afterwards" of the table in docs/rules/lanes.md, of
-- which `Stage` is the middle one. The form "after a turn" is passed over at once, and so is a close that
-- asks for nothing.
-- For the definitions of `Step`, and so for the laws `permitted`, `permitted_stays` and others; cited by `lb_act`,
-- `lb_cell` and other crates.
use Rattle.std.specs.Prelude.{ℕ, ◌+◌, nat_lt, Bool, true, false, not, ◌&&◌, ◌||◌, if◌then◌else◌, Option, Some, None, List, [], ◌∷◌, length, slice_set}
use Rattle.lb_base.specs.declared.mask.Mask.{Mask}
use Rattle.lb_base.specs.declared.shape.Kind.{Kind}
use Rattle.lb_base.specs.declared.shape.Kind.TheVariants.{Tick as TickTurn, Idle, Nohz}
use Rattle.lb_base.specs.Mask.{no_cpus, only, either}
use Rattle.lb_base.specs.Sets.{least, least_above}
use Rattle.lb_imbalance.specs.Destination.{is_busy}
use Rattle.lb_queue.specs.declared.answers.AskReply.{AskReply}
use Rattle.lb_queue.specs.declared.answers.AskReply.TheVariants.{New, Old}
use Rattle.lb_queue.specs.declared.answers.OutCause.{OutCause}
use Rattle.lb_queue.specs.declared.answers.OutCause.TheVariants.{Pull as PullOut, Push as PushOut}
use Rattle.lb_queue.specs.Queue.{QueueState, is_awake, nobody}
use Rattle.lb_queue.specs.Turns.{counters_found}
use Rattle.lb_trace.specs.declared.trace.Command.{Command}
use Rattle.lb_trace.specs.declared.trace.Command.TheVariants.{Sleep, Exit, Tick}
use Rattle.lb_trace.specs.declared.trace.Header.{Header}
use Rattle.lb_core.specs.declared.course.Course.{Course}
use Rattle.lb_core.specs.declared.course.Form.TheVariants.{Rest, Asked, Flight, Serving, Due, Used, Position, Looked, Landed as LandedForm, Closed, Done, ScanDue, Kicking, Ended}
use Rattle.lb_core.specs.declared.entry.FigName.{FigName}
use Rattle.lb_core.specs.declared.entry.Owner.{Owner}
use Rattle.lb_core.specs.declared.entry.Owner.TheVariants.{Queue}
use Rattle.lb_core.specs.declared.entry.OutcomeWord.{OutcomeWord}
use Rattle.lb_core.specs.declared.entry.OutcomeWord.TheVariants.{NotMine as NotMineWord, Moved as MovedWord, Asking as AskingWord}
use Rattle.lb_core.specs.declared.entry.What.{What}
use Rattle.lb_core.specs.declared.entry.What.TheVariants.{Row, Adopt, Look, Scan, End, Did, Out, Landed, Turn, Shut, Close, Ask, Kick, Over, Pub}
use Rattle.lb_core.specs.declared.entry.Entry.{Entry}
use Rattle.lb_core.specs.Course.{is_tick, is_newly, turn_kind, turn_domains, shapes_of, is_all_pinned, source_of}
use Rattle.lb_core.specs.Sight.{Sight, by_cpu, tickless_in}
use Rattle.lb_core.specs.Stage.{target_of}
use Rattle.lb_core.specs.Leaving.{Leaving, leaving}
use Rattle.lb_core.specs.QueueAfter.{cause_of, queue_after}

-- ---- what is forgotten
-- the hand is empty
abbrev pub lets_go : Course → Course
lets_go c = record c { cause = None; to = 0; moment = 0; hand = [] }

-- no CPU is excluded, and no look or take is kept
abbrev pub begins_anew : Course → Course
begins_anew c = record c { excluded = no_cpus; decision = None; idle = false; took = 0; taken = None }

-- the row is served
abbrev pub comes_to_rest : Course → Course
comes_to_rest c = record (begins_anew (lets_go c)) { form = Rest; command = None; awake = 0; pushed = false; figures = [] }

-- ---- turns
-- a turn of this kind is due at the CPU
abbrev pub is_due_at : Kind → ℕ → Course → Course
is_due_at kind cpu c = record c { form = Due; kind = Some kind; cpu = cpu }

-- a position is next, or the turn is done
abbrev pub goes_to : Option ℕ → Course → Course
goes_to None c = record (begins_anew c) { form = Done; position = 0 }
goes_to (Some p) c = record (begins_anew c) { form = Position; position = p }

abbrev pub goes_on : Course → Course
goes_on c = goes_to (least_above c.positions c.position) c

-- the turn of a kicked CPU, or rest
abbrev pub kicks_next : Option ℕ → Course → Course
kicks_next None c = comes_to_rest c
kicks_next (Some cpu) c = is_due_at Nohz cpu c

-- after a turn: a scan after a tick of two or more awake tasks on a CPU with domains; the next CPU
-- of a kick
abbrev pub turn_ends_by : Kind → Header → Course → Course
turn_ends_by TickTurn h c = if nat_lt 1 c.awake && nat_lt 0 (length (turn_domains h c))
    then record (begins_anew c) { form = ScanDue } else comes_to_rest c
turn_ends_by Idle h c = comes_to_rest c
turn_ends_by Nohz h c = kicks_next (least_above (tickless_in c.figures) c.cpu) c

unfoldable pub turn_ends : Header → Course → Course
turn_ends h c = turn_ends_by (turn_kind c) h c

-- ---- the answer to a row
-- a turn of the CPU that has become idle; its row stays in service
abbrev pub after_sleep : Bool → ℕ → Course → Course
after_sleep true cpu c = is_due_at Idle cpu c
after_sleep false cpu c = comes_to_rest c

-- the task was awake, and now nobody is
abbrev pub left_idle : ℕ → QueueState → QueueState → Bool
left_idle t before now = is_awake before t && nobody now.awake

abbrev pub answered : Option Command → ℕ → QueueState → QueueState → Course → Course
answered (Some (Sleep t)) cpu before now c = after_sleep (left_idle t before now) cpu c
answered (Some (Exit t)) cpu before now c = after_sleep (left_idle t before now) cpu c
answered (Some (Tick ticked)) cpu before now c = record c { form = Serving; awake = length now.awake }
answered command cpu before now c = comes_to_rest c

-- ---- tasks that leave and land
abbrev pub is_push : OutCause → Bool
is_push PushOut = true
is_push cause = false

-- what is kept of a take: a pull alone changes it
abbrev pub last_take : {A : Type 0} → OutCause → A → A → A
last_take PullOut now earlier = now
last_take cause now earlier = earlier

abbrev pub takes_off : Option Leaving → Course → Course
takes_off None c = c
takes_off (Some l) c =
    record c {
      form = Flight;
      cause = Some l.cause;
      to = l.to;
      moment = l.rest.clock;
      hand = l.hand;
      took = last_take l.cause (length l.hand) c.took;
      taken = last_take l.cause l.taken c.taken;
      pushed = c.pushed || is_push l.cause;
    }

-- a source whose take was all pinned is excluded
abbrev pub excluding : Course → Mask
excluding c = if is_all_pinned c.taken then either c.excluded (only (source_of c.decision)) else c.excluded

abbrev pub lands : OutCause → Course → Course
lands PullOut c = record (lets_go c) { form = LandedForm; excluded = excluding c }
lands cause c = if is_tick c.command then record (lets_go c) { form = Serving } else comes_to_rest c

-- ---- looks and scans
-- the named numbers are the greatest now
abbrev pub raised_numbers : List FigName → List ℕ → List ℕ
raised_numbers [] named = named
raised_numbers (f ∷ fs) named = raised_numbers fs (slice_set named f.cpu f.n)

abbrev pub scanned : Option ℕ → Course → Course
scanned None c = comes_to_rest c
scanned (Some cpu) c = record c { form = Kicking }

abbrev pub kicked : AskReply → Course → Course
kicked New c = kicks_next (target_of c) c
kicked Old c = comes_to_rest c

-- ---- the close of a position
abbrev pub closes : OutcomeWord → Course → Course
closes AskingWord c = record c { form = Closed }
closes NotMineWord c = goes_to None c
closes MovedWord c = if is_newly (turn_kind c) then goes_to None c else goes_on c
closes w c = goes_on c

-- `cpu` is the CPU of the owner's queue, and `now` that queue after the entry
abbrev pub course_by : What → Sight → ℕ → QueueState → Course
course_by (Row n at command) s cpu now = record s.course { form = Asked; rows = n; at = at; command = Some command }
course_by (Adopt v kind turned) s cpu now =
    record s.course { form = Used; version = v; masks = s.masks; kind = Some kind; cpu = turned; named_version = v }
course_by (Look p x fs d) s cpu now =
    record s.course {
      form = Looked;
      decision = Some d;
      idle = not (is_busy (turn_kind s.course) (by_cpu s.figs) s.course.cpu);
      named = raised_numbers fs s.course.named;
    }
course_by (Scan fs t) s cpu now = scanned t (record s.course { figures = s.figs; named = raised_numbers fs s.course.named })
course_by (End unserved) s cpu now = record s.course { form = Ended }
course_by (Did r) s cpu now = answered s.course.command cpu s.queue now s.course
course_by (Out cause to tasks) s cpu now = takes_off (leaving s) s.course
course_by (Landed tasks) s cpu now = lands (cause_of s.course) s.course
course_by (Turn ps) s cpu now =
    goes_to (least ps) (record s.course {
      positions = ps;
      counters = counters_found s.queue s.course.at s.course.version (shapes_of (turn_domains s.header s.course));
    })
course_by Shut s cpu now = turn_ends s.header s.course
course_by (Close p w i f) s cpu now = closes w s.course
course_by (Ask r) s cpu now = goes_on s.course
course_by (Kick r) s cpu now = kicked r s.course
course_by Over s cpu now = turn_ends s.header s.course
course_by (Pub v) s cpu now = record (comes_to_rest s.course) { named_version = v }

-- an entry of a queue counts as its lane's greatest number there
abbrev pub drew : Owner → ℕ → Course → Course
drew (Queue cpu) n c = record c { named = slice_set c.named cpu n }
drew o n c = c

abbrev pub cpu_of : Owner → ℕ
cpu_of (Queue cpu) = cpu
cpu_of o = 0

-- the course after an entry of the lane
unfoldable pub course_after : Sight → Entry → Course
course_after s e = drew e.owner (s.count + 1) (course_by e.what s (cpu_of e.owner) (queue_after s e))
