-- Tasks in the hand of a lane, on their way from the queue that they left to the one where they land.
-- Cited by the contracts of `Cpus::land`, `Cpus::out_due`, `Cpus::take` and others; also by `lb_pass` and
-- `lb_service`.
use Rattle.std.specs.Prelude.{ℕ, ◌≡◌, ◌<◌, Option, Some, None, List, length}
use base.Stored.{Coded}
use Rattle.atomic_table.specs.Seated.{TableId}
use Rattle.lb_detach.specs.declared.Env.{Env}
use Rattle.lb_queue.specs.declared.answers.OutCause.{OutCause}
use Rattle.lb_queue.specs.declared.answers.OutCause.TheVariants.{Pull}
use Rattle.lb_queue.specs.declared.answers.Taken.{Taken}
use Rattle.lb_queue.specs.Hands.{HandState, taken_by}
use Rattle.lb_queue.specs.Tasks.{ids}
use Rattle.lb_trace.specs.declared.trace.Header.{Header}
use Rattle.lb_core.specs.declared.course.Course.{Course}
use Rattle.lb_core.specs.declared.course.Form.TheVariants.{Flight}
use Rattle.lb_core.specs.declared.entry.What.TheVariants.{Out}
use Rattle.lb_journal.specs.Journal.{Journal}
use Rattle.lb_act.specs.Hands.{IsLoaded}
use Rattle.lb_cell.specs.Serving.{out_cause, out_target}
use Rattle.lb_lane.specs.Lanes.{LaneIs}
use Rattle.lb_cpu.specs.Drawn.{DrewThere, SawThere}

-- the tasks of the hand are those that the course has in flight for this cause, to a CPU of the machine
pub record InFlight (h : Header) (c : Course) (cause : OutCause) (hand : HandState) : Type 0 where
  pub form : c.form ≡ Flight
  pub cause_is : c.cause ≡ Some cause
  pub loaded : IsLoaded hand c
  pub declared : c.to < length h.cpus

-- by a pull they left the source, and this is what is known of it
pub record TookThere (h : Header) (book : TableId) (board : List TableId) (code : Coded Journal) (l l' : LaneIs) (source : ℕ)
    (env : Env) (hand : HandState) (t : Taken) : Type 0 where
  pub there : DrewThere h book board code l l' source (Out Pull hand.to (ids hand.tasks))
  pub taken : t ≡ taken_by there.before.queue.state l.side.course.at env
  pub flies : InFlight h l'.side.course Pull hand

-- what was due at the queue of the ticked CPU left it, or nothing was due there
pub record DepartedDue (h : Header) (book : TableId) (board : List TableId) (code : Coded Journal) (l l' : LaneIs) (cpu : ℕ)
    (hand : HandState) : Type 0 where
  pub cause : OutCause
  pub there : DrewThere h book board code l l' cpu (Out cause hand.to (ids hand.tasks))
  pub due : out_target l.side.course there.before.queue.state ≡ Some hand.to
  pub why : cause ≡ out_cause there.before.queue.state
  pub flies : InFlight h l'.side.course cause hand

pub record NoneDue (h : Header) (book : TableId) (board : List TableId) (code : Coded Journal) (l l' : LaneIs) (cpu : ℕ)
    : Type 0 where
  pub saw : SawThere h book board code l l' cpu
  pub none : out_target l.side.course saw.before.queue.state ≡ None

abbrev pub OutDue : Header → TableId → List TableId → Coded Journal → LaneIs → LaneIs → ℕ → Option HandState → Type 0
OutDue h book board code l l' cpu (Some hand) = DepartedDue h book board code l l' cpu hand
OutDue h book board code l l' cpu None = NoneDue h book board code l l' cpu
