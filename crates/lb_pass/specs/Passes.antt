-- A pass: what a lane draws at one position of its open turn. Each attempt is a look that decides to pull, the `out` of the
-- tasks at the source, and their landing; then no further look is due, or a last one moves nothing, and the position is
-- closed.
-- Cited by the contracts of `pass`, `pull`, `attempt` and others; also by `lb_service`.
use Rattle.std.specs.Prelude.{ℕ, ◌≡◌, ◌<◌, ◌⊎◌, suc, zero, true, false, Some, List, length}
use base.Stored.{Coded}
use Rattle.atomic_table.specs.Seated.{TableId}
use Rattle.lb_base.specs.declared.shape.Kind.{Kind}
use Rattle.lb_base.specs.declared.view.MoveKind.{MoveKind}
use Rattle.lb_detach.specs.declared.Env.{Env}
use Rattle.lb_imbalance.specs.declared.decision.Decision.{Decision}
use Rattle.lb_imbalance.specs.declared.decision.Decision.TheVariants.{Pull}
use Rattle.lb_interval.specs.declared.Outcome.{Outcome}
use Rattle.lb_interval.specs.declared.Outcome.TheVariants.{Asking}
use Rattle.lb_queue.specs.declared.answers.Taken.{Taken}
use Rattle.lb_queue.specs.Hands.{HandState}
use Rattle.lb_queue.specs.Tasks.{ids}
use Rattle.lb_trace.specs.declared.trace.Header.{Header}
use Rattle.lb_core.specs.declared.course.Course.{Course}
use Rattle.lb_core.specs.declared.course.Form.TheVariants as forms
use Rattle.lb_core.specs.declared.entry.What.TheVariants as what
use Rattle.lb_core.specs.Course.{env_of, is_pull, looks_again, source_of, turn_domains, turn_kind}
use Rattle.lb_core.specs.Placed.{is_flight}
use Rattle.lb_journal.specs.Journal.{Journal}
use Rattle.lb_lane.specs.Lanes.{LaneIs}
use Rattle.lb_lane.specs.Looks.{LaneLooked, LookAsks}
use Rattle.lb_lane.specs.Own.{SameRest, Unmoved}
use Rattle.lb_lane_laws.specs.Stays.{BeginsAt, ComesTo, SameRows, SameTurn, next_position}
use Rattle.lb_cpu.specs.Drawn.{DrewThere}
use Rattle.lb_cpu.specs.Hands.{TookThere}
use Rattle.lb_cpu.specs.Turns.{ClosedThere, IsDue}

-- the position of the CPU's turn of this kind is in work, is one of the turn's domains, and begins anew
pub record PassAsks (h : Header) (l : LaneIs) (cpu position : ℕ) (kind : Kind) : Type 0 where
  pub begins : BeginsAt position l.side.course
  pub cpu_is : l.side.course.cpu ≡ cpu
  pub kind_is : turn_kind l.side.course ≡ kind
  pub within : position < length (turn_domains h l.side.course)

-- ---- attempts
-- the last look decided to pull so much from the source, a CPU of the machine, at a position of the turn
pub record PullIsDue (h : Header) (c : Course) (source : ℕ) (kind : MoveKind) (imbalance : ℕ) : Type 0 where
  pub form : c.form ≡ forms.Looked
  pub decision : c.decision ≡ Some (Pull source kind imbalance)
  pub declared : source < length h.cpus
  pub position : c.position < length (turn_domains h c)

-- what the last look asks for left the source in a hand
pub record Carries (h : Header) (book : TableId) (board : List TableId) (code : Coded Journal) (l l' : LaneIs) (source : ℕ)
    (hand : HandState) : Type 0 where
  pub env : Env
  pub asked : env_of h l.side.course ≡ Some env
  pub taken : Taken
  pub took : TookThere h book board code l l' source env hand taken

-- and landed where it went
pub record Pulled (h : Header) (book : TableId) (board : List TableId) (code : Coded Journal) (l l' : LaneIs) (source : ℕ)
    : Type 0 where
  pub mid : LaneIs
  pub hand : HandState
  pub carries : Carries h book board code l mid source hand
  pub landed : DrewThere h book board code mid l' mid.side.course.to (what.Landed (ids mid.side.course.hand))

-- a look decided to pull, and it was pulled from its source
pub record Attempted (h : Header) (book : TableId) (board : List TableId) (code : Coded Journal) (l l' : LaneIs) : Type 0 where
  pub looked : LaneIs
  pub decision : Decision
  pub look : LaneLooked h (length board) l looked decision
  pub pull : is_pull (Some decision) ≡ true
  pub pulled : Pulled h book board code looked l' (source_of (Some decision))

-- where a further look is due after a take, it may be drawn: no CPU of the local group was excluded
abbrev pub AsksFurther : Header → LaneIs → Type 0
AsksFurther h l = l.side.course.form ≡ forms.Landed → looks_again h l.side.course ≡ true → LookAsks h l

-- the source of the last look is a CPU of the machine
abbrev pub HasSource : Header → LaneIs → Type 0
HasSource h l = source_of l.side.course.decision < length h.cpus

-- so many attempts, one after the other
abbrev pub Attempts : Header → TableId → List TableId → Coded Journal → ℕ → LaneIs → LaneIs → Type 0
Attempts h book board code zero l l' = l' ≡ l
Attempts h book board code (suc n) l l' = (mid : LaneIs) × Attempts h book board code n l mid × Attempted h book board code mid l'

-- ---- the end of the looks
-- after a take no further look is due
pub record NeedsNoLook (h : Header) (l l' : LaneIs) : Type 0 where
  pub same : l' ≡ l
  pub landed : l.side.course.form ≡ forms.Landed
  pub last : looks_again h l.side.course ≡ false

-- a look moves nothing
pub record LookedInVain (h : Header) (board : List TableId) (l l' : LaneIs) : Type 0 where
  pub decision : Decision
  pub look : LaneLooked h (length board) l l' decision
  pub vain : is_pull (Some decision) ≡ false

abbrev pub LooksEnd : Header → List TableId → LaneIs → LaneIs → Type 0
LooksEnd h board l l' = NeedsNoLook h l l' ⊎ LookedInVain h board l l'

-- the turn, the position in work and the rows stay
pub record Stays (l l' : LaneIs) : Type 0 where
  pub turn : SameTurn l.side.course l'.side.course
  pub position_is : l'.side.course.position ≡ l.side.course.position
  pub rows : SameRows l l'

-- ---- the whole
-- some attempts, and the end of the looks
pub record Settled (h : Header) (book : TableId) (board : List TableId) (code : Coded Journal) (l l' : LaneIs) : Type 0 where
  pub count : ℕ
  pub tried : LaneIs
  pub attempts : Attempts h book board code count l tried
  pub looks_end : LooksEnd h board tried l'

-- then the close of the position at the turn's CPU, with the outcome that the rule gives for just these looks and takes
pub record Passed (h : Header) (book : TableId) (board : List TableId) (code : Coded Journal) (l l' : LaneIs) (cpu : ℕ)
    (outcome : Outcome) : Type 0 where
  pub done : LaneIs
  pub settled : Settled h book board code l done
  pub closed : ClosedThere h book board code done l' cpu outcome

-- how the turn goes on: an active balance is to be asked for at the source of the last pull; else the next position of the
-- turn is in work, or the turn is done
abbrev pub GoesOnAfter : Header → Outcome → Kind → Course → Course → Type 0
GoesOnAfter h Asking kind c c' = IsDue h forms.Closed c' × (c'.position ≡ c.position)
GoesOnAfter h outcome kind c c' = ComesTo (next_position outcome kind c.positions c.position) c'

-- ---- want of memory
pub record LookedOnce (h : Header) (board : List TableId) (l l' : LaneIs) : Type 0 where
  pub decision : Decision
  pub look : LaneLooked h (length board) l l' decision

-- at most one look was drawn, and no task is in a hand
pub record StopsAt (h : Header) (board : List TableId) (l l' : LaneIs) : Type 0 where
  pub looked : LaneIs
  pub looks : (looked ≡ l) ⊎ LookedOnce h board l looked
  pub side : Unmoved looked.side l'.side
  pub rest : SameRest looked l'
  pub empty_handed : is_flight l'.side.course.form ≡ false

-- so after some attempts, and nothing else was drawn
pub record Stopped (h : Header) (book : TableId) (board : List TableId) (code : Coded Journal) (l l' : LaneIs) : Type 0 where
  pub count : ℕ
  pub tried : LaneIs
  pub attempts : Attempts h book board code count l tried
  pub stops : StopsAt h board tried l'
