-- What an entry that a lane draws leaves of its course, for whoever calls the queues of a machine: its form, what it keeps
-- of looks and takes, and all else of its turn.
-- For the lemmas of `Lanes`; cited by `lb_pass` and `lb_service` too.
use Rattle.std.proofs.Common.{ℕ, ◌≡◌, ◌+◌, Bool, true, false, cond, List, [], length, Option, Some, None, refl, sym, ◌∙◌, ap, subst}
use Rattle.std.proofs.Math.Bool.{or-false}
use Rattle.lb_base.specs.declared.mask.Mask.{Mask}
use Rattle.lb_base.specs.declared.shape.Kind.{Kind}
use Rattle.lb_base.specs.Sets.{least_above}
use Rattle.lb_detach.specs.declared.Env.{Env}
use Rattle.lb_imbalance.specs.declared.decision.Decision.{Decision}
use Rattle.lb_interval.specs.declared.Outcome.{Outcome}
use Rattle.lb_interval.specs.declared.Outcome.TheVariants.{NotMine, Balanced, Moved, Pinned, Failed, Asking}
use Rattle.lb_queue.specs.declared.answers.AskReply.{AskReply}
use Rattle.lb_queue.specs.declared.answers.OutCause.{OutCause}
use Rattle.lb_queue.specs.declared.answers.OutCause.TheVariants.{Pull}
use Rattle.lb_queue.specs.Queue.{QueueState}
use Rattle.lb_trace.specs.declared.trace.Header.{Header}
use Rattle.lb_core.specs.declared.course.Course.{Course}
use Rattle.lb_core.specs.declared.course.Form.{Form}
use Rattle.lb_core.specs.declared.course.Form.TheVariants as forms
use Rattle.lb_core.specs.declared.entry.CpuFig.{CpuFig}
use Rattle.lb_core.specs.declared.entry.FigName.{FigName}
use Rattle.lb_core.specs.declared.entry.Owner.TheVariants.{Queue}
use Rattle.lb_core.specs.declared.entry.What.TheVariants.{Look, Out, Landed, Ask}
use Rattle.lb_core.specs.Course.{env_of, is_newly, turn_kind, outcome_of}
use Rattle.lb_core.specs.CourseAfter.{course_after, drew, excluding, lands, takes_off, closes, goes_on, goes_to}
use Rattle.lb_core.specs.Leaving.{Leaving, leaving, out_by, pull_out}
use Rattle.lb_core.specs.QueueAfter.{cause_of}
use Rattle.lb_core.specs.Rules.{word_of}
use Rattle.lb_cell.specs.Cells.{CellIs, LaneIs as SideIs}
use Rattle.lb_cell.specs.Draws.{course_left, sight_at}
use Rattle.lb_cell.specs.Own.{own_left}
use Rattle.lb_cell.specs.Turns.{closing}
use Rattle.lb_lane_laws.specs.Stays.{SameTurn, turn_of, next_position, ComesTo}

-- ---- a look
-- it keeps the decision, and which takes and excluded CPUs there were
pub record LookLeft (d : Decision) (c c' : Course) : Type 0 where
  pub form : c'.form ≡ forms.Looked
  pub decision : c'.decision ≡ Some d
  pub position_is : c'.position ≡ c.position
  pub excluded : c'.excluded ≡ c.excluded
  pub turn : SameTurn c c'

pub look_left : (h : Header) (l : SideIs) (p : ℕ) (x : Mask) (names : List FigName) (d : Decision) (figs : List CpuFig)
    → LookLeft d l.course (own_left h l (Look p x names d) [] figs)
unfolding course_after
look_left h l p x names d figs = record { form = refl; decision = refl; position_is = refl; excluded = refl; turn = refl }

-- ---- a pull that leaves its source
pub record PullLeft (c c' : Course) : Type 0 where
  pub decision : c'.decision ≡ c.decision
  pub position_is : c'.position ≡ c.position
  pub excluded : c'.excluded ≡ c.excluded
  pub turn : SameTurn c c'

-- the `out` that is due after a look
pulls : (h : Header) (c : CellIs) (l : SideIs) (env : Env) → l.course.form ≡ forms.Looked → env_of h l.course ≡ Some env
    → leaving (sight_at h c l) ≡ pull_out (Some env) l.course.at c.queue.state
unfolding leaving
pulls h c l env form asked =
    ap (λ (f : Form). out_by f h l.course c.queue.state) form
    ∙ ap (λ (o : Option Env). pull_out o l.course.at c.queue.state) asked

off_left : (c : Course) (env : Env) (at : ℕ) (q : QueueState) (cpu n : ℕ)
    → PullLeft c (drew (Queue cpu) n (takes_off (pull_out (Some env) at q) c))
off_left c env at q cpu n = record {
  decision = refl;
  position_is = refl;
  excluded = refl;
  turn = ap (λ (b : Bool). record (turn_of c) { pushed = b }) (or-false c.pushed);
}

pub pull_left : (h : Header) (c : CellIs) (l : SideIs) (env : Env) (to : ℕ) (tasks : List ℕ) → l.course.form ≡ forms.Looked
    → env_of h l.course ≡ Some env → PullLeft l.course (course_left h c l (Out Pull to tasks))
unfolding course_after
pull_left h c l env to tasks form asked =
    let cpu = c.log.writer.cpu in
    let n = length c.log.seat.list + 1 in
    subst (λ (o : Option Leaving). PullLeft l.course (drew (Queue cpu) n (takes_off o l.course)))
    (sym (pulls h c l env form asked)) (off_left l.course env l.course.at c.queue.state cpu n)

-- ---- its landing
-- a source whose take was all pinned is excluded
pub record LandLeft (c c' : Course) : Type 0 where
  pub form : c'.form ≡ forms.Landed
  pub decision : c'.decision ≡ c.decision
  pub position_is : c'.position ≡ c.position
  pub excluded : c'.excluded ≡ excluding c
  pub turn : SameTurn c c'

landed_left : (x : OutCause) (c : Course) (cpu n : ℕ) → x ≡ Pull → LandLeft c (drew (Queue cpu) n (lands x c))
landed_left Pull c cpu n e = record { form = refl; decision = refl; position_is = refl; excluded = refl; turn = refl }
landed_left x c cpu n e = absurd (let y : ⊥ = cc in y)

pub land_left : (h : Header) (c : CellIs) (l : SideIs) (tasks : List ℕ) → l.course.cause ≡ Some Pull
    → LandLeft l.course (course_left h c l (Landed tasks))
unfolding course_after
land_left h c l tasks cause =
    landed_left (cause_of l.course) l.course c.log.writer.cpu (length c.log.seat.list + 1) (rw cause refl)

-- ---- the close of a position
-- an active balance is to be asked for, or the turn comes to its next position or its end
abbrev pub CloseLeaves : Outcome → Kind → Course → Course → Type 0
CloseLeaves Asking kind c c' = (c'.form ≡ forms.Closed) × (c'.position ≡ c.position) × (c'.decision ≡ c.decision)
CloseLeaves outcome kind c c' = ComesTo (next_position outcome kind c.positions c.position) c'

pub record CloseLeft (outcome : Outcome) (c c' : Course) : Type 0 where
  pub leaves : CloseLeaves outcome (turn_kind c) c c'
  pub turn : SameTurn c c'

comes_to : (o : Option ℕ) (c : Course) (cpu n : ℕ) → ComesTo o (drew (Queue cpu) n (goes_to o c))
comes_to None c cpu n = refl
comes_to (Some p) c cpu n = record { form = refl; position_is = refl; anew = refl }

comes_turn : (o : Option ℕ) (c : Course) (cpu n : ℕ) → SameTurn c (drew (Queue cpu) n (goes_to o c))
comes_turn None c cpu n = refl
comes_turn (Some p) c cpu n = refl

moves_on : (b : Bool) (c : Course) (cpu n : ℕ)
    → ComesTo (cond b None (least_above c.positions c.position)) (drew (Queue cpu) n (cond b (goes_to None c) (goes_on c)))
    × SameTurn c (drew (Queue cpu) n (cond b (goes_to None c) (goes_on c)))
moves_on true c cpu n = (refl, refl)
moves_on false c cpu n =
    (comes_to (least_above c.positions c.position) c cpu n, comes_turn (least_above c.positions c.position) c cpu n)

closes_left : (o : Outcome) (c : Course) (cpu n : ℕ) → CloseLeft o c (drew (Queue cpu) n (closes (word_of o) c))
closes_left Asking c cpu n = record { leaves = (refl, refl, refl); turn = refl }
closes_left NotMine c cpu n = record { leaves = refl; turn = refl }
closes_left (Moved k) c cpu n =
    let m = moves_on (is_newly (turn_kind c)) c cpu n in record { leaves = m.0; turn = m.1 }
closes_left Balanced c cpu n = let o = least_above c.positions c.position in
    record { leaves = comes_to o c cpu n; turn = comes_turn o c cpu n }
closes_left Pinned c cpu n = let o = least_above c.positions c.position in
    record { leaves = comes_to o c cpu n; turn = comes_turn o c cpu n }
closes_left Failed c cpu n = let o = least_above c.positions c.position in
    record { leaves = comes_to o c cpu n; turn = comes_turn o c cpu n }

pub close_left : (h : Header) (c : CellIs) (l : SideIs)
    → CloseLeft (outcome_of h l.course) l.course (course_left h c l (closing h c l))
unfolding course_after
close_left h c l = closes_left (outcome_of h l.course) l.course c.log.writer.cpu (length c.log.seat.list + 1)

-- ---- the request after it
pub record AskLeft (c c' : Course) : Type 0 where
  pub comes : ComesTo (least_above c.positions c.position) c'
  pub turn : SameTurn c c'

pub ask_left : (h : Header) (c : CellIs) (l : SideIs) (r : AskReply) → AskLeft l.course (course_left h c l (Ask r))
unfolding course_after
ask_left h c l r = let o = least_above l.course.positions l.course.position in record {
  comes = comes_to o l.course c.log.writer.cpu (length c.log.seat.list + 1);
  turn = comes_turn o l.course c.log.writer.cpu (length c.log.seat.list + 1);
}
