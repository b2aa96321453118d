-- By an `out` a course comes into flight, and has what left in its hand.
-- For `take_at`, `leave_at` and `serve_at`.
use Rattle.std.proofs.Common.{ℕ, ◌≡◌, ◌∙◌, ◌<◌, Bool, true, false, Option, Some, None, List, length, if◌then◌else◌, refl, sym, subst, ap}
use Rattle.std.proofs.lemmas.Option.{same_Some}
use Rattle.lb_detach.specs.declared.Env.{Env}
use Rattle.lb_imbalance.specs.declared.decision.Decision.{Decision}
use Rattle.lb_imbalance.specs.declared.decision.Decision.TheVariants as decisions
use Rattle.lb_queue.specs.declared.answers.OutCause.{OutCause}
use Rattle.lb_queue.specs.declared.answers.OutCause.TheVariants as causes
use Rattle.lb_queue.specs.declared.answers.Stop.{Stop}
use Rattle.lb_queue.specs.Hands.{HandState}
use Rattle.lb_queue.specs.Queue.{QueueState}
use Rattle.lb_queue.specs.Requests.{next_stop}
use Rattle.lb_trace.specs.declared.trace.Header.{Header}
use Rattle.lb_core.specs.declared.course.Course.{Course}
use Rattle.lb_core.specs.declared.course.Form.TheVariants as forms
use Rattle.lb_core.specs.declared.entry.What.TheVariants.{Out}
use Rattle.lb_core.specs.Course.{env_by, env_of}
use Rattle.lb_core.specs.CourseAfter.{course_after, takes_off}
use Rattle.lb_core.specs.Leaving.{Leaving, leaving, out_by, pull_out, push_out, served_out, wake_to, wake_out}
use Rattle.lb_core.specs.Stage.{push_is_due}
use Rattle.lb_cell.specs.Cells.{CellIs, LaneIs as SideIs}
use Rattle.lb_cell.specs.Draws.{course_left, sight_at}
use Rattle.lb_cell.specs.Hands.{WakesElsewhere}
use Rattle.lb_cell.specs.Serving.{cause_by, out_cause, out_target, push_target, target_by}
use Rattle.lb_act.specs.Hands.{IsLoaded}
use Rattle.lb_cpu.specs.Hands.{InFlight}

-- for this cause, to this CPU
record GoesOff (c : Course) (cause : OutCause) (to : ℕ) : Type 0 where
  form : c.form ≡ forms.Flight
  cause_is : c.cause ≡ Some cause
  to_is : c.to ≡ to

record LeavesFor (o : Option Leaving) (cause : OutCause) (to : ℕ) : Type 0 where
  what : Leaving
  is : o ≡ Some what
  cause_is : what.cause ≡ cause
  to_is : what.to ≡ to

taken_off : (o : Option Leaving) (c : Course) (cause : OutCause) (to : ℕ) → LeavesFor o cause to
    → GoesOff (takes_off o c) cause to
taken_off o c cause to due =
    subst (λ (p : Option Leaving). GoesOff (takes_off p c) cause to) (sym due.is)
    (record { form = refl; cause_is = λ i. Some (due.cause_is i); to_is = due.to_is })

goes_off : (h : Header) (c : CellIs) (l : SideIs) (why : OutCause) (to to' : ℕ) (tasks : List ℕ)
    → LeavesFor (leaving (sight_at h c l)) why to → GoesOff (course_left h c l (Out why to' tasks)) why to
unfolding course_after
goes_off h c l why to to' tasks due =
    let o = taken_off (leaving (sight_at h c l)) l.course why to due in
    record { form = o.form; cause_is = o.cause_is; to_is = o.to_is }

-- so the hand is in flight, to that CPU
flies : (h : Header) (c : CellIs) (l side : SideIs) (why : OutCause) (to to' : ℕ) (hand : HandState) (tasks : List ℕ)
    → LeavesFor (leaving (sight_at h c l)) why to → side.course ≡ course_left h c l (Out why to' tasks)
    → IsLoaded hand side.course → to < length h.cpus → InFlight h side.course why hand × (hand.to ≡ to)
flies h c l side why to to' hand tasks due left loaded declared =
    let off : GoesOff side.course why to =
    subst (λ (k : Course). GoesOff k why to) (sym left) (goes_off h c l why to to' tasks due) in (
      record {
        form = off.form;
        cause_is = off.cause_is;
        loaded = loaded;
        declared = subst (λ n. n < length h.cpus) (sym off.to_is) declared;
      },
      loaded.to ∙ off.to_is,
    )

-- ---- what is due
-- a wake elsewhere
wake_is_due : (h : Header) (c : CellIs) (l : SideIs) (to : ℕ) → WakesElsewhere c.queue.state l.course to
    → LeavesFor (leaving (sight_at h c l)) causes.Wake to
unfolding leaving
wake_is_due h c l to w =
    record {
      what = _;
      is =
          (λ i. out_by (w.form i) h l.course c.queue.state)
          ∙ ((λ i. wake_out (w.command i) l.course.at c.queue.state)
          ∙ (λ i. wake_to (w.goes i) l.course.at w.task c.queue.state));
      cause_is = refl;
      to_is = refl;
    }

-- a stop, or else a push
active_is : (b : Bool) (active : Option ℕ) (to : ℕ) → (if b then active else None) ≡ Some to → active ≡ Some to
active_is true active to is = is
active_is false active to is = absurd (cc is)

by_request : (q : QueueState) (c : Course) (at to : ℕ) (o : Option Stop) → target_by o (push_target c q) ≡ Some to
    → LeavesFor (served_out o at q) (cause_by o) to
by_request q c at to (Some stop) is = record { what = _; is = refl; cause_is = refl; to_is = same_Some stop.to to is }
by_request q c at to None is =
    record {
      what = _;
      is = λ i. push_out (active_is (push_is_due c q) q.active to is i) at q;
      cause_is = refl;
      to_is = refl;
    }

serve_is_due : (h : Header) (c : CellIs) (l : SideIs) (to : ℕ) → l.course.form ≡ forms.Serving
    → out_target l.course c.queue.state ≡ Some to → LeavesFor (leaving (sight_at h c l)) (out_cause c.queue.state) to
unfolding leaving
serve_is_due h c l to form is =
    subst (λ (o : Option Leaving). LeavesFor o (out_cause c.queue.state) to)
    (sym (λ i. out_by (form i) h l.course c.queue.state))
    (by_request c.queue.state l.course l.course.at to (next_stop c.queue.state true) is)

-- a pull
pull_is_due : (h : Header) (c : CellIs) (l : SideIs) (env : Env) → l.course.form ≡ forms.Looked → env_of h l.course ≡ Some env
    → LeavesFor (leaving (sight_at h c l)) causes.Pull env.to
unfolding leaving
pull_is_due h c l env form is =
    record {
      what = _;
      is = (λ i. out_by (form i) h l.course c.queue.state) ∙ (λ i. pull_out (is i) l.course.at c.queue.state);
      cause_is = refl;
      to_is = refl;
    }

-- ---- and then the lane is in flight
pub wake_flies : (h : Header) (c : CellIs) (l side : SideIs) (to : ℕ) (hand : HandState) (tasks : List ℕ)
    → WakesElsewhere c.queue.state l.course to → side.course ≡ course_left h c l (Out causes.Wake to tasks)
    → IsLoaded hand side.course → to < length h.cpus → InFlight h side.course causes.Wake hand × (hand.to ≡ to)
wake_flies h c l side to hand tasks w left loaded declared =
    flies h c l side causes.Wake to to hand tasks (wake_is_due h c l to w) left loaded declared

pub serve_flies : (h : Header) (c : CellIs) (l side : SideIs) (to : ℕ) (hand : HandState) (tasks : List ℕ)
    → l.course.form ≡ forms.Serving → out_target l.course c.queue.state ≡ Some to
    → side.course ≡ course_left h c l (Out (out_cause c.queue.state) to tasks) → IsLoaded hand side.course → to < length h.cpus
    → InFlight h side.course (out_cause c.queue.state) hand × (hand.to ≡ to)
serve_flies h c l side to hand tasks form is left loaded declared =
    flies h c l side (out_cause c.queue.state) to to hand tasks (serve_is_due h c l to form is) left loaded declared

pub pull_flies : (h : Header) (c : CellIs) (l side : SideIs) (env : Env) (to : ℕ) (hand : HandState) (tasks : List ℕ)
    → l.course.form ≡ forms.Looked → env_of h l.course ≡ Some env → side.course ≡ course_left h c l (Out causes.Pull to tasks)
    → IsLoaded hand side.course → env.to < length h.cpus → InFlight h side.course causes.Pull hand × (hand.to ≡ env.to)
pull_flies h c l side env to hand tasks form is left loaded declared =
    flies h c l side causes.Pull env.to to hand tasks (pull_is_due h c l env form is) left loaded declared

-- a pull goes to the CPU of the turn
pub pull_goes : (h : Header) (c : Course) (env : Env) → env_of h c ≡ Some env → env.to ≡ c.cpu
pull_goes h c env is = by_decision c.decision is
  where
    by_decision : (d : Option Decision) → env_by h c d ≡ Some env → env.to ≡ c.cpu
    by_decision (Some (decisions.Pull s k i)) e = sym (ap (λ (x : Env). x.to) (same_Some _ env e))
    by_decision None e = absurd (cc e)
    by_decision (Some decisions.NotMine) e = absurd (cc e)
    by_decision (Some decisions.Balanced) e = absurd (cc e)
