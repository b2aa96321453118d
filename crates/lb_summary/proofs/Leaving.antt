-- What an `out` that may be added says: a pull is of a lane that balances a domain, and no more tasks leave
-- than the trace has.
-- For the lemmas of `Counted`, `Going` and `Within`, and so for the laws `pulls_are_within`, `tasks_count_once` and
-- `steps_are_places`.
use Rattle.std.proofs.Common.{arith, ◌≡◌, ℕ, ◌+◌, ◌≤◌, true, false, not, List, length, Option, Some, None, refl, sym, ◌∙◌, ap, get_or-set_same}
use Rattle.std.proofs.lemmas.Bool.{or_parts, not-false}
use Rattle.lb_queue.specs.declared.answers.OutCause.{OutCause}
use Rattle.lb_queue.specs.declared.answers.OutCause.TheVariants.{Pull}
use Rattle.lb_queue.specs.declared.answers.Stop.{Stop}
use Rattle.lb_queue.specs.Queue.{QueueState, away}
use Rattle.lb_queue.specs.Requests.{next_stop}
use Rattle.lb_queue.specs.Tasks.{ids}
use Rattle.lb_trace.specs.declared.trace.Command.{Command}
use Rattle.lb_trace.specs.declared.trace.Command.TheVariants.{Wake as WakeTask}
use Rattle.lb_core.specs.declared.course.Course.{Course}
use Rattle.lb_core.specs.declared.course.Form.{Form}
use Rattle.lb_core.specs.declared.course.Form.TheVariants.{Rest, Asked, Serving, Looked}
use Rattle.lb_core.specs.declared.entry.Owner.{Owner}
use Rattle.lb_core.specs.declared.entry.Owner.TheVariants.{Publisher, Lane, Queue}
use Rattle.lb_core.specs.declared.entry.What.{What}
use Rattle.lb_core.specs.declared.entry.What.TheVariants.{Out}
use Rattle.lb_core.specs.declared.place.Place.TheVariants.{Hand as HandOf}
use Rattle.lb_core.specs.declared.rule.Rule.TheVariants.{Pick}
use Rattle.lb_core.specs.CourseAfter.{course_after, drew, takes_off}
use Rattle.lb_core.specs.Leaving.{Leaving, leaving, out_by, wake_out, wake_to, stop_out, push_out, served_out}
use Rattle.lb_core.specs.Legal.{MayBeAdded}
use Rattle.lb_core.specs.Machine.{MachineState, no_course, course_at, sight}
use Rattle.lb_core.specs.OpenTurns.{IsAtPosition, TurnIn}
use Rattle.lb_core.specs.Placed.{IsPlaced}
use Rattle.lb_core.specs.Rules.{is_other_out}
use Rattle.lb_core.specs.Same.{same_cause}
use Rattle.lb_core.specs.Step.{after}
use Rattle.lb_core.proofs.Equality.{cause_is, numbers_same}
use Rattle.lb_core.proofs.Placing.{entry, lane_there}
use Rattle.lb_core.proofs.Unbroken.{unbroken_here}
use Rattle.lb_ready.specs.Ready.{IsReady}
use Rattle.lb_summary.specs.Counting.{PullsWhere, MayCount}
use Rattle.lb_state.proofs.Counted.{few_at}

-- ---- the `out` that is due
-- it is that of the entry
pub record IsDue (o : Option Leaving) (cause : OutCause) (tasks : List ℕ) : Type 0 where
  pub out : Leaving
  pub due : o ≡ Some out
  pub same_cause : cause ≡ out.cause
  pub same_tasks : tasks ≡ ids out.hand

is_due : (o : Option Leaving) (cause : OutCause) (to : ℕ) (tasks : List ℕ) → is_other_out o cause to tasks ≡ false
    → IsDue o cause tasks
is_due None cause to tasks h = absurd (let y : ⊥ = cc in y)
is_due (Some l) cause to tasks h =
    let p = or_parts _ _ h in
    let q = or_parts (not (same_cause cause l.cause)) _ p.0 in
    record {
      out = l;
      due = refl;
      same_cause = cause_is cause l.cause (not-false _ q.0);
      same_tasks = numbers_same tasks (ids l.hand) (not-false _ p.1);
    }

pub due_of : (m : MachineState) (o : Owner) (lane prev : ℕ) (cause : OutCause) (to : ℕ) (tasks : List ℕ)
    → MayBeAdded m (entry o lane prev (Out cause to tasks)) →
    IsDue (leaving (sight m (entry o lane prev (Out cause to tasks)))) cause tasks
due_of m o lane prev cause to tasks h = is_due _ cause to tasks (unbroken_here m (entry o lane prev (Out cause to tasks)) h Pick)

-- ---- a pull
not_stop : (o : Option Stop) (at : ℕ) (q : QueueState) (l : Leaving) → stop_out o at q ≡ Some l → Pull ≡ l.cause → ⊥
not_stop None at q l h c = cc
not_stop (Some s) at q l h c = cc

not_push : (o : Option ℕ) (at : ℕ) (q : QueueState) (l : Leaving) → push_out o at q ≡ Some l → Pull ≡ l.cause → ⊥
not_push None at q l h c = cc
not_push (Some to) at q l h c = cc

not_served : (o : Option Stop) (at : ℕ) (q : QueueState) (l : Leaving) → served_out o at q ≡ Some l → Pull ≡ l.cause → ⊥
not_served None at q l h c = not_push q.active at q l h c
not_served (Some s) at q l h c = not_stop (Some s) at q l h c

not_wake_to : (o : Option ℕ) (at t : ℕ) (q : QueueState) (l : Leaving) → wake_to o at t q ≡ Some l → Pull ≡ l.cause → ⊥
not_wake_to None at t q l h c = cc
not_wake_to (Some to) at t q l h c = cc

not_wake : (command : Option Command) (at : ℕ) (q : QueueState) (l : Leaving) → wake_out command at q ≡ Some l
    → Pull ≡ l.cause → ⊥
not_wake None at q l h c = cc
not_wake (Some (WakeTask t)) at q l h c = not_wake_to (away q t) at t q l h c
not_wake (Some command) at q l h c = cc

-- only after a look tasks are pulled, and there the lane balances a domain
pub pull_at : (f : Form) (m : MachineState) (lane : ℕ) (q : QueueState) (l : Leaving) → Pull ≡ l.cause
    → out_by f m.header (course_at m.courses lane) q ≡ Some l → TurnIn f m lane (course_at m.courses lane)
    → IsAtPosition m lane (course_at m.courses lane)
pull_at Rest m lane q l c h t = absurd (not_stop (next_stop q false) (course_at m.courses lane).at q l h c)
pull_at Asked m lane q l c h t = absurd (not_wake (course_at m.courses lane).command (course_at m.courses lane).at q l h c)
pull_at Serving m lane q l c h t = absurd (not_served (next_stop q true) (course_at m.courses lane).at q l h c)
pull_at Looked m lane q l c h t = t
pull_at f m lane q l c h t = absurd (let y : ⊥ = cc in y)

pulls_where : (m : MachineState) (o : Owner) (lane prev : ℕ) (cause : OutCause) (to : ℕ) (tasks : List ℕ) → IsReady m
    → MayBeAdded m (entry o lane prev (Out cause to tasks)) → PullsWhere cause m lane
unfolding sight leaving
pulls_where m o lane prev Pull to tasks k h =
    let d = due_of m o lane prev Pull to tasks h in
    record {
      there = lane_there m (entry o lane prev (Out Pull to tasks)) h;
      turned = (k.fits lane).says.turned;
      position = pull_at (course_at m.courses lane).form m lane _ d.out d.same_cause d.due (k.turns lane);
    }
pulls_where m o lane prev cause to tasks k h = tt

-- ---- tasks in a hand
hand_taken : (o : Owner) (n : ℕ) (x : Option Leaving) (l : Leaving) (c : Course) → x ≡ Some l
    → (drew o n (takes_off x c)).hand ≡ l.hand
hand_taken Publisher n x l c h = rw h refl
hand_taken (Lane k) n x l c h = rw h refl
hand_taken (Queue cpu) n x l c h = rw h refl

-- those that leave are in the hand afterwards
pub few_leave : (m : MachineState) (o : Owner) (lane prev : ℕ) (cause : OutCause) (to : ℕ) (tasks : List ℕ)
    → MayBeAdded m (entry o lane prev (Out cause to tasks)) → IsPlaced (after m (entry o lane prev (Out cause to tasks)))
    → length tasks ≤ length m.header.tasks
unfolding after course_after
few_leave m o lane prev cause to tasks h placed =
    let e = entry o lane prev (Out cause to tasks) in
    let d = due_of m o lane prev cause to tasks h in
    let c = get_or-set_same m.courses lane (course_after (sight m e) e) no_course (lane_there m e h) in
    let taken = hand_taken o ((sight m e).count + 1) (leaving (sight m e)) d.out (sight m e).course d.due in
    let hand = ap (λ (x : Course). x.hand) c ∙ taken in
    let same : tasks ≡ ids (course_at (after m e).courses lane).hand = d.same_tasks ∙ ap ids (sym hand) in
    let few = few_at (after m e) (HandOf lane) placed in
    rw same few

-- ---- each entry may be counted
pub may_count : (m : MachineState) (o : Owner) (lane prev : ℕ) (w : What) → IsReady m
    → MayBeAdded m (entry o lane prev w) → IsReady (after m (entry o lane prev w)) → MayCount w m lane
may_count m o lane prev (Out cause to tasks) k h later = (
  pulls_where m o lane prev cause to tasks k h,
  let f = few_leave m o lane prev cause to tasks h later.placed in let n = k.accepted.most_tasks in omega arith,
)
may_count m o lane prev w k h later = tt
