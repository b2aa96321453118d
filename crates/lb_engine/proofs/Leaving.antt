-- Tasks that left a queue by a wake, a stop, a push or a pull: the step of the engine, cause by cause.
-- For `leave_by_stop`, `leave_by_push`, `leave_asleep` and others.
use Rattle.std.proofs.Common.{ℕ, ◌≡◌, Option, Some, None, List, [], ◌++◌, length, refl, ap, sym, ◌∙◌, subst}
use Rattle.lb_detach.specs.declared.Env.{Env}
use Rattle.lb_queue.specs.declared.record.TaskRecord.{TaskRecord}
use Rattle.lb_queue.specs.declared.awake.Awake.{Awake}
use Rattle.lb_queue.specs.declared.answers.OutCause.{OutCause}
use Rattle.lb_queue.specs.declared.answers.OutCause.TheVariants.{Wake as WakeOut, Stop as StopOut, Pull as PullOut, Push as PushOut}
use Rattle.lb_queue.specs.declared.answers.Stop.{Stop}
use Rattle.lb_queue.specs.declared.answers.Taken.{Taken}
use Rattle.lb_queue.specs.Tasks.{task_with, awake_with}
use Rattle.lb_queue.specs.Queue.{QueueState, clock_at}
use Rattle.lb_queue.specs.Hands.{HandState, loaded, leave, leaves_asleep, leaves_awake, take_stop, take_push, pushed, take_pull, taken_by}
use Rattle.lb_core.specs.declared.course.Course.{Course}
use Rattle.lb_core.specs.CourseAfter.{takes_off}
use Rattle.lb_core.specs.Leaving.{Leaving, leaving_by, wake_to, stop_out, push_out, pull_out}
use Rattle.lb_core.specs.Placed.{is_flight}
use Rattle.lb_core.specs.QueueAfter.{rest_of}
use Rattle.lb_engine.specs.Held.{IsInFlight}
use Rattle.lb_engine.specs.Leaves.{GoesTo, HaveLeft, IsDue}

-- ---- where they go
pub wake_goes : (o : Option ℕ) (x at id : ℕ) (q : QueueState) (to : ℕ) → o ≡ Some x → GoesTo (wake_to o at id q) to → o ≡ Some to
wake_goes o x at id q to e goes =
    e ∙ ap (λ (k : ℕ). Some k) (let P : Option ℕ → Type 0 = λ v. GoesTo (wake_to v at id q) to in subst P e goes)

pub push_goes : (o : Option ℕ) (x at : ℕ) (q : QueueState) (to : ℕ) → o ≡ Some x → GoesTo (push_out o at q) to → o ≡ Some to
push_goes o x at q to e goes =
    e ∙ ap (λ (k : ℕ). Some k) (let P : Option ℕ → Type 0 = λ v. GoesTo (push_out v at q) to in subst P e goes)

pub stop_goes_to : (o : Option Stop) (s : Stop) (at : ℕ) (q : QueueState) (to : ℕ) → o ≡ Some s
    → GoesTo (stop_out o at q) to → s.to ≡ to
stop_goes_to o s at q to e goes = let P : Option Stop → Type 0 = λ v. GoesTo (stop_out v at q) to in subst P e goes

-- ---- the clock
asleep_clock : (q : QueueState) (at : ℕ) (o : Option TaskRecord) → (leaves_asleep q at o).1.clock ≡ clock_at q at
asleep_clock q at None = refl
asleep_clock q at (Some t) = refl

awake_clock : (q : QueueState) (at : ℕ) (o : Option Awake) → (leaves_awake q at o).1.clock ≡ clock_at q at
awake_clock q at None = refl
awake_clock q at (Some a) = refl

leave_clock : (q : QueueState) (at id : ℕ) → (leave q at id).1.clock ≡ clock_at q at
unfolding leave
leave_clock q at id = asleep_clock q at (task_with id q.asleep)

stop_clock : (q : QueueState) (at id : ℕ) → (take_stop q at id).1.clock ≡ clock_at q at
unfolding take_stop
stop_clock q at id = awake_clock q at (awake_with id q.awake)

push_clock : (q : QueueState) (at to : ℕ) → (take_push q at to).1.clock ≡ clock_at q at
unfolding take_push
push_clock q at to = awake_clock (record q { active = None }) at (pushed q at to)

pull_clock : (q : QueueState) (at : ℕ) (env : Env) → (take_pull q at env).1.clock ≡ clock_at q at
unfolding take_pull
pull_clock q at env = refl

-- ---- they have left
left_as : (cause : OutCause) (to : ℕ) (taken : Option Taken) (q : QueueState) (at : ℕ)
    (moved : List TaskRecord × QueueState) (q2 : QueueState) (h h2 : HandState)
    → h.tasks ≡ [] → moved.1.clock ≡ clock_at q at → q2 ≡ moved.1 → h2 ≡ loaded q at moved.0 h
    → HaveLeft (leaving_by cause to taken moved) q2 h h2 taken
left_as cause to taken q at moved q2 h h2 empty clock rest hand = record {
  rest_is = rest;
  tasks_are = ap (λ (x : HandState). x.tasks) hand ∙ ap (λ (l : List TaskRecord). l ++ moved.0) empty;
  moment_is = ap (λ (x : HandState). x.moment) hand ∙ sym clock;
  to_is = ap (λ (x : HandState). x.to) hand;
  taken_is = refl;
}

pub left_asleep : (o : Option ℕ) (x at id : ℕ) (q q2 : QueueState) (h h2 : HandState) → o ≡ Some x → h.tasks ≡ []
    → q2 ≡ (leave q at id).1 → h2 ≡ loaded q at (leave q at id).0 h → HaveLeft (wake_to o at id q) q2 h h2 None
left_asleep o x at id q q2 h h2 e empty rest hand =
    let P : Option ℕ → Type 0 = λ v. HaveLeft (wake_to v at id q) q2 h h2 None in
    subst P (sym e) (left_as WakeOut x None q at (leave q at id) q2 h h2 empty (leave_clock q at id) rest hand)

pub left_by_stop : (o : Option Stop) (s : Stop) (at : ℕ) (q q2 : QueueState) (h h2 : HandState) → o ≡ Some s → h.tasks ≡ []
    → q2 ≡ (take_stop q at s.id).1 → h2 ≡ loaded q at (take_stop q at s.id).0 h → HaveLeft (stop_out o at q) q2 h h2 None
left_by_stop o s at q q2 h h2 e empty rest hand =
    let P : Option Stop → Type 0 = λ v. HaveLeft (stop_out v at q) q2 h h2 None in
    subst P (sym e) (left_as StopOut s.to None q at (take_stop q at s.id) q2 h h2 empty (stop_clock q at s.id) rest hand)

pub left_by_push : (o : Option ℕ) (to at : ℕ) (q q2 : QueueState) (h h2 : HandState) → o ≡ Some to → h.tasks ≡ []
    → q2 ≡ (take_push q at to).1 → h2 ≡ loaded q at (take_push q at to).0 h → HaveLeft (push_out o at q) q2 h h2 None
left_by_push o to at q q2 h h2 e empty rest hand =
    let P : Option ℕ → Type 0 = λ v. HaveLeft (push_out v at q) q2 h h2 None in
    subst P (sym e) (left_as PushOut to None q at (take_push q at to) q2 h h2 empty (push_clock q at to) rest hand)

pub left_by_pull : (o : Option Env) (env : Env) (at : ℕ) (q q2 : QueueState) (h h2 : HandState) (taken : Option Taken)
    → o ≡ Some env → h.tasks ≡ []
    → q2 ≡ (take_pull q at env).1 → h2 ≡ loaded q at (take_pull q at env).0 h → taken ≡ Some (taken_by q at env)
    → HaveLeft (pull_out o at q) q2 h h2 taken
left_by_pull o env at q q2 h h2 taken e empty rest hand te =
    let P : Option Env → Type 0 = λ v. HaveLeft (pull_out v at q) q2 h h2 taken in
    subst P (sym e)
    (subst (λ (x : Option Taken). HaveLeft
    (leaving_by PullOut env.to (Some (taken_by q at env)) (take_pull q at env)) q2 h h2 x) (sym te)
    (left_as PullOut env.to (Some (taken_by q at env)) q at (take_pull q at env) q2 h h2 empty (pull_clock q at env) rest hand))

-- ---- as the course notes
same_leaving : (l : Leaving) (cause : OutCause) (to : ℕ) (hand : List TaskRecord) (taken : Option Taken)
    → l.cause ≡ cause → l.to ≡ to → hand ≡ l.hand → taken ≡ l.taken
    → leaving_by cause to taken (hand, l.rest) ≡ Some l
same_leaving l cause to hand taken ce te he ke = rw (← ce, ← te, he, ke) refl

pub noted_course : (o : Option Leaving) (cause : OutCause) (to count : ℕ) (rest : QueueState)
    (empty loaded : HandState) (records : List TaskRecord) (taken : Option Taken) (c c2 : Course)
    → IsDue o cause empty.to count → HaveLeft o rest empty loaded taken → records ≡ loaded.tasks → to ≡ loaded.to
    → ((q : QueueState) → q.clock ≡ loaded.moment → c2 ≡ takes_off (leaving_by cause to taken (records, q)) c) → c2
    ≡ takes_off o c
noted_course None cause to count rest empty loaded records taken c c2 due left re te course = absurd due
noted_course (Some l) cause to count rest empty loaded records taken c c2 due left re te course =
    course l.rest (sym left.moment_is)
    ∙ ap (λ (o : Option Leaving). takes_off o c)
    (same_leaving l cause to records taken due.cause_is (due.to_is ∙ sym left.to_is ∙ sym te) (re ∙ left.tasks_are) left.taken_is)

pub noted_hand : (o : Option Leaving) (cause : OutCause) (count : ℕ) (rest : QueueState) (empty loaded : HandState)
    (taken : Option Taken) (c c2 : Course)
    → IsDue o cause empty.to count → HaveLeft o rest empty loaded taken → c2 ≡ takes_off o c → IsInFlight loaded c2
noted_hand None cause count rest empty loaded taken c c2 due left course = absurd due
noted_hand (Some l) cause count rest empty loaded taken c c2 due left course = record {
  flight = ap (λ (x : Course). is_flight x.form) course;
  loaded = record {
    to = left.to_is ∙ sym due.to_is ∙ sym (ap (λ (x : Course). x.to) course);
    moment = left.moment_is ∙ sym (ap (λ (x : Course). x.moment) course);
    tasks = left.tasks_are ∙ sym (ap (λ (x : Course). x.hand) course);
  };
}

pub noted_rest : (o : Option Leaving) (cause : OutCause) (count : ℕ) (q rest : QueueState) (empty loaded : HandState)
    (taken : Option Taken)
    → IsDue o cause empty.to count → HaveLeft o rest empty loaded taken → rest ≡ rest_of o q
noted_rest None cause count q rest empty loaded taken due left = absurd due
noted_rest (Some l) cause count q rest empty loaded taken due left = left.rest_is

pub as_many : (o : Option Leaving) (cause : OutCause) (count : ℕ) (rest : QueueState) (empty loaded : HandState)
    (taken : Option Taken)
    → IsDue o cause empty.to count → HaveLeft o rest empty loaded taken → length loaded.tasks ≡ count
as_many None cause count rest empty loaded taken due left = absurd due
as_many (Some l) cause count rest empty loaded taken due left = ap (λ (l : List TaskRecord). length l) left.tasks_are
    ∙ due.tasks_are

pub goes_there : (o : Option Leaving) (cause : OutCause) (to count : ℕ) → IsDue o cause to count → GoesTo o to
goes_there None cause to count due = tt
goes_there (Some l) cause to count due = due.to_is

pub stays_bound : (o : Option Leaving) (cause : OutCause) (count : ℕ) (rest : QueueState) (empty loaded : HandState)
    (taken : Option Taken)
    → IsDue o cause empty.to count → HaveLeft o rest empty loaded taken → loaded.to ≡ empty.to
stays_bound None cause count rest empty loaded taken due left = absurd due
stays_bound (Some l) cause count rest empty loaded taken due left = left.to_is
