-- The steps of a queue in the machine, as calls of it: each answer to a command, each landing, and each
-- way in which tasks leave. So a test of tasks that lasts is kept, and so is what is not of tasks.
-- For the lemmas of `Calls`, `Counters` and other files, and so for the laws `calls_may_be_made`, `ready` and others.
use Rattle.std.proofs.Common.{◌≡◌, ◌⊎◌, ℕ, Bool, true, false, List, Option, Some, None, refl, subst, inl, inr, ℤ, is_some, ◌||◌}
use Rattle.std.specs.List.{list_all}
use Rattle.std.specs.Prelude.{IfSome}
use Rattle.lb_pelt.specs.declared.signal.Run.{Run}
use Rattle.lb_pelt.specs.Signal.{Sums, IsBounded, IsWithin, advanced, signal_value}
use Rattle.lb_detach.specs.declared.Env.{Env}
use Rattle.lb_trace.specs.declared.trace.Command.{Command}
use Rattle.lb_trace.specs.declared.trace.Command.TheVariants.{Wake, Sleep, Exit, SetMask, Nice, Tick, Rebuild}
use Rattle.lb_trace.specs.declared.trace.Header.{Header}
use Rattle.lb_queue.specs.declared.record.TaskRecord.{TaskRecord}
use Rattle.lb_queue.specs.declared.answers.OutCause.{OutCause}
use Rattle.lb_queue.specs.declared.answers.OutCause.TheVariants.{Wake as WakeOut, Stop as StopOut, Pull as PullOut, Push as PushOut}
use Rattle.lb_queue.specs.declared.answers.Stop.{Stop}
use Rattle.lb_queue.specs.declared.answers.Taken.{Taken}
use Rattle.lb_queue.specs.declared.awake.Awake.{Awake}
use Rattle.lb_queue.specs.declared.awake.StopRequest.{StopRequest}
use Rattle.lb_queue.specs.declared.awake.StopRequest.TheVariants.{Free, Owed}
use Rattle.lb_queue.specs.declared.answers.Reply.{Reply}
use Rattle.lb_queue.specs.declared.answers.Reply.TheVariants.{NotHere}
use Rattle.lb_queue.specs.Queue.{QueueState, away, knows}
use Rattle.lb_queue.specs.Requests.{next_stop}
use Rattle.lb_queue.specs.Hands.{leave, take_stop, take_push, take_pull, taken_by, land}
use Rattle.lb_queue.specs.Tasks.{is_pending, task_with}
use Rattle.lb_queue.specs.Commands.{wakes, wake, sleeps, sleep, exits, exit, is_bad_mask, unless_bad, request_after, sets_mask, set_mask, renices, renice, with_mask, with_nice}
use Rattle.lb_queue.specs.Moves.{Last, AllPass, Admits, Allows, is_of_tasks, taken_along}
use Rattle.lb_queue.specs.Laws.{CallsMove, TestsLast, CallsKeepRest, AskedIsNext, NextMayBeTaken}
use Rattle.lb_queue.specs.Calls.{Call, after_call, Wake as WakeCall, Leave as LeaveCall, Sleep as SleepCall, Exit as ExitCall, SetMask as SetMaskCall, Renice as ReniceCall, Tick as TickCall, TakeStop as TakeStopCall, TakePush as TakePushCall, Take as TakeCall, Land as LandCall}
use Rattle.lb_queue.proofs.Every.{all_weaker}
use Rattle.lb_core.specs.declared.course.Course.{Course}
use Rattle.lb_core.specs.declared.course.Form.{Form}
use Rattle.lb_core.specs.declared.course.Form.TheVariants.{Rest, Asked, Serving, Looked}
use Rattle.lb_core.specs.Course.{env_of, task_of}
use Rattle.lb_core.specs.Leaving.{Leaving, wake_to, wake_out, stop_out, push_out, served_out, pull_out, out_by}
use Rattle.lb_core.specs.QueueAfter.{answer_to}
use Rattle.lb_core.specs.Same.{same_reply}
use Rattle.lb_ready.specs.Ready.{is_pulling}

-- ---- what leaves a queue: a wake, a stop, a push or a pull
abbrev pub gone : OutCause → ℕ → Option Taken → List TaskRecord × QueueState → Leaving
gone cause to taken moved = record { cause = cause; to = to; hand = moved.0; rest = moved.1; taken = taken }

-- it holds of a wake, of a stop, of a push and of a pull
pub record OfEach (P : Leaving → Type 0) (f : Form) (h : Header) (c : Course) (q : QueueState) : Type 0 where
  pub wake : (t to : ℕ) → f ≡ Asked → c.command ≡ Some (Wake t) → away q t ≡ Some to → P (gone WakeOut to None (leave q c.at t))
  pub stop : (s : Stop) (owed : Bool) → (f ≡ Rest) ⊎ (f ≡ Serving) → next_stop q owed ≡ Some s
      → P (gone StopOut s.to None (take_stop q c.at s.id))
  pub push : (to : ℕ) → f ≡ Serving → next_stop q true ≡ None → q.active ≡ Some to
      → P (gone PushOut to None (take_push q c.at to))
  pub pulls : (env : Env) → f ≡ Looked → env_of h c ≡ Some env
      → P (gone PullOut env.to (Some (taken_by q c.at env)) (take_pull q c.at env))

it_is : (P : Leaving → Type 0) (x l : Leaving) → Some x ≡ Some l → P x → P l
it_is P x l e k = let s : x ≡ l = cc in subst P s k

of_wake : (P : Leaving → Type 0) (h : Header) (c : Course) (q : QueueState) (command : Option Command) (l : Leaving)
    → OfEach P Asked h c q → c.command ≡ command → wake_out command c.at q ≡ Some l → P l
of_wake P h c q (Some (Wake t)) l k i e = by_cpu (away q t) refl e
  where
    by_cpu : (d : Option ℕ) → away q t ≡ d → wake_to d c.at t q ≡ Some l → P l
    by_cpu None a e = absurd (let y : ⊥ = cc in y)
    by_cpu (Some to) a e = it_is P _ l e (k.wake t to refl i a)
of_wake P h c q command l k i e = absurd (let y : ⊥ = cc in y)

of_stop : (P : Leaving → Type 0) (f : Form) (h : Header) (c : Course) (q : QueueState) (o : Option Stop) (owed : Bool)
    (l : Leaving) → OfEach P f h c q → (f ≡ Rest) ⊎ (f ≡ Serving) → next_stop q owed ≡ o → stop_out o c.at q ≡ Some l → P l
of_stop P f h c q None owed l k w i e = absurd (let y : ⊥ = cc in y)
of_stop P f h c q (Some s) owed l k w i e = it_is P _ l e (k.stop s owed w i)

of_push : (P : Leaving → Type 0) (h : Header) (c : Course) (q : QueueState) (a : Option ℕ) (l : Leaving)
    → OfEach P Serving h c q → next_stop q true ≡ None → q.active ≡ a → push_out a c.at q ≡ Some l → P l
of_push P h c q None l k n i e = absurd (let y : ⊥ = cc in y)
of_push P h c q (Some to) l k n i e = it_is P _ l e (k.push to refl n i)

of_served : (P : Leaving → Type 0) (h : Header) (c : Course) (q : QueueState) (o : Option Stop) (l : Leaving)
    → OfEach P Serving h c q → next_stop q true ≡ o → served_out o c.at q ≡ Some l → P l
of_served P h c q None l k i e = of_push P h c q q.active l k i refl e
of_served P h c q (Some s) l k i e = of_stop P Serving h c q (Some s) true l k (inr refl) i e

of_pull : (P : Leaving → Type 0) (h : Header) (c : Course) (q : QueueState) (o : Option Env) (l : Leaving)
    → OfEach P Looked h c q → env_of h c ≡ o → pull_out o c.at q ≡ Some l → P l
of_pull P h c q None l k i e = absurd (let y : ⊥ = cc in y)
of_pull P h c q (Some env) l k i e = it_is P _ l e (k.pulls env refl i)

pub of_out : (P : Leaving → Type 0) (f : Form) (h : Header) (c : Course) (q : QueueState) (l : Leaving)
    → OfEach P f h c q → out_by f h c q ≡ Some l → P l
of_out P Rest h c q l k e = of_stop P Rest h c q (next_stop q false) false l k (inl refl) refl e
of_out P Asked h c q l k e = of_wake P h c q c.command l k refl e
of_out P Serving h c q l k e = of_served P h c q (next_stop q true) l k refl e
of_out P Looked h c q l k e = of_pull P h c q (env_of h c) l k refl e
of_out P f h c q l k e = absurd (let y : ⊥ = cc in y)

-- what holds of every cause but a pull, and of each after a look
pub of_cause : (P : OutCause → Type 0) (f : Form) (h : Header) (c : Course) (q : QueueState) (l : Leaving)
    → ((o : OutCause) → is_pulling o ≡ false → P o) → (f ≡ Looked → (o : OutCause) → P o) → out_by f h c q ≡ Some l → P l.cause
of_cause P f h c q l n y e = of_out (λ (l : Leaving). P l.cause) f h c q l
    (record {
      wake = λ t to i j a. n WakeOut refl;
      stop = λ s owed i m. n StopOut refl;
      push = λ to i m a. n PushOut refl;
      pulls = λ env i m. y i PullOut;
    }) e

-- ---- what the laws below say
-- of queues, and of the signals of their tasks
pub record QueueLaws : Type 0 where
  pub advanced_is : (s : Sums) (run : Run) (now : ℕ) → IsBounded s → IsBounded (advanced s run now)
  pub value_is : (s : Sums) (weight : ℕ) → IsBounded s → IsWithin weight (signal_value s weight)
  pub moves : CallsMove
  pub tests : TestsLast
  pub rest : CallsKeepRest
  pub asked : AskedIsNext
  pub taken : NextMayBeTaken

-- ---- tests of tasks
-- of awake tasks, with their stop requests, and of others: time does not end them, nor does a new nice
-- value, and who joins the awake tasks passes as one that is not asked to leave
pub record Test : Type 0 where
  pub up : StopRequest → TaskRecord → Bool
  pub down : TaskRecord → Bool
  pub lasts : Last up down
  pub joins : (t : TaskRecord) → down t ≡ true → up Free t ≡ true
  pub renices : (id : ℕ) (nice : ℤ) → Allows up down id (λ stop. stop) (with_nice nice)

abbrev pub Passes : Test → QueueState → Type 0
Passes t q = AllPass t.up t.down q

-- tasks in a hand, and the queue that they left
pub record Parted (t : Test) (tasks : List TaskRecord) (left : QueueState) : Type 0 where
  pub hand : list_all t.down tasks ≡ true
  pub rest : Passes t left

-- what a command asks of the test
abbrev pub Takes : Test → QueueState → Option Command → Type 0
Takes t q (Some (SetMask id mask)) = is_bad_mask q mask ≡ false → Allows t.up t.down id (request_after q.cpu mask)
    (with_mask mask)
Takes t q (Some (Tick cpu)) = (stop : StopRequest) (x : TaskRecord) → is_pending stop ≡ true → t.up stop x ≡ true
    → t.up Owed x ≡ true
Takes t q command = Unit {0}

if_some : {X : Type 0} (o : Option X) (P : X → Type 0) → ((x : X) → P x) → IfSome o P
if_some None P f = tt
if_some (Some x) P f = f x

pub answer_passes : (laws : QueueLaws) (t : Test) (command : Option Command) (at : ℕ) (q : QueueState)
    → Takes t q command → Passes t q → Passes t (answer_to command at q).1
answer_passes laws t None at q takes k = k
answer_passes laws t (Some (Wake id)) at q takes k =
    (laws.tests t.up t.down t.lasts q k (WakeCall at id)
    (if_some (task_with id q.asleep) (λ x. t.down x ≡ true → t.up Free x ≡ true) t.joins)).queue
answer_passes laws t (Some (Sleep id)) at q takes k = (laws.tests t.up t.down t.lasts q k (SleepCall at id) tt).queue
answer_passes laws t (Some (Exit id)) at q takes k = (laws.tests t.up t.down t.lasts q k (ExitCall at id) tt).queue
answer_passes laws t (Some (SetMask id mask)) at q takes k =
    (laws.tests t.up t.down t.lasts q k (SetMaskCall at id mask) takes).queue
answer_passes laws t (Some (Nice id nice)) at q takes k =
    (laws.tests t.up t.down t.lasts q k (ReniceCall at id nice) (t.renices id nice)).queue
answer_passes laws t (Some (Tick cpu)) at q takes k = (laws.tests t.up t.down t.lasts q k (TickCall at) takes).queue
answer_passes laws t (Some (Rebuild parts)) at q takes k = k

pub land_passes : (laws : QueueLaws) (t : Test) (q : QueueState) (at : ℕ) (cause : OutCause) (moment : ℕ)
    (hand : List TaskRecord) → list_all t.down hand ≡ true → Passes t q → Passes t (land q at cause moment hand)
land_passes laws t q at cause moment hand h k =
    (laws.tests t.up t.down t.lasts q k (LandCall at cause moment hand) (all_weaker t.down (t.up Free) t.joins hand h)).queue

pub out_passes : (laws : QueueLaws) (t : Test) (f : Form) (h : Header) (c : Course) (q : QueueState) (l : Leaving)
    → out_by f h c q ≡ Some l → Passes t q → Parted t l.hand l.rest
out_passes laws t f h c q l e k = of_out (λ (l : Leaving). Parted t l.hand l.rest) f h c q l (record {
  wake = λ id to i j a. by_call (LeaveCall c.at id to) tt;
  stop = λ s owed i n. by_call (TakeStopCall c.at s.id s.to) tt;
  push = λ to i n a. by_call (TakePushCall c.at to) tt;
  pulls = λ env i n. by_call (TakeCall c.at env) tt;
}) e
  where
    by_call : (call : Call) → Admits t.up t.down q call → Parted t (taken_along q call) (after_call q call)
    by_call call a = let p = laws.tests t.up t.down t.lasts q k call a in record { hand = p.hand; rest = p.queue }

-- ---- what else a step leaves as it is
pub record Alike (q q' : QueueState) : Type 0 where
  pub own : q'.cpu ≡ q.cpu
  pub machine : q'.cpus ≡ q.cpus
  pub asked : (to : ℕ) → q'.active ≡ Some to → q.active ≡ Some to
  pub counted : q'.counters ≡ q.counters

itself : (q : QueueState) → Alike q q
itself q = record { own = refl; machine = refl; asked = λ to e. e; counted = refl }

by_call : (laws : QueueLaws) (q : QueueState) (call : Call) → is_of_tasks call ≡ true → Alike q (after_call q call)
by_call laws q call n = let r = laws.rest q call in let t = r.turns n in
    record { own = r.cpu; machine = r.cpus; asked = t.active; counted = t.counters }

pub answer_alike : (laws : QueueLaws) (command : Option Command) (at : ℕ) (q : QueueState) → Alike q (answer_to command at q).1
answer_alike laws None at q = itself q
answer_alike laws (Some (Wake id)) at q = by_call laws q (WakeCall at id) refl
answer_alike laws (Some (Sleep id)) at q = by_call laws q (SleepCall at id) refl
answer_alike laws (Some (Exit id)) at q = by_call laws q (ExitCall at id) refl
answer_alike laws (Some (SetMask id mask)) at q = by_call laws q (SetMaskCall at id mask) refl
answer_alike laws (Some (Nice id nice)) at q = by_call laws q (ReniceCall at id nice) refl
answer_alike laws (Some (Tick cpu)) at q = by_call laws q (TickCall at) refl
answer_alike laws (Some (Rebuild parts)) at q = itself q

pub land_alike : (laws : QueueLaws) (q : QueueState) (at : ℕ) (cause : OutCause) (moment : ℕ) (hand : List TaskRecord)
    → Alike q (land q at cause moment hand)
land_alike laws q at cause moment hand = by_call laws q (LandCall at cause moment hand) refl

pub out_alike : (laws : QueueLaws) (f : Form) (h : Header) (c : Course) (q : QueueState) (l : Leaving)
    → out_by f h c q ≡ Some l → Alike q l.rest
out_alike laws f h c q l e = of_out (λ (l : Leaving). Alike q l.rest) f h c q l (record {
  wake = λ id to i j a. by_call laws q (LeaveCall c.at id to) refl;
  stop = λ s owed i n. by_call laws q (TakeStopCall c.at s.id s.to) refl;
  push = λ to i n a. by_call laws q (TakePushCall c.at to) refl;
  pulls = λ env i n. by_call laws q (TakeCall c.at env) refl;
}) e

-- ---- answers
-- by where the task is: awake, asleep or gone
known_by : (step : Option Awake → Option TaskRecord → Option TaskRecord → Reply × QueueState) (a : Option Awake)
    (o g : Option TaskRecord) → (is_some a || is_some o || is_some g) ≡ true →
    ((a : Awake) → same_reply (step (Some a) o g).0 NotHere ≡ false)
    → ((t : TaskRecord) → same_reply (step None (Some t) g).0 NotHere ≡ false)
    → ((t : TaskRecord) → same_reply (step None None (Some t)).0 NotHere ≡ false) → same_reply (step a o g).0 NotHere ≡ false
known_by step (Some a) o g h up down gone = up a
known_by step None (Some t) g h up down gone = down t
known_by step None None (Some t) h up down gone = gone t
known_by step None None None h up down gone = absurd (let y : ⊥ = cc in y)

bad_or_done : (b : Bool) (x y : QueueState) → same_reply (unless_bad b x y).0 NotHere ≡ false
bad_or_done true x y = refl
bad_or_done false x y = refl

wakes_awake : (o : Option TaskRecord) (a : Awake) (g : Option TaskRecord) (q : QueueState) (at : ℕ)
    → same_reply (wakes q at o (Some a) g).0 NotHere ≡ false
wakes_awake None a g q at = refl
wakes_awake (Some t) a g q at = refl

-- a queue that knows the task answers its command
pub known_answers : (command : Option Command) (at : ℕ) (q : QueueState)
    → ((id : ℕ) → task_of command ≡ Some id → knows q id ≡ true) → same_reply (answer_to command at q).0 NotHere ≡ false
unfolding wake sleep exit set_mask renice
known_answers None at q known = refl
known_answers (Some (Wake id)) at q known =
    known_by (λ a o g. wakes q at o a g) _ _ _ (known id refl) (λ a. wakes_awake (task_with id q.asleep) a _ q at)
    (λ t. refl) (λ t. refl)
known_answers (Some (Sleep id)) at q known = known_by (sleeps q at) _ _ _ (known id refl) (λ a. refl) (λ t. refl) (λ t. refl)
known_answers (Some (Exit id)) at q known = known_by (exits q at) _ _ _ (known id refl) (λ a. refl) (λ t. refl) (λ t. refl)
known_answers (Some (SetMask id mask)) at q known =
    known_by (sets_mask q at id mask) _ _ _ (known id refl) (λ a. bad_or_done (is_bad_mask q mask) _ _)
    (λ t. bad_or_done (is_bad_mask q mask) _ _) (λ t. refl)
known_answers (Some (Nice id nice)) at q known = known_by (renices q at id nice) _ _ _ (known id refl) (λ a. refl)
    (λ t. refl) (λ t. refl)
known_answers (Some (Tick cpu)) at q known = refl
known_answers (Some (Rebuild parts)) at q known = refl

-- what a step does not bring was there before
pub not_brought : (before now : Bool) → (before ≡ false → now ≡ false) → now ≡ true → before ≡ true
not_brought true now h k = refl
not_brought false now h k = absurd (let n = h refl in let y : ⊥ = cc in y)
