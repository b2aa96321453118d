-- The answer of a queue that knows the command's task may be drawn, and how the course goes on.
-- For `Cell::answer`.
use Rattle.std.proofs.Common.{ℕ, pos, ◌≡◌, Bool, true, false, not, ◌&&◌, ◌||◌, ltb, [], ◌∷◌, Option, Some, None, is_some, IfSome, length, refl, sym, subst, ap, ◌∙◌}
use Rattle.lb_queue.specs.declared.answers.Reply.{Reply}
use Rattle.lb_queue.specs.declared.answers.Reply.TheVariants.{NotHere}
use Rattle.lb_queue.specs.declared.awake.Awake.{Awake}
use Rattle.lb_queue.specs.declared.awake.StopRequest.TheVariants.{Free}
use Rattle.lb_base.specs.Mask.{no_cpus}
use Rattle.lb_queue.specs.declared.record.TaskRecord.{TaskRecord}
use Rattle.lb_queue.specs.Queue.{QueueState, empty_queue, new_task, knows, is_awake}
use Rattle.lb_queue.specs.Tasks.{task_with, awake_with}
use Rattle.lb_queue.specs.Commands.{wake, wakes, sleep, sleeps, exit, exits, set_mask, sets_mask, renice, renices, unless_bad, is_bad_mask}
use Rattle.lb_queue.specs.Requests.{has_owed}
use Rattle.lb_trace.specs.declared.trace.Command.{Command}
use Rattle.lb_trace.specs.declared.trace.Command.TheVariants.{Wake, Sleep, Exit, SetMask, Nice, Tick, Rebuild}
use Rattle.lb_trace.specs.declared.trace.Header.{Header}
use Rattle.lb_core.specs.declared.course.Course.{Course}
use Rattle.lb_core.specs.declared.course.Form.{Form}
use Rattle.lb_core.specs.declared.entry.Owner.TheVariants.{Queue}
use Rattle.lb_core.specs.declared.entry.What.TheVariants.{Did}
use Rattle.lb_core.specs.declared.rule.Rule.{Rule}
use Rattle.lb_core.specs.declared.rule.Rule.TheVariants.{Ticket, Prev, Stage, Row as RowRule, Place, Reply as ReplyRule, Version, Figure, Decision as DecisionRule, Pick, Flight, Counters as CountersRule, Owed, End}
use Rattle.lb_core.specs.Same.{same_reply}
use Rattle.lb_core.specs.Course.{ticked_cpu, is_tick, is_rebuild, task_of}
use Rattle.lb_core.specs.Asks.{CommandAsks}
use Rattle.lb_core.specs.Elsewhere.{is_rest}
use Rattle.lb_core.specs.Stage.{is_queue, queue_due, draws, stage_allows}
use Rattle.lb_core.specs.Rules.{leaves_instead, breaks_here}
use Rattle.lb_core.specs.QueueAfter.{answer_to}
use Rattle.lb_core.specs.CourseAfter.{answered}
use Rattle.lb_core.proofs.Equality.{equal_itself, reply_itself}
use Rattle.lb_course.specs.Answers.{WasAwake}
use Rattle.lb_cell.specs.Cells.{CellIs, LaneIs}
use Rattle.lb_cell.specs.Draws.{MayDraw, sight_at, entry_at}
use Rattle.lb_cell.specs.Commands.{CanAnswer, answers_at}
use Rattle.lb_cell.proofs.Falling.{falls_asleep, ends_awake}

-- ---- the commands that a queue answers
may_did : (o : Option Command) (cpu : ℕ) → answers_at o cpu ≡ true
    → not (is_queue (Queue cpu) (ticked_cpu o) && (is_some o && not (is_rebuild o))) ≡ false
may_did None cpu e = absurd (cc e)
may_did (Some (Wake t)) cpu e = refl
may_did (Some (Sleep t)) cpu e = refl
may_did (Some (Exit t)) cpu e = refl
may_did (Some (SetMask t m)) cpu e = refl
may_did (Some (Nice t n)) cpu e = refl
may_did (Some (Tick c)) cpu e = rw e refl
may_did (Some (Rebuild p)) cpu e = absurd (cc e)

-- ---- what the command asks of the queue
stays : (o : Option Command) (q : QueueState) → CommandAsks o q → leaves_instead o q ≡ false
stays None q a = refl
stays (Some (Wake t)) q a = ap is_some a
stays (Some (Sleep t)) q a = refl
stays (Some (Exit t)) q a = refl
stays (Some (SetMask t m)) q a = refl
stays (Some (Nice t n)) q a = refl
stays (Some (Tick c)) q a = refl
stays (Some (Rebuild p)) q a = refl

none_owed : (o : Option Command) (q : QueueState) → CommandAsks o q → (is_tick o && has_owed q) ≡ false
none_owed None q a = refl
none_owed (Some (Wake t)) q a = refl
none_owed (Some (Sleep t)) q a = refl
none_owed (Some (Exit t)) q a = refl
none_owed (Some (SetMask t m)) q a = refl
none_owed (Some (Nice t n)) q a = refl
none_owed (Some (Tick c)) q a = a
none_owed (Some (Rebuild p)) q a = refl

-- ---- a queue that knows the task
abbrev KnowsOne : Option Awake → Option TaskRecord → Option TaskRecord → Type 0
KnowsOne a s g = (is_some a || is_some s || is_some g) ≡ true

bad_here : (b : Bool) (before after : QueueState) → same_reply (unless_bad b before after).0 NotHere ≡ false
bad_here true before after = refl
bad_here false before after = refl

wake_here : (q : QueueState) (at t : ℕ) → knows q t ≡ true → same_reply (wake q at t).0 NotHere ≡ false
unfolding wake
wake_here q at t = go (awake_with t q.awake) (task_with t q.asleep) (task_with t q.gone)
  where
    go : (a : Option Awake) (s g : Option TaskRecord) → KnowsOne a s g → same_reply (wakes q at s a g).0 NotHere ≡ false
    go a (Some s) g k = refl
    go (Some a) None g k = refl
    go None None (Some g) k = refl
    go None None None k = absurd (cc k)

sleep_here : (q : QueueState) (at t : ℕ) → knows q t ≡ true → same_reply (sleep q at t).0 NotHere ≡ false
unfolding sleep
sleep_here q at t = go (awake_with t q.awake) (task_with t q.asleep) (task_with t q.gone)
  where
    go : (a : Option Awake) (s g : Option TaskRecord) → KnowsOne a s g → same_reply (sleeps q at a s g).0 NotHere ≡ false
    go (Some a) s g k = refl
    go None (Some s) g k = refl
    go None None (Some g) k = refl
    go None None None k = absurd (cc k)

exit_here : (q : QueueState) (at t : ℕ) → knows q t ≡ true → same_reply (exit q at t).0 NotHere ≡ false
unfolding exit
exit_here q at t = go (awake_with t q.awake) (task_with t q.asleep) (task_with t q.gone)
  where
    go : (a : Option Awake) (s g : Option TaskRecord) → KnowsOne a s g → same_reply (exits q at a s g).0 NotHere ≡ false
    go (Some a) s g k = refl
    go None (Some s) g k = refl
    go None None (Some g) k = refl
    go None None None k = absurd (cc k)

mask_here : (q : QueueState) (at t : ℕ) (m : _) → knows q t ≡ true → same_reply (set_mask q at t m).0 NotHere ≡ false
unfolding set_mask
mask_here q at t m = go (awake_with t q.awake) (task_with t q.asleep) (task_with t q.gone)
  where
    go : (a : Option Awake) (s g : Option TaskRecord) → KnowsOne a s g → same_reply (sets_mask q at t m a s g).0 NotHere ≡ false
    go (Some a) s g k = bad_here (is_bad_mask q m) _ _
    go None (Some s) g k = bad_here (is_bad_mask q m) _ _
    go None None (Some g) k = refl
    go None None None k = absurd (cc k)

nice_here : (q : QueueState) (at t : ℕ) (n : _) → knows q t ≡ true → same_reply (renice q at t n).0 NotHere ≡ false
unfolding renice
nice_here q at t n = go (awake_with t q.awake) (task_with t q.asleep) (task_with t q.gone)
  where
    go : (a : Option Awake) (s g : Option TaskRecord) → KnowsOne a s g → same_reply (renices q at t n a s g).0 NotHere ≡ false
    go (Some a) s g k = refl
    go None (Some s) g k = refl
    go None None (Some g) k = refl
    go None None None k = absurd (cc k)

here : (q : QueueState) (cpu : ℕ) (c : Course) → CanAnswer q cpu c → same_reply (answer_to c.command c.at q).0 NotHere ≡ false
here q cpu c can = go c.command can.here
  where
    go : (o : Option Command) → IfSome (task_of o) (λ t. knows q t ≡ true) → same_reply (answer_to o c.at q).0 NotHere ≡ false
    go None k = refl
    go (Some (Wake t)) k = wake_here q c.at t k
    go (Some (Sleep t)) k = sleep_here q c.at t k
    go (Some (Exit t)) k = exit_here q c.at t k
    go (Some (SetMask t m)) k = mask_here q c.at t m k
    go (Some (Nice t n)) k = nice_here q c.at t n k
    go (Some (Tick cpu)) k = refl
    go (Some (Rebuild p)) k = refl

-- ---- no rule is broken
allowed : (h : Header) (c : CellIs) (l : LaneIs) (r : Reply) → CanAnswer c.queue.state c.log.writer.cpu l.course
    → r ≡ (answer_to l.course.command l.course.at c.queue.state).0
    → (rule : Rule) → breaks_here rule (sight_at h c l) (entry_at c l (Did r)) ≡ false
unfolding stage_allows draws
allowed h c l r can is Stage =
    subst
    (λ (f : Form).
    not (is_queue (Queue c.log.writer.cpu) (queue_due f l.course) && draws f h l.course c.queue.state l.number (Did r)) ≡ false)
    (sym can.form) (may_did l.course.command c.log.writer.cpu can.command)
allowed h c l r can is ReplyRule =
    let a : Reply = (answer_to l.course.command l.course.at c.queue.state).0 in
    subst
    (λ (x : Reply). (leaves_instead l.course.command c.queue.state || same_reply x NotHere || not (same_reply x a)) ≡ false)
    (sym is)
    (rw (stays l.course.command c.queue.state can.asks)
    (rw (here c.queue.state c.log.writer.cpu l.course can) (rw (reply_itself a) refl)))
allowed h c l r can is Owed = none_owed l.course.command c.queue.state can.asks
allowed h c l r can is Ticket = refl
allowed h c l r can is Prev = refl
allowed h c l r can is RowRule = refl
allowed h c l r can is Place = refl
allowed h c l r can is Version = refl
allowed h c l r can is Figure = refl
allowed h c l r can is DecisionRule = refl
allowed h c l r can is Pick = refl
allowed h c l r can is Flight = refl
allowed h c l r can is CountersRule = refl
allowed h c l r can is End = refl

pub may_answer : (h : Header) (c : CellIs) (l : LaneIs) (r : Reply) → CanAnswer c.queue.state c.log.writer.cpu l.course
    → r ≡ (answer_to l.course.command l.course.at c.queue.state).0 → MayDraw h c l (Did r)
may_answer h c l r can is = record {
  of_queue = refl;
  at_work = ap is_rest can.form;
  allowed = allowed h c l r can is;
  answers = tt;
}

-- ---- the course
-- some queue where the task is awake, or is not
witness : (t : ℕ) (b : Bool) → (q : QueueState) × (is_awake q t ≡ b)
witness t false = (empty_queue 0 0, refl)
witness t true = (
  record (empty_queue 0 0) { awake = record { task = new_task t (pos 0) no_cpus; running = false; stop = Free } ∷ [] },
  rw (equal_itself t) refl,
)

-- whether the command's task was awake is told by how many are
course_did : (o : Option Command) (cpu at : ℕ) (q now : QueueState) (c new : Course) → now ≡ (answer_to o at q).1
    → ((before after : QueueState) → WasAwake o before (ltb (length now.awake) (length q.awake))
    → length after.awake ≡ length now.awake → new ≡ answered o cpu before after c)
    → new ≡ answered o cpu q now c
course_did None cpu at q now c new is f = f q now tt refl
course_did (Some (Wake t)) cpu at q now c new is f =
    let w = witness t (ltb (length now.awake) (length q.awake)) in f w.0 now w.1 refl
course_did (Some (Sleep t)) cpu at q now c new is f =
    f q now (falls_asleep q at t ∙ ap (λ (x : QueueState). ltb (length x.awake) (length q.awake)) (sym is)) refl
course_did (Some (Exit t)) cpu at q now c new is f =
    f q now (ends_awake q at t ∙ ap (λ (x : QueueState). ltb (length x.awake) (length q.awake)) (sym is)) refl
course_did (Some (SetMask t m)) cpu at q now c new is f =
    let w = witness t (ltb (length now.awake) (length q.awake)) in f w.0 now w.1 refl
course_did (Some (Nice t n)) cpu at q now c new is f =
    let w = witness t (ltb (length now.awake) (length q.awake)) in f w.0 now w.1 refl
course_did (Some (Tick k)) cpu at q now c new is f = f q now tt refl
course_did (Some (Rebuild p)) cpu at q now c new is f = f q now tt refl

-- by the numbers that were counted
pub course_answered : (o : Option Command) (cpu at : ℕ) (q now : QueueState) (c new : Course) (was awake here : ℕ)
    → was ≡ length q.awake → awake ≡ length now.awake → here ≡ cpu → now ≡ (answer_to o at q).1
    → ((before after : QueueState) → WasAwake o before (ltb awake was) → length after.awake ≡ awake
    → new ≡ answered o here before after c)
    → new ≡ answered o cpu q now c
course_answered o cpu at q now c new was awake here ew ea eh is f =
    course_did o cpu at q now c new is (λ before after w l.
    f before after (subst (λ (b : Bool). WasAwake o before b) (λ i. ltb (sym ea i) (sym ew i)) w) (l ∙ sym ea)
    ∙ ap (λ (k : ℕ). answered o k before after c) eh)
