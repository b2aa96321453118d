-- The entries by which tasks leave a queue and land at another may be drawn, and are what their courses note.
-- For `Cell::can_land`, `Cell::leave`, `Cell::land` and others.
use Rattle.std.proofs.Common.{ℕ, ◌≡◌, ◌≤◌, ◌<◌, ◌||◌, Bool, true, false, not, ◌&&◌, Option, Some, None, is_some, List, [], ◌∷◌, ◌++◌, length, if◌then◌else◌, ◌↔◌, IsTrue, All, get_or, refl, sym, subst, ap, ◌∙◌, arith}
use Rattle.std.specs.List.{list_all}
use Rattle.std.proofs.lemmas.Bool.{not-true}
use Rattle.std.proofs.lemmas.List.{length-map}
use Rattle.std.proofs.lemmas.List.Elements.{All-head, All-tail}
use Rattle.lb_queue.specs.declared.answers.OutCause.{OutCause}
use Rattle.lb_queue.specs.declared.answers.OutCause.TheVariants as causes
use Rattle.lb_queue.specs.declared.answers.Taken.{Taken}
use Rattle.lb_queue.specs.declared.record.TaskRecord.{TaskRecord}
use Rattle.lb_detach.specs.declared.Env.{Env}
use Rattle.lb_detach.specs.Picks.{picked_ids}
use Rattle.lb_queue.specs.declared.awake.Awake.{Awake}
use Rattle.lb_queue.specs.declared.answers.Stop.{Stop}
use Rattle.lb_queue.specs.Laws.{FollowsPicks}
use Rattle.lb_queue.specs.Requests.{next_stop, has_owed}
use Rattle.lb_queue.specs.Values.{views}
use Rattle.lb_queue.specs.Queue.{QueueState, away, away_of, clock_at, knows}
use Rattle.lb_queue.specs.Tasks.{ids, task_with, awake_with}
use Rattle.lb_queue.specs.Hands.{HandState, loaded, leave, leaves_asleep, leaves_awake, stop_goes, stop_to, take_stop, pushed, take_push, take_pull, taken_by}
use Rattle.lb_trace.specs.declared.trace.Command.{Command}
use Rattle.lb_trace.specs.declared.trace.Command.TheVariants.{Wake}
use Rattle.lb_trace.specs.declared.trace.Header.{Header}
use Rattle.lb_core.specs.declared.course.Course.{Course}
use Rattle.lb_core.specs.declared.course.Form.{Form}
use Rattle.lb_core.specs.declared.course.Form.TheVariants as forms
use Rattle.lb_core.specs.declared.entry.Owner.TheVariants.{Queue}
use Rattle.lb_core.specs.declared.entry.What.TheVariants.{Out, Landed}
use Rattle.lb_core.specs.declared.rule.Rule.{Rule}
use Rattle.lb_core.specs.declared.rule.Rule.TheVariants as rules
use Rattle.lb_core.specs.Same.{same_numbers}
use Rattle.lb_core.specs.Course.{ticked_cpu, is_wake, is_pull, env_of}
use Rattle.lb_core.specs.CourseAfter.{takes_off}
use Rattle.lb_core.specs.Elsewhere.{is_rest}
use Rattle.lb_core.specs.Leaving.{Leaving, leaving, leaving_by, out_by, wake_out, wake_to, served_out, push_out, pull_out}
use Rattle.lb_core.specs.Stage.{is_queue, push_is_due, queue_due, draws, stage_allows}
use Rattle.lb_core.specs.Rules.{breaks_here, is_other_out}
use Rattle.lb_core.proofs.Headers.{all_index}
use Rattle.lb_core.proofs.Equality.{equal_itself, numbers_itself, cause_itself}
use Rattle.lb_cell.specs.Cells.{CellIs, LaneIs}
use Rattle.lb_cell.specs.Draws.{IsDueAt, MayDraw, sight_at, entry_at}
use Rattle.lb_cell.specs.declared.lists.HandLists.{HandLists}
use Rattle.lb_cell.specs.Hands.{HasLeft, AreFor}
use Rattle.lb_cell.proofs.Asking.{is_here}

-- ---- tasks that leave
out_allowed : (h : Header) (c : CellIs) (l : LaneIs) (why : OutCause) (taken : Option Taken) (hand : HandState)
    (rest : QueueState)
    → HasLeft h c l why taken hand rest
    → (rule : Rule) → breaks_here rule (sight_at h c l) (entry_at c l (Out why hand.to (ids hand.tasks))) ≡ false
out_allowed h c l why taken hand rest left rules.Stage = ap not left.stage
out_allowed h c l why taken hand rest left rules.Pick =
    subst (λ (o : Option Leaving). is_other_out o why hand.to (ids hand.tasks) ≡ false) (sym left.due)
    (rw (cause_itself why) (rw (equal_itself hand.to) (rw (numbers_itself (ids hand.tasks)) refl)))
out_allowed h c l why taken hand rest left rules.Reply = refl
out_allowed h c l why taken hand rest left rules.Ticket = refl
out_allowed h c l why taken hand rest left rules.Prev = refl
out_allowed h c l why taken hand rest left rules.Row = refl
out_allowed h c l why taken hand rest left rules.Place = refl
out_allowed h c l why taken hand rest left rules.Version = refl
out_allowed h c l why taken hand rest left rules.Figure = refl
out_allowed h c l why taken hand rest left rules.Decision = refl
out_allowed h c l why taken hand rest left rules.Flight = refl
out_allowed h c l why taken hand rest left rules.Counters = refl
out_allowed h c l why taken hand rest left rules.Owed = refl
out_allowed h c l why taken hand rest left rules.End = refl

pub may_out : (h : Header) (c : CellIs) (l : LaneIs) (why : OutCause) (taken : Option Taken) (hand : HandState)
    (rest : QueueState)
    → HasLeft h c l why taken hand rest → MayDraw h c l (Out why hand.to (ids hand.tasks))
may_out h c l why taken hand rest left = record {
  of_queue = refl;
  at_work = left.at_work;
  allowed = out_allowed h c l why taken hand rest left;
  answers = tt;
}

-- the course notes them
pub noted : (h : Header) (c : CellIs) (l : LaneIs) (why : OutCause) (taken : Option Taken) (hand : HandState) (rest : QueueState)
    (records : List TaskRecord) (to moment : ℕ) (old new : Course) → HasLeft h c l why taken hand rest → old ≡ l.course
    → records ≡ hand.tasks → to ≡ hand.to → moment ≡ hand.moment
    → ((q : QueueState) → q.clock ≡ moment → new ≡ takes_off (leaving_by why to taken (records, q)) old)
    → new ≡ takes_off (leaving (sight_at h c l)) l.course
noted h c l why taken hand rest records to moment old new left eo er et em f =
    f rest (sym (em ∙ left.clock))
    ∙ (λ i. takes_off (leaving_by why (et i) taken (er i, rest)) (eo i))
    ∙ ap (λ (o : Option Leaving). takes_off o l.course) (sym left.due)

-- ---- a wake that leaves
asleep_clock : (q : QueueState) (at : ℕ) (o : Option TaskRecord) → clock_at q at ≡ (leaves_asleep q at o).1.clock
asleep_clock q at None = refl
asleep_clock q at (Some t) = refl

leave_clock : (q : QueueState) (at id : ℕ) → clock_at q at ≡ (leave q at id).1.clock
unfolding leave
leave_clock q at id = asleep_clock q at (task_with id q.asleep)

one_asleep : (q : QueueState) (at to : ℕ) (o : Option TaskRecord) → away_of q o ≡ Some to → length (leaves_asleep q at o).0 ≡ 1
one_asleep q at to None e = absurd (cc e)
one_asleep q at to (Some t) e = refl

pub one_leaves : (q : QueueState) (at id to : ℕ) → away q id ≡ Some to → length (leave q at id).0 ≡ 1
unfolding leave away
one_leaves q at id to e = one_asleep q at to (task_with id q.asleep) e

wake_stage : (h : Header) (c : CellIs) (l : LaneIs) (task to : ℕ) (list : List ℕ) → l.course.form ≡ forms.Asked
    → l.course.command ≡ Some (Wake task) → stage_allows (sight_at h c l) (entry_at c l (Out causes.Wake to list)) ≡ true
unfolding stage_allows draws
wake_stage h c l task to list form command =
    subst
    (λ (f : Form).
    (is_queue (Queue c.log.writer.cpu) (queue_due f l.course)
    && draws f h l.course c.queue.state l.number (Out causes.Wake to list)) ≡ true)
    (sym form)
    (ap (λ (o : Option Command). is_queue (Queue c.log.writer.cpu) (ticked_cpu o) && is_wake o) command)

wake_due : (h : Header) (c : CellIs) (l : LaneIs) (task to : ℕ) → l.course.form ≡ forms.Asked
    → l.course.command ≡ Some (Wake task) → away c.queue.state task ≡ Some to
    → leaving (sight_at h c l) ≡ leaving_by causes.Wake to None (leave c.queue.state l.course.at task)
unfolding leaving
wake_due h c l task to form command goes =
    ap (λ (f : Form). out_by f h l.course c.queue.state) form
    ∙ ap (λ (o : Option Command). wake_out o l.course.at c.queue.state) command
    ∙ ap (λ (o : Option ℕ). wake_to o l.course.at task c.queue.state) goes

-- tasks have left, as the `out` that is due says
left_as : (h : Header) (c : CellIs) (l : LaneIs) (why : OutCause) (taken : Option Taken) (moved : List TaskRecord × QueueState)
    (hand now : HandState) (rest : QueueState) → is_rest l.course.form ≡ false
    → ((to : ℕ) (list : List ℕ) → stage_allows (sight_at h c l) (entry_at c l (Out why to list)) ≡ true)
    → leaving (sight_at h c l) ≡ leaving_by why hand.to taken moved → clock_at c.queue.state l.course.at ≡ moved.1.clock
    → hand.tasks ≡ [] → rest ≡ moved.1 → now ≡ loaded c.queue.state l.course.at moved.0 hand
    → HasLeft h c l why taken now rest
left_as h c l why taken moved hand now rest work stage due clock empty left is =
    let to : now.to ≡ hand.to = ap (λ (x : HandState). x.to) is in
    let tasks : now.tasks ≡ moved.0 =
    ap (λ (x : HandState). x.tasks) is ∙ ap (λ (x : List TaskRecord). x ++ moved.0) empty in
    record {
      at_work = work;
      stage = stage now.to (ids now.tasks);
      due = due ∙ (λ i. leaving_by why (sym to i) taken (sym tasks i, sym left i));
      clock = ap (λ (x : HandState). x.moment) is ∙ (clock ∙ ap (λ (x : QueueState). x.clock) (sym left));
    }

pub wake_left : (h : Header) (c : CellIs) (l : LaneIs) (task : ℕ) (hand now : HandState) (rest : QueueState)
    → l.course.form ≡ forms.Asked → l.course.command ≡ Some (Wake task) → away c.queue.state task ≡ Some hand.to
    → hand.tasks ≡ [] → rest ≡ (leave c.queue.state l.course.at task).1
    → now ≡ loaded c.queue.state l.course.at (leave c.queue.state l.course.at task).0 hand
    → HasLeft h c l causes.Wake None now rest
wake_left h c l task hand now rest form command goes empty left is =
    left_as h c l causes.Wake None (leave c.queue.state l.course.at task) hand now rest (ap is_rest form)
    (λ to list. wake_stage h c l task to list form command) (wake_due h c l task hand.to form command goes)
    (leave_clock c.queue.state l.course.at task) empty left is

-- ---- a stop or a push
awake_clock : (q : QueueState) (at : ℕ) (o : Option Awake) → clock_at q at ≡ (leaves_awake q at o).1.clock
awake_clock q at None = refl
awake_clock q at (Some a) = refl

stop_clock : (q : QueueState) (at id : ℕ) → clock_at q at ≡ (take_stop q at id).1.clock
unfolding take_stop
stop_clock q at id = awake_clock q at (awake_with id q.awake)

push_clock : (q : QueueState) (at to : ℕ) → clock_at q at ≡ (take_push q at to).1.clock
unfolding take_push
push_clock q at to = awake_clock (record q { active = None }) at (pushed q at to)

one_awake : (q : QueueState) (at to : ℕ) (o : Option Awake) → stop_goes o ≡ Some to → length (leaves_awake q at o).0 ≡ 1
one_awake q at to None e = absurd (cc e)
one_awake q at to (Some a) e = refl

pub one_stops : (q : QueueState) (at id to : ℕ) → stop_to q id ≡ Some to → length (take_stop q at id).0 ≡ 1
unfolding take_stop
one_stops q at id to e = one_awake q at to (awake_with id q.awake) e

some_pushed : (q : QueueState) (at : ℕ) (o : Option Awake) (b : Bool) → b ≡ is_some o
    → length (leaves_awake q at o).0 ≡ (if b then 1 else 0)
some_pushed q at None b e = rw e refl
some_pushed q at (Some a) b e = rw e refl

pub pushes : (q : QueueState) (at to : ℕ) (b : Bool) → b ≡ is_some (pushed q at to)
    → length (take_push q at to).0 ≡ (if b then 1 else 0)
unfolding take_push
pushes q at to b e = some_pushed (record q { active = None }) at (pushed q at to) b e

serving_stage : (h : Header) (c : CellIs) (l : LaneIs) (why : OutCause) (to : ℕ) (list : List ℕ)
    → IsDueAt forms.Serving l.course c.log.writer.cpu → (has_owed c.queue.state || push_is_due l.course c.queue.state) ≡ true
    → stage_allows (sight_at h c l) (entry_at c l (Out why to list)) ≡ true
unfolding stage_allows draws
serving_stage h c l why to list due some =
    subst
    (λ (f : Form).
    (is_queue (Queue c.log.writer.cpu) (queue_due f l.course)
    && draws f h l.course c.queue.state l.number (Out why to list)) ≡ true)
    (sym due.form)
    (rw (is_here (ticked_cpu l.course.command) c.log.writer.cpu due.here) (rw (ap is_some due.here) (rw some refl)))

serving_due : (h : Header) (c : CellIs) (l : LaneIs) → l.course.form ≡ forms.Serving
    → leaving (sight_at h c l) ≡ served_out (next_stop c.queue.state true) l.course.at c.queue.state
unfolding leaving
serving_due h c l form = ap (λ (f : Form). out_by f h l.course c.queue.state) form

pub stop_left : (h : Header) (c : CellIs) (l : LaneIs) (stop : Stop) (hand now : HandState) (rest : QueueState)
    → IsDueAt forms.Serving l.course c.log.writer.cpu → next_stop c.queue.state true ≡ Some stop
    → is_some (next_stop c.queue.state true) ≡ has_owed c.queue.state → stop.to ≡ hand.to
    → hand.tasks ≡ [] → rest ≡ (take_stop c.queue.state l.course.at stop.id).1
    → now ≡ loaded c.queue.state l.course.at (take_stop c.queue.state l.course.at stop.id).0 hand
    → HasLeft h c l causes.Stop None now rest
stop_left h c l stop hand now rest due next owed to empty left is =
    let some : has_owed c.queue.state ≡ true = sym owed ∙ ap is_some next in
    left_as h c l causes.Stop None (take_stop c.queue.state l.course.at stop.id) hand now rest (ap is_rest due.form)
    (λ at list. serving_stage h c l causes.Stop at list due (rw some refl))
    (serving_due h c l due.form
    ∙ ap (λ (o : Option Stop). served_out o l.course.at c.queue.state) next
    ∙ ap (λ (n : ℕ). leaving_by causes.Stop n None (take_stop c.queue.state l.course.at stop.id)) to)
    (stop_clock c.queue.state l.course.at stop.id) empty left is

or_true : (a b : Bool) → b ≡ true → (a || b) ≡ true
or_true true b e = refl
or_true false b e = e

pub push_left : (h : Header) (c : CellIs) (l : LaneIs) (hand now : HandState) (rest : QueueState)
    → IsDueAt forms.Serving l.course c.log.writer.cpu → next_stop c.queue.state true ≡ None
    → push_is_due l.course c.queue.state ≡ true → c.queue.state.active ≡ Some hand.to
    → hand.tasks ≡ [] → rest ≡ (take_push c.queue.state l.course.at hand.to).1
    → now ≡ loaded c.queue.state l.course.at (take_push c.queue.state l.course.at hand.to).0 hand
    → HasLeft h c l causes.Push None now rest
push_left h c l hand now rest due next push active empty left is =
    left_as h c l causes.Push None (take_push c.queue.state l.course.at hand.to) hand now rest (ap is_rest due.form)
    (λ at list.
    serving_stage h c l causes.Push at list due
    (or_true (has_owed c.queue.state) (push_is_due l.course c.queue.state) push))
    (serving_due h c l due.form
    ∙ ap (λ (o : Option Stop). served_out o l.course.at c.queue.state) next
    ∙ ap (λ (o : Option ℕ). push_out o l.course.at c.queue.state) active)
    (push_clock c.queue.state l.course.at hand.to) empty left is

-- ---- a pull
pull_clock : (q : QueueState) (at : ℕ) (env : Env) → clock_at q at ≡ (take_pull q at env).1.clock
unfolding take_pull
pull_clock q at env = refl

pull_stage : (h : Header) (c : CellIs) (l : LaneIs) (to : ℕ) (list : List ℕ) → IsDueAt forms.Looked l.course c.log.writer.cpu
    → is_pull l.course.decision ≡ true → stage_allows (sight_at h c l) (entry_at c l (Out causes.Pull to list)) ≡ true
unfolding stage_allows draws
pull_stage h c l to list due pull =
    subst
    (λ (f : Form).
    (is_queue (Queue c.log.writer.cpu) (queue_due f l.course)
    && draws f h l.course c.queue.state l.number (Out causes.Pull to list)) ≡ true)
    (sym due.form)
    (rw (is_here (queue_due forms.Looked l.course) c.log.writer.cpu due.here) pull)

pull_due : (h : Header) (c : CellIs) (l : LaneIs) (env : Env) → l.course.form ≡ forms.Looked → env_of h l.course ≡ Some env
    → leaving (sight_at h c l)
    ≡ leaving_by causes.Pull env.to (Some (taken_by c.queue.state l.course.at env)) (take_pull c.queue.state l.course.at env)
unfolding leaving
pull_due h c l env form asks =
    ap (λ (f : Form). out_by f h l.course c.queue.state) form
    ∙ ap (λ (o : Option Env). pull_out o l.course.at c.queue.state) asks

pub pull_left : (h : Header) (c : CellIs) (l : LaneIs) (env : Env) (taken : Taken) (hand now : HandState) (rest : QueueState)
    → IsDueAt forms.Looked l.course c.log.writer.cpu → is_pull l.course.decision ≡ true → env_of h l.course ≡ Some env
    → taken ≡ taken_by c.queue.state l.course.at env → hand.to ≡ env.to
    → hand.tasks ≡ [] → rest ≡ (take_pull c.queue.state l.course.at env).1
    → now ≡ loaded c.queue.state l.course.at (take_pull c.queue.state l.course.at env).0 hand
    → HasLeft h c l causes.Pull (Some taken) now rest
pull_left h c l env taken hand now rest due pull asks said to empty left is =
    left_as h c l causes.Pull (Some taken) (take_pull c.queue.state l.course.at env) hand now rest (ap is_rest due.form)
    (λ at list. pull_stage h c l at list due pull)
    (pull_due h c l env due.form asks
    ∙ (λ i. leaving_by causes.Pull (sym to i) (Some (sym said i)) (take_pull c.queue.state l.course.at env)))
    (pull_clock c.queue.state l.course.at env) empty left is

pub many_pulled : (q : QueueState) (at : ℕ) (env : Env) (picked : List ℕ) → FollowsPicks q at env
    → picked ≡ picked_ids env (views q at) → length (take_pull q at env).0 ≡ length picked
many_pulled q at env picked f is =
    sym (length-map (take_pull q at env).0 (λ (t : TaskRecord). t.id)) ∙ ap length (f.taken ∙ sym is)

-- ---- a landing
all_unknown : (q : QueueState) (ts : List TaskRecord) → All (λ (t : TaskRecord). knows q t.id ≡ false) ts
    → list_all (λ (t : TaskRecord). not (knows q t.id)) ts ≡ true
all_unknown q [] h = refl
all_unknown q (t ∷ ts) h =
    rw (All-head (λ (x : TaskRecord). knows q x.id ≡ false) t ts h)
    (all_unknown q ts (All-tail (λ (x : TaskRecord). knows q x.id ≡ false) t ts h))

-- that a queue knows none of these tasks is told by a test of each
pub none_known : (q : QueueState) (ts : List TaskRecord)
    → IsTrue (list_all (λ (t : TaskRecord). not (knows q t.id)) ts) ↔ All (λ (t : TaskRecord). knows q t.id ≡ false) ts
none_known q ts = (
  λ h k d lt. not-true (knows q (get_or ts k d).id) (all_index (λ (t : TaskRecord). not (knows q t.id)) ts h k d lt),
  all_unknown q ts,
)

land_stage : (h : Header) (c : CellIs) (l : LaneIs) (list : List ℕ) → IsDueAt forms.Flight l.course c.log.writer.cpu
    → not (stage_allows (sight_at h c l) (entry_at c l (Landed list))) ≡ false
unfolding stage_allows draws
land_stage h c l list due =
    subst
    (λ (f : Form).
    not (is_queue (Queue c.log.writer.cpu) (queue_due f l.course)
    && draws f h l.course c.queue.state l.number (Landed list)) ≡ false)
    (sym due.form) (rw (is_here (queue_due forms.Flight l.course) c.log.writer.cpu due.here) refl)

land_allowed : (h : Header) (c : CellIs) (l : LaneIs) (list : List ℕ) → IsDueAt forms.Flight l.course c.log.writer.cpu
    → list ≡ ids l.course.hand → (rule : Rule) → breaks_here rule (sight_at h c l) (entry_at c l (Landed list)) ≡ false
land_allowed h c l list due is rules.Stage = land_stage h c l list due
land_allowed h c l list due is rules.Flight =
    let hand : List ℕ = ids l.course.hand in
    subst (λ (ns : List ℕ). not (same_numbers ns hand) ≡ false) (sym is) (rw (numbers_itself hand) refl)
land_allowed h c l list due is rules.Reply = refl
land_allowed h c l list due is rules.Ticket = refl
land_allowed h c l list due is rules.Prev = refl
land_allowed h c l list due is rules.Row = refl
land_allowed h c l list due is rules.Place = refl
land_allowed h c l list due is rules.Version = refl
land_allowed h c l list due is rules.Figure = refl
land_allowed h c l list due is rules.Decision = refl
land_allowed h c l list due is rules.Pick = refl
land_allowed h c l list due is rules.Counters = refl
land_allowed h c l list due is rules.Owed = refl
land_allowed h c l list due is rules.End = refl

pub may_land : (h : Header) (c : CellIs) (l : LaneIs) (list : List ℕ) → IsDueAt forms.Flight l.course c.log.writer.cpu
    → list ≡ ids l.course.hand → MayDraw h c l (Landed list)
may_land h c l list due is = record {
  of_queue = refl;
  at_work = ap is_rest due.form;
  allowed = land_allowed h c l list due is;
  answers = tt;
}

-- ---- how many have left
pub came : (q : QueueState) (at n : ℕ) (moved : List TaskRecord) (hand now : HandState) → now ≡ loaded q at moved hand
    → hand.tasks ≡ [] → length moved ≡ n → length now.tasks ≡ n
came q at n moved hand now is empty many =
    ap (λ (x : HandState). length x.tasks) is ∙ (ap (λ (x : List TaskRecord). length (x ++ moved)) empty ∙ many)

pub are_for : (n m : ℕ) (lists : HandLists) → m ≡ n → AreFor n lists → AreFor m lists
are_for n m lists e f = subst (λ (k : ℕ). AreFor k lists) (sym e) f

pub few_pushed : (b : Bool) (n : ℕ) → n ≡ (if b then 1 else 0) → n < 4294967296
few_pushed true n e = omega (arith, e)
few_pushed false n e = omega (arith, e)

pub few_pulled : (n m : ℕ) → n ≡ m → m ≤ 32 → n < 4294967296
few_pulled n m e le = omega (arith, e, le)
