-- The task of a stop request leaves its queue in a hand.
-- For `draw_out`.
use Rattle.std.proofs.Common.{ℕ, ◌≡◌, Bool, true, false, eqb, if◌then◌else◌, Option, Some, None, List, [], ◌∷◌, ◌++◌, length, map, refl, sym, ap, ◌∙◌, arith, inl, inr}
use Rattle.std.proofs.lemmas.Bool.{cases_Bool, eqb-true}
use Rattle.lb_queue.specs.declared.answers.OutCause.TheVariants as causes
use Rattle.lb_queue.specs.declared.answers.Stop.{Stop}
use Rattle.lb_queue.specs.declared.awake.Awake.{Awake}
use Rattle.lb_queue.specs.declared.record.TaskRecord.{TaskRecord}
use Rattle.lb_queue.specs.Queue.{QueueState, clock_at}
use Rattle.lb_queue.specs.Hands.{HandState, leaves_awake, loaded, stop_goes, stop_to, take_stop}
use Rattle.lb_queue.specs.Tasks.{awake_with, ids, set_down}
use Rattle.lb_core.specs.declared.course.Course.{Course}
use Rattle.lb_core.specs.Leaving.{leaving_by}
use Rattle.lb_core.specs.CourseAfter.{takes_off}

either_id : (b : Bool) (x y : TaskRecord) (n : ℕ) → x.id ≡ n → y.id ≡ n → (if b then x else y).id ≡ n
either_id true x y n e f = e
either_id false x y n e f = f

awake_named : (id : ℕ) (xs : List Awake) (a : Awake) → awake_with id xs ≡ Some a → a.task.id ≡ id
awake_named id [] a e = absurd (cc e)
awake_named id (x ∷ xs) a e = elim (cases_Bool (eqb x.task.id id)) [
  | inl same ↦
      let got : Some x ≡ Some a = sym (rw same refl) ∙ e in
      let is : x ≡ a = cc (got) in
      ap (λ (y : Awake). y.task.id) (sym is) ∙ eqb-true x.task.id id same
  | inr fails ↦ awake_named id xs a (sym (rw fails refl) ∙ e)
]

-- one task, with the id of the request
pub record OneTask (id : ℕ) (tasks : List TaskRecord) : Type 0 where
  pub task : TaskRecord
  pub is : tasks ≡ task ∷ []
  pub named : task.id ≡ id

pub one_task : (q : QueueState) (at id to : ℕ) → stop_to q id ≡ Some to → OneTask id (take_stop q at id).0
unfolding take_stop
one_task q at id to e = go (awake_with id q.awake) refl e
  where
    go : (o : Option Awake) → awake_with id q.awake ≡ o → stop_goes o ≡ Some to → OneTask id (leaves_awake q at o).0
    go None is goes = absurd (cc goes)
    go (Some a) is goes = record {
      task = set_down (clock_at q at) a;
      is = refl;
      named = either_id a.running _ _ id (awake_named id q.awake a is) (awake_named id q.awake a is);
    }

awake_clock : (q : QueueState) (at : ℕ) (o : Option Awake) → clock_at q at ≡ (leaves_awake q at o).1.clock
awake_clock q at None = refl
awake_clock q at (Some a) = refl

pub stop_clock : (q : QueueState) (at id : ℕ) → clock_at q at ≡ (take_stop q at id).1.clock
unfolding take_stop
stop_clock q at id = awake_clock q at (awake_with id q.awake)

-- what the hand holds then
pub hand_tasks : (q : QueueState) (at : ℕ) (moved : List TaskRecord) (hand now : HandState) → now ≡ loaded q at moved hand
    → hand.tasks ≡ [] → now.tasks ≡ moved
hand_tasks q at moved hand now is empty =
    ap (λ (x : HandState). x.tasks) is ∙ ap (λ (x : List TaskRecord). x ++ moved) empty

pub one_id : (id : ℕ) (tasks : List TaskRecord) → OneTask id tasks → ids tasks ≡ id ∷ []
one_id id tasks o = ap ids o.is ∙ ap (λ (n : ℕ). n ∷ []) o.named

pub one_long : (id : ℕ) (tasks : List TaskRecord) → OneTask id tasks → length tasks ≡ 1
one_long id tasks o = ap length o.is

-- the course notes it
pub goes_off : (q : QueueState) (stop : Stop) (hand now : HandState) (records : List TaskRecord) (to moment : ℕ) (c new : Course)
    → now ≡ loaded q c.at (take_stop q c.at stop.id).0 hand → hand.tasks ≡ [] → stop.to ≡ hand.to → records ≡ now.tasks
    → to ≡ now.to → moment ≡ now.moment
    → ((r : QueueState) → r.clock ≡ moment → new ≡ takes_off (leaving_by causes.Stop to None (records, r)) c)
    → new ≡ takes_off (leaving_by causes.Stop stop.to None (take_stop q c.at stop.id)) c
goes_off q stop hand now records to moment c new is empty goes er et em f =
    let moved = take_stop q c.at stop.id in
    let tasks : records ≡ moved.0 = er ∙ hand_tasks q c.at moved.0 hand now is empty in
    let there : to ≡ stop.to = et ∙ (ap (λ (x : HandState). x.to) is ∙ sym goes) in
    let clock : moved.1.clock ≡ moment =
    sym (stop_clock q c.at stop.id) ∙ sym (em ∙ ap (λ (x : HandState). x.moment) is) in
    f moved.1 clock ∙ (λ i. takes_off (leaving_by causes.Stop (there i) None (tasks i, moved.1)) c)
