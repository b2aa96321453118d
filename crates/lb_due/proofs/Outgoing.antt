-- The ids of the tasks that leave by a wake and by a stop request.
-- For `out_of_queue`, `wake_due` and `stop_due`.
use Rattle.std.proofs.Common.{◌≡◌, ℕ, ◌==◌, Bool, true, false, cond, Option, Some, None, List, [], ◌∷◌, refl, ◌∙◌, ap}
use Rattle.std.proofs.lemmas.Bool.{eqb-true}
use Rattle.lb_queue.specs.declared.awake.Awake.{Awake}
use Rattle.lb_queue.specs.declared.record.TaskRecord.{TaskRecord}
use Rattle.lb_queue.specs.Tasks.{ids, task_with, awake_with, set_down, advanced_task}
use Rattle.lb_queue.specs.Queue.{QueueState, away, away_of, clock_at}
use Rattle.lb_queue.specs.Hands.{leave, leaves_asleep, leaves_awake, take_stop, stop_goes, stop_to}
use Rattle.lb_queue.specs.declared.answers.Stop.{Stop}
use Rattle.lb_queue.specs.declared.answers.OutCause.TheVariants.{Wake as WakeOut, Stop as StopOut}
use Rattle.lb_pelt.specs.declared.Run.TheVariants.{Running, Waiting}
use Rattle.lb_trace.specs.declared.trace.Command.{Command}
use Rattle.lb_trace.specs.declared.trace.Command.TheVariants.{Wake}
use Rattle.lb_queue.specs.Requests.{next_stop}
use Rattle.lb_trace.specs.declared.trace.Header.{Header}
use Rattle.lb_core.specs.declared.course.Course.{Course}
use Rattle.lb_core.specs.declared.course.Form.{Form}
use Rattle.lb_core.specs.declared.course.Form.TheVariants.{Serving}
use Rattle.lb_core.specs.Leaving.{out_by, wake_out, stop_out}
use Rattle.lb_due.specs.Outs.{out_due}
use Rattle.lb_queue.proofs.Counts.{found}

down_by : (b : Bool) (x y : TaskRecord) (n : ℕ) → x.id ≡ n → y.id ≡ n → (cond b x y).id ≡ n
down_by true x y n h k = h
down_by false x y n h k = k

pub down_id : (clock : ℕ) (a : Awake) → (set_down clock a).id ≡ a.task.id
down_id clock a = down_by a.running (record (advanced_task Running clock a.task) { put_down = Some clock })
    (advanced_task Waiting clock a.task) a.task.id refl refl

awake_ids_of : (q : QueueState) (at id : ℕ) (o : Option Awake) (to : ℕ) → stop_goes o ≡ Some to
    → ((a : Awake) → o ≡ Some a → a.task.id ≡ id) → ids (leaves_awake q at o).0 ≡ id ∷ []
awake_ids_of q at id None to g h = absurd (let y : ⊥ = cc in y)
awake_ids_of q at id (Some a) to g h = ap (λ (n : ℕ). n ∷ []) (down_id (clock_at q at) a ∙ h a refl)

-- the task of a stop
pub stop_ids : (q : QueueState) (at id to : ℕ) → stop_to q id ≡ Some to → ids (take_stop q at id).0 ≡ id ∷ []
unfolding take_stop
stop_ids q at id to g = awake_ids_of q at id (awake_with id q.awake) to g
    (λ a e. eqb-true a.task.id id (found (λ (x : Awake). x.task.id == id) (λ (x : Awake). x.task.id) q.awake a e).passes)

asleep_ids_of : (q : QueueState) (at id : ℕ) (o : Option TaskRecord) (to : ℕ) → away_of q o ≡ Some to
    → ((t : TaskRecord) → o ≡ Some t → t.id ≡ id) → ids (leaves_asleep q at o).0 ≡ id ∷ []
asleep_ids_of q at id None to g h = absurd (let y : ⊥ = cc in y)
asleep_ids_of q at id (Some t) to g h = ap (λ (n : ℕ). n ∷ []) (h t refl)

-- the task of a wake that leaves
pub wake_ids : (q : QueueState) (at id to : ℕ) → away q id ≡ Some to → ids (leave q at id).0 ≡ id ∷ []
unfolding away leave
wake_ids q at id to g = asleep_ids_of q at id (task_with id q.asleep) to g
    (λ t e. eqb-true t.id id (found (λ (x : TaskRecord). x.id == id) (λ (x : TaskRecord). x.id) q.asleep t e).passes)

-- the wake that is due
pub wake_is : (command : Option Command) (q : QueueState) (at id to : ℕ) (list : List ℕ) → command ≡ Some (Wake id)
    → away q id ≡ Some to → list ≡ id ∷ [] → Some (record { cause = WakeOut; to = to; ids = list }) ≡ out_due
    (wake_out command at q)
wake_is command q at id to list c a l = let e = wake_ids q at id to a in rw (c, a, e, l) refl

-- the stop that is due
pub stop_is : (o : Option Stop) (q : QueueState) (at : ℕ) (s : Stop) (list : List ℕ) → o ≡ Some s
    → stop_to q s.id ≡ Some s.to → list ≡ s.id ∷ [] → Some (record { cause = StopOut; to = s.to; ids = list }) ≡ out_due
    (stop_out o at q)
stop_is o q at s list e g l = let i = stop_ids q at s.id s.to g in rw (e, i, l) refl

-- at a tick an owed stop comes first
pub served_stop : (f : Form) (h : Header) (c : Course) (q : QueueState) (s : Stop) → f ≡ Serving
    → Some s ≡ next_stop q true → out_by f h c q ≡ stop_out (next_stop q true) c.at q
served_stop f h c q s i e = rw (i, ← e) refl
