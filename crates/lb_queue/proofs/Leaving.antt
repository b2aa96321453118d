-- Tasks that leave a queue by a wake or a stop may run where they go; and tasks that land.
-- For `Queue::take_stop` and `Queue::leave`.
use Rattle.std.proofs.Common.{◌≡◌, ℕ, zero, suc, ◌+◌, Bool, true, false, cond, max, [], ◌∷◌, ◌++◌, find, Option, Some, None, refl, sym, ◌∙◌, subst}
use Rattle.std.specs.List.{range_with_len}
use Rattle.lb_base.specs.declared.mask.Mask.{Mask}
use Rattle.lb_base.specs.Mask.{has}
use Rattle.lb_base.specs.Sets.{least}
use Rattle.lb_pelt.specs.declared.signal.Run.TheVariants.{Asleep}
use Rattle.lb_queue.specs.declared.record.TaskRecord.{TaskRecord}
use Rattle.lb_queue.specs.declared.awake.Awake.{Awake}
use Rattle.lb_queue.specs.Tasks.{task_with, awake_with, without_task, advanced_task, set_down, is_pending}
use Rattle.lb_queue.specs.Queue.{QueueState, away}
use Rattle.lb_queue.specs.Lists.{Lists, down_of, left_of}
use Rattle.lb_queue.specs.Hands.{HandState, loaded, leave, take_stop, stop_to, stop_goes, leaves_awake}
use Rattle.lb_queue.proofs.Replies.{of_lists, away_none, away_here, away_there}
use Rattle.lb_queue.proofs.Sound.{task_named}

-- the least CPU is one of the mask
first_one : (m : Mask) (k c : ℕ) (o : Option ℕ) (b : Bool) → has m k ≡ b → (o ≡ Some c → has m c ≡ true)
    → cond b (Some k) o ≡ Some c → has m c ≡ true
first_one m k c o true h l e = let z : k ≡ c = cc in subst (λ y. has m y ≡ true) z h
first_one m k c o false h l e = l e

least_step : (m : Mask) (n k c : ℕ) → find (has m) (range_with_len k n) ≡ Some c → has m c ≡ true
least_step m zero k c e = absurd (let z : ⊥ = cc in z)
least_step m (suc n) k c e = first_one m k c (find (has m) (range_with_len (k + 1) n)) (has m k) refl (least_step m n (k + 1) c) e

pub least_has : (m : Mask) (c : ℕ) → least m ≡ Some c → has m c ≡ true
unfolding least
least_has m c e = least_step m 64 0 c e

there_by : (q : QueueState) (id to : ℕ) (t : TaskRecord) (b : Bool) → has t.mask q.cpu ≡ b
    → Some t ≡ task_with id q.asleep → away q id ≡ Some to → has t.mask to ≡ true
there_by q id to t true e f a = let z : ◌≡◌ {A = Option ℕ} None (Some to) = away_here q id t f e ∙ a in absurd
    (let y : ⊥ = cc in y)
there_by q id to t false e f a = least_has t.mask to (away_there q id t f e ∙ a)

pub leaves_there : (q : QueueState) (id : ℕ) (t : TaskRecord) (to : ℕ) → Some t ≡ task_with id q.asleep
    → away q id ≡ Some to → has t.mask to ≡ true
leaves_there q id t to f a = there_by q id to t (has t.mask q.cpu) refl f a

pub leave_done : (q : QueueState) (at id clock : ℕ) (t : TaskRecord) (l1 l0 : Lists) → clock ≡ max q.clock at
    → Some t ≡ task_with id l0.asleep → l1 ≡ record l0 { asleep = without_task id l0.asleep } →
    record (of_lists q l1) { clock = clock } ≡ (leave (of_lists q l0) at id).1
unfolding leave
leave_done q at id clock t l1 l0 c f e = let n = task_named id l0.asleep t (sym f) in rw (← f, e, c, n) refl

pub leave_hand : (q : QueueState) (at id clock : ℕ) (t t' : TaskRecord) (h : HandState) → clock ≡ max q.clock at
    → Some t ≡ task_with id q.asleep → t' ≡ advanced_task Asleep clock t →
    record h { source = Some q.cpu; moment = clock; tasks = h.tasks ++ t' ∷ [] } ≡ loaded q at (leave q at id).0 h
unfolding leave
leave_hand q at id clock t t' h c f a = rw (← f, a, c) refl

pub stays_not : (q : QueueState) (id to : ℕ) → away q id ≡ Some to → None ≡ task_with id q.asleep → ⊥
stays_not q id to a n = let z : ◌≡◌ {A = Option ℕ} None (Some to) = away_none q id n ∙ a in let y : ⊥ = cc in y

-- ---- a stop request
unasked : (clock : ℕ) (o : Option Awake) (to : ℕ) → stop_goes o ≡ Some to → None ≡ down_of clock o → ⊥
unasked clock None to s n = let y : ⊥ = cc in y
unasked clock (Some a) to s n = let y : ⊥ = cc in y

pub asked_not : (q : QueueState) (id clock to : ℕ) → stop_to q id ≡ Some to → None ≡ down_of clock (awake_with id q.awake) → ⊥
asked_not q id clock to s n = unasked clock (awake_with id q.awake) to s n

pub down_mask : (clock : ℕ) (a : Awake) (b : Bool) → a.running ≡ b → (set_down clock a).mask ≡ a.task.mask
down_mask clock a true h = rw h refl
down_mask clock a false h = rw h refl

goes_by : (s : Bool) (m : Mask) (to : ℕ) → cond s (least m) None ≡ Some to → has m to ≡ true
goes_by true m to h = least_has m to h
goes_by false m to h = absurd (let y : ⊥ = cc in y)

stops_by : (clock : ℕ) (o : Option Awake) (t : TaskRecord) (to : ℕ) → Some t ≡ down_of clock o → stop_goes o ≡ Some to
    → has t.mask to ≡ true
stops_by clock None t to f s = absurd (let y : ⊥ = cc in y)
stops_by clock (Some a) t to f s = let e : t ≡ set_down clock a = cc in
    rw (e, down_mask clock a a.running refl) (goes_by (is_pending a.stop) a.task.mask to s)

pub stops_there : (q : QueueState) (id clock : ℕ) (t : TaskRecord) (to : ℕ)
    → Some t ≡ down_of clock (awake_with id q.awake) → stop_to q id ≡ Some to → has t.mask to ≡ true
stops_there q id clock t to f s = stops_by clock (awake_with id q.awake) t to f s

awake_leaves : (q : QueueState) (at clock : ℕ) (o : Option Awake) (t : TaskRecord) (l1 l0 : Lists)
    → clock ≡ max q.clock at → Some t ≡ down_of clock o → l1 ≡ record l0 { awake = left_of clock o l0.awake } →
    record (of_lists q l1) { clock = clock } ≡ (leaves_awake (of_lists q l0) at o).1
awake_leaves q at clock None t l1 l0 c f e = absurd (let y : ⊥ = cc in y)
awake_leaves q at clock (Some a) t l1 l0 c f e = rw (e, c) refl

awake_hand : (q : QueueState) (at clock : ℕ) (o : Option Awake) (t : TaskRecord) (h : HandState)
    → clock ≡ max q.clock at → Some t ≡ down_of clock o →
    record h { source = Some q.cpu; moment = clock; tasks = h.tasks ++ t ∷ [] } ≡ loaded q at (leaves_awake q at o).0 h
awake_hand q at clock None t h c f = absurd (let y : ⊥ = cc in y)
awake_hand q at clock (Some a) t h c f = let e : t ≡ set_down clock a = cc in rw (e, c) refl

pub stop_done : (q : QueueState) (at id clock : ℕ) (t : TaskRecord) (l1 l0 : Lists) → clock ≡ max q.clock at
    → Some t ≡ down_of clock (awake_with id l0.awake)
    → l1 ≡ record l0 { awake = left_of clock (awake_with id l0.awake) l0.awake } →
    record (of_lists q l1) { clock = clock } ≡ (take_stop (of_lists q l0) at id).1
unfolding take_stop
stop_done q at id clock t l1 l0 c f e = awake_leaves q at clock (awake_with id l0.awake) t l1 l0 c f e

pub stop_hand : (q : QueueState) (at id clock : ℕ) (t : TaskRecord) (h : HandState) → clock ≡ max q.clock at
    → Some t ≡ down_of clock (awake_with id q.awake) →
    record h { source = Some q.cpu; moment = clock; tasks = h.tasks ++ t ∷ [] } ≡ loaded q at (take_stop q at id).0 h
unfolding take_stop
stop_hand q at id clock t h c f = awake_hand q at clock (awake_with id q.awake) t h c f
