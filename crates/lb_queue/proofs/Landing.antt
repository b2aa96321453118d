-- The tasks of a hand land one after the other: each joins the front of the awake tasks.
-- For `TaskLists::land` and `Queue::land`.
use Rattle.std.proofs.Common.{◌≡◌, ℕ, suc, ◌+◌, ◌-◌, ◌<◌, ◌≤◌, true, false, cond, ◌==◌, eqb, List, [], ◌∷◌, length, get_or, remove, None, max, inl, inr, refl, sym, ◌∙◌, ap, arith, subst}
use Rattle.std.specs.Prelude.{All}
use Rattle.std.specs.List.{list_all}
use Rattle.std.proofs.lemmas.Bool.{cases_Bool, cond-true, cond-false, eqb-true, eq-eqb, and_parts}
use Rattle.lb_base.specs.Mask.{has}
use Rattle.lb_queue.specs.declared.record.TaskRecord.{TaskRecord}
use Rattle.lb_queue.specs.Tasks.{occurs, ids, joined}
use Rattle.lb_queue.specs.Kept.{stands}
use Rattle.lb_queue.specs.Lists.{Lists, IsUnknown}
use Rattle.lb_queue.specs.declared.answers.OutCause.{OutCause}
use Rattle.lb_queue.specs.Queue.{QueueState, knows, nobody, average_with}
use Rattle.lb_queue.specs.Hands.{all_joined, is_wake, land}
use Rattle.lb_queue.proofs.Replies.{of_lists, unknown_where}
use Rattle.lb_queue.proofs.Ids.{joined_ids}

-- some of the tasks have landed, and the rest is still to come
pub record IsLanding (clock : ℕ) (before : Lists) (all : List TaskRecord) (now : Lists) (rest : List TaskRecord) : Type 0 where
  pub joins : all_joined clock rest now.awake ≡ all_joined clock all before.awake
  pub lists : now ≡ record before { awake = now.awake; booked = now.booked }
  pub bookings : now.booked + length all ≡ before.booked + length rest
  pub enough : length rest ≤ now.booked
  pub differ : (u : ℕ) → occurs u (ids rest) ≤ 1
  pub unknown : (u : ℕ) → 1 ≤ occurs u (ids rest) → stands now.awake now.asleep now.gone u ≡ 0
  pub permitted : list_all (λ t. has t.mask now.cpu) rest ≡ true

pub landing_first : (clock : ℕ) (l : Lists) (ts : List TaskRecord) → length ts ≤ l.booked
    → ((u : ℕ) → occurs u (ids ts) ≤ 1) → ((u : ℕ) → 1 ≤ occurs u (ids ts) → stands l.awake l.asleep l.gone u ≡ 0)
    → list_all (λ t. has t.mask l.cpu) ts ≡ true → IsLanding clock l ts l ts
landing_first clock l ts b o n p = record {
  joins = refl;
  lists = refl;
  bookings = refl;
  enough = b;
  differ = o;
  unknown = n;
  permitted = p;
}

-- what is known of the next one
pub record IsNext (l : Lists) (t : TaskRecord) : Type 0 where
  pub unknown : IsUnknown l t.id
  pub booked : 1 ≤ l.booked
  pub permitted : has t.mask l.cpu ≡ true

pub landing_next : (clock : ℕ) (before : Lists) (all : List TaskRecord) (now : Lists) (rest : List TaskRecord)
    (t : TaskRecord) → IsLanding clock before all now rest → 0 < length rest → t ≡ get_or rest 0 t → IsNext now t
landing_next clock before all now [] t h lt e = absurd (omega arith)
landing_next clock before all now (x ∷ xs) t h lt e = record {
  unknown =
      let s : cond {A = ℕ} (x.id == x.id) 1 0 ≡ 1 = cond-true {A = ℕ} (eqb x.id x.id) 1 0 (eq-eqb x.id x.id refl) in
      let z : stands now.awake now.asleep now.gone x.id ≡ 0 = h.unknown x.id (omega arith) in
      subst (λ (y : TaskRecord). stands now.awake now.asleep now.gone y.id ≡ 0) (sym e) z;
  booked = let k = h.enough in omega arith;
  permitted = subst (λ (y : TaskRecord). has y.mask now.cpu ≡ true) (sym e) ((and_parts (has x.mask now.cpu) _ h.permitted).0);
}

pub landing_step : (clock : ℕ) (before : Lists) (all : List TaskRecord) (now new : Lists)
    (rest left : List TaskRecord) (t : TaskRecord) → IsLanding clock before all now rest → 0 < length rest
    → t ≡ get_or rest 0 t → left ≡ remove rest 0 →
    new ≡ record now { awake = joined clock t now.awake; booked = now.booked - 1 } → IsLanding clock before all new left
landing_step clock before all now new [] left t h lt e r n = absurd (omega arith)
landing_step clock before all now new (x ∷ xs) left t h lt e r n =
    let m : new ≡ record now { awake = joined clock x now.awake; booked = now.booked - 1 } =
    n ∙ ap (λ (y : TaskRecord). let l : Lists = record now { awake = joined clock y now.awake; booked = now.booked - 1 }
    in l) e in
    let made : IsLanding clock before all (record now { awake = joined clock x now.awake; booked = now.booked - 1 }) xs = record {
      joins = h.joins;
      lists = ap (λ (l : Lists). let k : Lists = record l { awake = joined clock x now.awake; booked = now.booked - 1 }
          in k) h.lists;
      bookings = let k = h.bookings in let g = h.enough in omega arith;
      enough = let g = h.enough in omega arith;
      differ = λ u. let d = h.differ u in omega arith;
      unknown = λ u some. let d = h.differ u in let n = h.unknown u (omega arith) in let j = joined_ids clock x
          now.awake u in omega arith;
      permitted = (and_parts (has x.mask now.cpu) _ h.permitted).1;
    } in
    subst (λ (l : Lists). IsLanding clock before all l left) (sym m)
    (subst (λ (ts : List TaskRecord). IsLanding clock before all
    (record now { awake = joined clock x now.awake; booked = now.booked - 1 }) ts) (sym r) made)

pub landing_done : (clock : ℕ) (before : Lists) (all : List TaskRecord) (now : Lists) (rest : List TaskRecord)
    → IsLanding clock before all now rest → length rest ≡ 0
    → now ≡ record before { awake = all_joined clock all before.awake; booked = before.booked - length all }
landing_done clock before all now [] h z =
    let b : now.booked ≡ before.booked - length all = let k = h.bookings in omega arith in
    h.lists ∙ rw (b, h.joins) refl
landing_done clock before all now (x ∷ xs) h z = absurd (omega arith)

-- ---- a hand lands
pub unknown_each : (q : QueueState) (ts : List TaskRecord) → All (λ t. knows q t.id ≡ false) ts → (u : ℕ)
    → 1 ≤ occurs u (ids ts) → stands q.awake q.asleep q.gone u ≡ 0
unknown_each q [] h u k = absurd (omega arith)
unknown_each q (t ∷ ts) h u k = elim (cases_Bool (eqb t.id u)) [
  | inl same ↦ subst (λ (n : ℕ). stands q.awake q.asleep q.gone n ≡ 0) (eqb-true t.id u same)
      (unknown_where q t.id (h 0 t (omega arith)))
  | inr other ↦ unknown_each q ts (λ n d lt. h (suc n) d (omega arith)) u
      (let z : cond {A = ℕ} (eqb t.id u) 1 0 ≡ 0 = cond-false {A = ℕ} (eqb t.id u) 1 0 other in omega arith)
]

pub land_none : (q : QueueState) (at clock moment : ℕ) (cause : OutCause) (ts : List TaskRecord) → length ts ≡ 0
    → clock ≡ max q.clock (max at moment) → record q { clock = clock } ≡ land q at cause moment ts
unfolding land
land_none q at clock moment cause [] z c = rw c refl
land_none q at clock moment cause (t ∷ ts) z c = absurd (omega arith)

land_at : (q : QueueState) (at moment avg : ℕ) (cause : OutCause) (ts : List TaskRecord) (l1 l0 : Lists) → 0 < length ts →
    avg ≡ cond (is_wake cause) (cond (nobody l0.awake)
    (average_with q.idle_since (max q.clock (max at moment)) q.avg_idle) q.avg_idle) q.avg_idle →
    l1 ≡ record l0 { awake = all_joined (max q.clock (max at moment)) ts l0.awake; booked = l0.booked - length ts } →
    record (of_lists q l1) {
      clock = max q.clock (max at moment);
      avg_idle = avg;
      idle_since = None;
      tickless = false;
    } ≡ land (of_lists q l0) at cause moment ts
unfolding land
land_at q at moment avg cause [] l1 l0 lt v e = absurd (omega arith)
land_at q at moment avg cause (t ∷ ts) l1 l0 lt v e = rw (v, e) refl

pub land_done : (q : QueueState) (at clock moment avg : ℕ) (cause : OutCause) (ts : List TaskRecord) (l1 l0 : Lists)
    → 0 < length ts → clock ≡ max q.clock (max at moment) →
    avg ≡ cond (is_wake cause) (cond (nobody l0.awake) (average_with q.idle_since clock q.avg_idle) q.avg_idle) q.avg_idle →
    l1 ≡ record l0 { awake = all_joined clock ts l0.awake; booked = l0.booked - length ts } →
    record (of_lists q l1) { clock = clock; avg_idle = avg; idle_since = None; tickless = false } ≡ land (of_lists q l0)
    at cause moment ts
land_done q at clock moment avg cause ts l1 l0 lt c v e =
    let v' : avg ≡ cond (is_wake cause) (cond (nobody l0.awake)
    (average_with q.idle_since (max q.clock (max at moment)) q.avg_idle) q.avg_idle) q.avg_idle =
    v ∙ ap (λ (k : ℕ). cond {A = ℕ} (is_wake cause)
    (cond (nobody l0.awake) (average_with q.idle_since k q.avg_idle) q.avg_idle) q.avg_idle) c in
    let e' = e ∙ ap (λ (k : ℕ). let l : Lists = record l0
    { awake = all_joined k ts l0.awake; booked = l0.booked - length ts } in l) c in
    ap (λ (k : ℕ). let s : QueueState = record
    (of_lists q l1) { clock = k; avg_idle = avg; idle_since = None; tickless = false } in s) c
    ∙ land_at q at moment avg cause ts l1 l0 lt v' e'
