-- A step of the law `permitted`, on which `Permits` stands: each answer, each `out` and each landing keeps
-- the tasks of the queue allowed (`Allowed`), and sends only what may go.
use Rattle.std.proofs.Common.{◌≡◌, ℕ, zero, suc, Bool, true, false, not, cond, ◌&&◌, ◌||◌, List, [], ◌∷◌, All, Option, Some, None, is_some, is_none, IfSome, refl, sym, arith, subst}
use Rattle.std.specs.List.{list_all}
use Rattle.std.proofs.lemmas.Bool.{or_parts, and_parts, and_from, or_left, or_right}
use Rattle.lb_base.specs.declared.mask.Mask.{Mask}
use Rattle.lb_base.specs.Mask.{has}
use Rattle.lb_base.specs.Sets.{least, is_empty}
use Rattle.lb_queue.specs.declared.answers.OutCause.{OutCause}
use Rattle.lb_queue.specs.declared.awake.StopRequest.{StopRequest}
use Rattle.lb_queue.specs.declared.awake.StopRequest.TheVariants.{Free, Pending, Owed}
use Rattle.lb_queue.specs.declared.awake.Awake.{Awake}
use Rattle.lb_queue.specs.declared.record.TaskRecord.{TaskRecord}
use Rattle.lb_queue.specs.Tasks.{is_pending, task_with}
use Rattle.lb_queue.specs.Queue.{QueueState, away, away_of}
use Rattle.lb_queue.specs.Commands.{is_bad_mask, request_after, with_mask}
use Rattle.lb_queue.specs.Calls.{Call, after_call}
use Rattle.lb_queue.specs.Calls.Call.{Wake as WakeCall, Sleep as SleepCall, Exit as ExitCall, SetMask as MaskCall, Renice, Tick as TickCall, Leave, TakeStop, TakePush, Take, Land}
use Rattle.lb_queue.specs.Moves.{AreDistinct, taken_along, goes_to, Last, AllPass, Allows, Admits}
use Rattle.lb_queue.specs.Laws.{TestsLast, AllPassAfter, CallsKeepRest, TakenMayRun, NextMayBeTaken}
use Rattle.lb_trace.specs.declared.trace.Command.{Command}
use Rattle.lb_trace.specs.declared.trace.Command.TheVariants.{Wake, Sleep, Exit, SetMask, Nice, Tick, Rebuild}
use Rattle.lb_core.specs.Leaving.{Leaving}
use Rattle.lb_core.specs.Rules.{leaves_instead}
use Rattle.lb_core.specs.QueueAfter.{answer_to}
use Rattle.lb_core.proofs.Allowed.{may_be, may_go_to, may_run, IsAllowed}
use Rattle.lb_core.proofs.Leavings.{leaves, IsLeft}

-- what holds of each queue
pub record TaskLaws : Type 0 where
  pub last : TestsLast
  pub rest : CallsKeepRest
  pub run : TakenMayRun
  pub next : NextMayBeTaken

pub record Stays (q q' : QueueState) : Type 0 where
  pub allowed : IsAllowed q'
  pub cpu : q'.cpu ≡ q.cpu

-- the tests of tasks last
lasts : (cpu : ℕ) → Last (may_be cpu) may_run
lasts cpu = record {
  leaves = λ stop t h. (and_parts _ _ h).1;
  ages_awake = λ stop t run clock down h. h;
  ages = λ t run
      clock down h. h;
}

call_passes : TaskLaws → (q : QueueState) (call : Call) → IsAllowed q → Admits (may_be q.cpu) may_run q call
    → AllPassAfter (may_be q.cpu) may_run q call
call_passes law q call h admitted = law.last (may_be q.cpu) may_run (lasts q.cpu) q h call admitted

call_stays : TaskLaws → (q : QueueState) (call : Call) → IsAllowed q → Admits (may_be q.cpu) may_run q call
    → Stays q (after_call q call)
call_stays law q call h admitted =
    let cpu = (law.rest q call).cpu in
    record {
      allowed = subst (λ (c : ℕ). AllPass (may_be c) may_run (after_call q call)) (sym cpu)
          (call_passes law q call h admitted).queue;
      cpu = cpu;
    }

-- ---- the answer to a row
-- a task that need not leave may be here
stays_here : (m : Mask) (b : Bool) → is_some (cond b None (least m)) ≡ false → not (is_empty m) ≡ true
    → ((b || false) && not (is_empty m)) ≡ true
stays_here m true n h = h
stays_here m false n h = by_least (least m) n h
  where
    by_least : (o : Option ℕ) → is_some o ≡ false → not (is_none o) ≡ true → false ≡ true
    by_least None n h = h
    by_least (Some c) n h = sym n

wakes_here : (q : QueueState) (o : Option TaskRecord) → is_some (away_of q o) ≡ false
    → IfSome o (λ t. may_run t ≡ true → may_be q.cpu Free t ≡ true)
wakes_here q None n = tt
wakes_here q (Some t) n = λ h. stays_here t.mask (has t.mask q.cpu) n h

asked : (s : StopRequest) (b : Bool) → (b || is_pending (cond b Free (cond (is_pending s) s Pending))) ≡ true
asked s true = refl
asked Free false = refl
asked Pending false = refl
asked Owed false = refl

mask_allowed : (q : QueueState) (id : ℕ) (m : Mask) → is_bad_mask q m ≡ false
    → Allows (may_be q.cpu) may_run id (request_after q.cpu m) (with_mask m)
mask_allowed q id m good =
    let some : not (is_empty m) ≡ true = let e : is_empty m ≡ false = (or_parts _ _ good).0 in rw e refl in
    record { awake = λ stop t named h. and_from _ _ (asked stop (has m q.cpu)) some; asleep = λ t named h. some }

still_asked : (b : Bool) (m : Mask) (cpu : ℕ) → ((has m cpu || b) && not (is_empty m)) ≡ true
    → ((has m cpu || true) && not (is_empty m)) ≡ true
still_asked b m cpu h = and_from _ _ (or_right (has m cpu) true refl) ((and_parts _ _ h).1)

same_stays : (q : QueueState) → IsAllowed q → Stays q q
same_stays q h = record { allowed = h; cpu = refl }

pub answer_stays : TaskLaws → (command : Option Command) (at : ℕ) (q : QueueState) → leaves_instead command q ≡ false
    → IsAllowed q → Stays q (answer_to command at q).1
unfolding away
answer_stays law None at q n h = same_stays q h
answer_stays law (Some (Wake t)) at q n h = call_stays law q (WakeCall at t) h (wakes_here q (task_with t q.asleep) n)
answer_stays law (Some (Sleep t)) at q n h = call_stays law q (SleepCall at t) h tt
answer_stays law (Some (Exit t)) at q n h = call_stays law q (ExitCall at t) h tt
answer_stays law (Some (SetMask t m)) at q n h = call_stays law q (MaskCall at t m) h (mask_allowed q t m)
answer_stays law (Some (Nice t v)) at q n h =
    call_stays law q (Renice at t v) h (record { awake = λ stop x named k. k; asleep = λ x named k. k })
answer_stays law (Some (Tick cpu)) at q n h =
    call_stays law q (TickCall at) h (λ stop t pending k. still_asked (is_pending stop) t.mask q.cpu k)
answer_stays law (Some (Rebuild parts)) at q n h = same_stays q h

-- ---- a landing
frees : (cpu : ℕ) (ts : List TaskRecord) → list_all (may_go_to cpu) ts ≡ true → list_all (may_be cpu Free) ts ≡ true
frees cpu [] h = refl
frees cpu (t ∷ ts) h =
    let k = and_parts (may_go_to cpu t) _ h in
    let p = and_parts (has t.mask cpu) _ k.0 in
    and_from (may_be cpu Free t) _ (and_from _ _ (or_left (has t.mask cpu) false p.0) p.1) (frees cpu ts k.1)

pub land_stays : TaskLaws → (at : ℕ) (cause : OutCause) (moment : ℕ) (ts : List TaskRecord) (q : QueueState)
    → list_all (may_go_to q.cpu) ts ≡ true → IsAllowed q → Stays q (after_call q (Land at cause moment ts))
land_stays law at cause moment ts q g h = call_stays law q (Land at cause moment ts) h (frees q.cpu ts g)

-- ---- tasks that leave
pub record Sends (q : QueueState) (l : Leaving) : Type 0 where
  pub stays : Stays q l.rest
  pub sent : list_all (may_go_to l.to) l.hand ≡ true

both_of : (to : ℕ) (ts : List TaskRecord) → All (λ t. has t.mask to ≡ true) ts → list_all may_run ts ≡ true
    → list_all (may_go_to to) ts ≡ true
both_of to [] a h = refl
both_of to (t ∷ ts) a h =
    let k = and_parts (may_run t) _ h in
    and_from (may_go_to to t) _ (and_from _ _ (a zero t (omega arith)) k.0)
    (both_of to ts (λ i d lt. a (suc i) d (omega arith)) k.1)

have_masks : (cpu : ℕ) (xs : List Awake) → list_all (λ (a : Awake). may_be cpu a.stop a.task) xs ≡ true
    → list_all (λ (a : Awake). not (is_empty a.task.mask)) xs ≡ true
have_masks cpu [] h = refl
have_masks cpu (a ∷ xs) h = let k = and_parts (may_be cpu a.stop a.task) _ h in
    and_from (not (is_empty a.task.mask)) _ (and_parts _ _ k.0).1 (have_masks cpu xs k.1)

admitted : (q : QueueState) (call : Call) → leaves call ≡ true → Admits (may_be q.cpu) may_run q call
admitted q (Leave at id to) b = tt
admitted q (TakeStop at id to) b = tt
admitted q (TakePush at to) b = tt
admitted q (Take at env) b = tt
admitted q call b = absurd (let k : ⊥ = cc in k)

pub out_sends : TaskLaws → (q : QueueState) (l : Leaving) → IsLeft q l → AreDistinct q → IsAllowed q → Sends q l
out_sends law q l left one h =
    let call = left.call in
    let a = admitted q call left.leaves in
    let run = law.run q one call (left.may law.next one (have_masks q.cpu q.awake h.awake)) in
    subst (Sends q) left.is (record {
      stays = call_stays law q call h a;
      sent = both_of (goes_to call) (taken_along q call) run (call_passes law q call h a).hand;
    })
