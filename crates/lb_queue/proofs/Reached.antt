-- What holds of a queue, whatever calls were made on it.
-- For the laws `clock_rises` and `sound`.
use Rattle.std.proofs.Common.{◌≡◌, ℕ, ◌+◌, ◌≤◌, max, Bool, true, false, cond, ◌||◌, ◌==◌, List, [], ◌∷◌, map, find, Option, Some, None, is_some, refl, arith, subst}
use Rattle.std.specs.Prelude.{IfSome}
use Rattle.std.proofs.lemmas.Bool.{eqb-true}
use Rattle.std.proofs.lemmas.List.Elements.{All-nil}
use Rattle.lb_base.specs.Sets.{is_empty}
use Rattle.lb_base.specs.declared.view.TaskView.{TaskView}
use Rattle.lb_detach.specs.declared.Env.{Env}
use Rattle.lb_detach.specs.Laws.{IsSound as IsSoundPick}
use Rattle.lb_queue.specs.declared.record.TaskRecord.{TaskRecord}
use Rattle.lb_queue.specs.declared.awake.Awake.{Awake}
use Rattle.lb_queue.specs.Tasks.{occurs, task_with, awake_with}
use Rattle.lb_queue.specs.Queue.{QueueState, empty_queue, knows, clock_at}
use Rattle.lb_queue.specs.Kept.{IsTask, stands}
use Rattle.lb_queue.specs.Requests.{tick, ask_active, kick}
use Rattle.lb_queue.specs.Hands.{take_pull}
use Rattle.lb_queue.specs.Turns.{turn, close_look}
use Rattle.lb_queue.specs.Values.{views}
use Rattle.lb_queue.specs.Calls.{Call, May, MayAll, after_call, after_calls}
use Rattle.lb_queue.specs.Calls.Call.{Declare, Wake, Leave, Sleep, Exit, SetMask, Renice, Tick, TakeStop, TakePush, Take, Land, Turn, CloseLook, EndTurn, AskActive, Kick}
use Rattle.lb_queue.specs.Laws.{IsSound}
use Rattle.lb_queue.proofs.Counts.{found}
use Rattle.lb_queue.proofs.Ids.{key, name}
use Rattle.lb_queue.proofs.Replies.{unknown_where}
use Rattle.lb_queue.proofs.Lasting.{Lets, call_lasts}
use Rattle.lb_queue.proofs.Outcomes.{Refuses, wake_by, sleep_by, exit_by, mask_by, nice_by, leave_by, stop_by, push_by, land_by}
use Rattle.lb_queue.proofs.Steps.{SoundQueue, Keeps, Grows, AnyTask, tasks_last}
use Rattle.lb_queue.proofs.CallsKeep.{declare_sound, wake_sound, leave_sound, sleep_sound, exit_sound, mask_sound, nice_sound, tick_sound, stop_sound, push_sound, pull_sound, land_sound}

-- ---- one call
cond_sound : (shut opened : QueueState) (b : Bool) → SoundQueue shut → SoundQueue opened → SoundQueue (cond b shut opened)
cond_sound shut opened true h k = h
cond_sound shut opened false h k = k

-- every pick is sound
abbrev pub PicksSoundly : Type 0
PicksSoundly = (env : Env) (list : List TaskView) → IsSoundPick env list

call_sound : PicksSoundly → (q : QueueState) (c : Call) → May q c → Keeps q → SoundQueue (after_call q c)
unfolding turn close_look ask_active kick
call_sound picks q (Declare id nice mask) m h = declare_sound q id nice mask m h
call_sound picks q (Wake at id) m h = wake_sound q h at id m
call_sound picks q (Leave at id to) m h = leave_sound q h at id
call_sound picks q (Sleep at id) m h = sleep_sound q h at id
call_sound picks q (Exit at id) m h = exit_sound q h at id
call_sound picks q (SetMask at id mask) m h = mask_sound q h at id mask
call_sound picks q (Renice at id nice) m h = nice_sound q h at id nice
call_sound picks q (Tick at) m h = tick_sound q h at
call_sound picks q (TakeStop at id to) m h = stop_sound q h at id
call_sound picks q (TakePush at to) m h = push_sound q h at to
call_sound picks q (Take at env) m h = pull_sound q at env (picks env (views q at)) h
call_sound picks q (Land at cause moment tasks) m h = land_sound q at cause moment tasks m h
call_sound picks q (Turn at lane kind version shapes) m h = cond_sound _ _ (is_some q.open_turn) h.sound h.sound
call_sound picks q (CloseLook at shape outcome imb) m h = h.sound
call_sound picks q (EndTurn at) m h = h.sound
call_sound picks q (AskActive at to) m h = h.sound
call_sound picks q (Kick at) m h = h.sound

-- a call that may be made lets each task keep its bounds
good_by : (empty b : Bool) → (empty || b) ≡ false → empty ≡ false
good_by true b e = e
good_by false b e = refl

wake_lets : (o : Option TaskRecord) → IfSome o (λ t. IsTask t → IsTask t)
wake_lets None = tt
wake_lets (Some t) = λ k. k

lets : (q : QueueState) (c : Call) → May q c → Lets AnyTask IsTask q c
lets q (Declare id nice mask) m = record {
  numbered = m.numbered;
  low = m.low;
  high = m.high;
  somewhere = m.somewhere;
  bounded = record { part_small = omega arith; load_small = omega arith; runnable_small = omega arith; util_small = omega arith };
}
lets q (Wake at id) m = wake_lets (task_with id q.asleep)
lets q (SetMask at id mask) m = λ good.
    let e = good_by (is_empty mask) _ good in
    record {
      up = λ s t n k. record { numbered = k.numbered; low = k.low; high = k.high; somewhere = e; bounded = k.bounded };
      down = λ t n k. record { numbered = k.numbered; low = k.low; high = k.high; somewhere = e; bounded = k.bounded };
    }
lets q (Renice at id nice) m = record {
  up = λ s t n k. record { numbered = k.numbered; low = m.0; high = m.1; somewhere = k.somewhere; bounded = k.bounded };
  down = λ t n k. record { numbered = k.numbered; low = m.0; high = m.1; somewhere = k.somewhere; bounded = k.bounded };
}
lets q (Tick at) m = λ s t p k. k
lets q (Land at cause moment tasks) m = m.each
lets q c m = tt

module _ (grows : Grows) (picks : PicksSoundly) where
  call_keeps : (q : QueueState) (c : Call) → May q c → Keeps q → Keeps (after_call q c)
  call_keeps q c m h =
      let k = (call_lasts AnyTask IsTask (tasks_last grows) q (record { awake = h.up; asleep = h.down; gone = h.past })
      c (lets q c m)).0 in
      record { sound = call_sound picks q c m h; up = k.awake; down = k.asleep; past = k.gone }

  calls_keep : (q : QueueState) (cs : List Call) → MayAll q cs → Keeps q → Keeps (after_calls q cs)
  unfolding after_calls MayAll
  calls_keep q [] m h = h
  calls_keep q (c ∷ cs) m h = calls_keep (after_call q c) cs m.1 (call_keeps q c m.0 h)

-- ---- each known task stands once
stands_once : {X : Type 0} (f : X → ℕ) (id : ℕ) (xs : List X) (o : Option X) → find (λ x. f x == id) xs ≡ o
    → is_some o ≡ true → 1 ≤ occurs id (map f xs)
stands_once f id xs None e h = absurd (let z : ⊥ = cc in z)
stands_once f id xs (Some a) e h =
    let k = found (λ x. f x == id) f xs a e in
    subst (λ (u : ℕ). 1 ≤ occurs u (map f xs)) (eqb-true (f a) id k.passes) k.there

somewhere : (a b c : Bool) (x y z : ℕ) → (a || b || c) ≡ true → (a ≡ true → 1 ≤ x) → (b ≡ true → 1 ≤ y)
    → (c ≡ true → 1 ≤ z) → 1 ≤ x + y + z
somewhere true b c x y z h f g k = let n = f refl in omega arith
somewhere false true c x y z h f g k = let n = g refl in omega arith
somewhere false false c x y z h f g k = let n = k h in omega arith

known_stands : (q : QueueState) (id : ℕ) → knows q id ≡ true → 1 ≤ stands q.awake q.asleep q.gone id
known_stands q id h =
    somewhere (is_some (awake_with id q.awake)) (is_some (task_with id q.asleep))
    (is_some (task_with id q.gone)) _ _ _ h (stands_once key id q.awake (awake_with id q.awake) refl)
    (stands_once name id q.asleep (task_with id q.asleep) refl)
    (stands_once name id q.gone (task_with id q.gone) refl)

once_by : (q : QueueState) (id : ℕ) (b : Bool) → knows q id ≡ b → stands q.awake q.asleep q.gone id ≤ 1
    → stands q.awake q.asleep q.gone id ≡ cond b 1 0
once_by q id true e h = let k = known_stands q id e in omega arith
once_by q id false e h = unknown_where q id e

is_sound : (q : QueueState) → Keeps q → IsSound q
is_sound q h = record {
  once = λ id. once_by q id (knows q id) refl (h.sound.once id);
  lists = h.sound;
  awake = h.up;
  asleep = h.down;
  gone = h.past;
}

empty_keeps : (cpu cpus : ℕ) → Keeps (empty_queue cpu cpus)
empty_keeps cpu cpus = record {
  sound = record { once = λ u. omega arith; numbered = λ u lo. refl; one_runs = refl; asked = refl };
  up = All-nil (λ (a : Awake). IsTask a.task);
  down = All-nil IsTask;
  past = All-nil IsTask;
}

pub empty_sound : (cpu cpus : ℕ) → IsSound (empty_queue cpu cpus)
empty_sound cpu cpus = is_sound (empty_queue cpu cpus) (empty_keeps cpu cpus)

pub calls_keep_sound : Grows → PicksSoundly → (q : QueueState) → IsSound q → (calls : List Call) → MayAll q calls
    → IsSound (after_calls q calls)
calls_keep_sound grows picks q h calls m =
    is_sound (after_calls q calls) (calls_keep grows picks q calls m
    (record { sound = h.lists; up = h.awake; down = h.asleep; past = h.gone }))

-- ---- the clock
module _ (q : QueueState) where
  rises : (at : ℕ) → q.clock ≤ clock_at q at
  rises at = omega arith

  refused_rises : (at : ℕ) → Refuses (λ r q'. q.clock ≤ q'.clock) q at
  refused_rises at = record { already = rises at; gone = rises at; bad_mask = rises at; not_here = omega arith }

  turn_rises : (shut opened : QueueState) (b : Bool) → q.clock ≤ shut.clock → q.clock ≤ opened.clock
      → q.clock ≤ (let s : QueueState = cond b shut opened in s.clock)
  turn_rises shut opened true h k = h
  turn_rises shut opened false h k = k

  call_rises : (c : Call) → q.clock ≤ (after_call q c).clock
  unfolding take_pull tick turn close_look ask_active kick
  call_rises (Declare id nice mask) = omega arith
  call_rises (Wake at id) = wake_by (λ r q'. q.clock ≤ q'.clock) q at id (refused_rises at) (λ t e. rises at)
  call_rises (Leave at id to) = leave_by (λ ts q'. q.clock ≤ q'.clock) q at id (rises at) (λ t e. rises at)
  call_rises (Sleep at id) = sleep_by (λ r q'. q.clock ≤ q'.clock) q at id (refused_rises at) (λ a e. rises at)
  call_rises (Exit at id) = exit_by (λ r q'. q.clock ≤ q'.clock) q at id (refused_rises at) (λ a e. rises at) (λ t n e. rises at)
  call_rises (SetMask at id mask) = mask_by (λ r q'. q.clock ≤ q'.clock) q at id mask (refused_rises at)
      (λ good. rises at) (λ good. rises at)
  call_rises (Renice at id nice) = nice_by (λ r q'. q.clock ≤ q'.clock) q at id nice (refused_rises at) (rises at) (rises at)
  call_rises (Tick at) = rises at
  call_rises (TakeStop at id to) = stop_by (λ ts q'. q.clock ≤ q'.clock) q at id (rises at) (λ a e. rises at)
  call_rises (TakePush at to) = push_by (λ ts q'. q.clock ≤ q'.clock) q at to (rises at) (λ id a f e. rises at)
  call_rises (Take at env) = rises at
  call_rises (Land at cause moment tasks) =
      land_by (λ ts q'. q.clock ≤ q'.clock) q at cause moment tasks (rises (max at moment)) (λ t ts e. rises (max at moment))
  call_rises (Turn at lane kind version shapes) = turn_rises _ _ (is_some q.open_turn) (rises at) (rises at)
  call_rises (CloseLook at shape outcome imb) = rises at
  call_rises (EndTurn at) = rises at
  call_rises (AskActive at to) = rises at
  call_rises (Kick at) = rises at

pub clock_rises : (q : QueueState) (calls : List Call) → q.clock ≤ (after_calls q calls).clock
unfolding after_calls
clock_rises q [] = omega arith
clock_rises q (c ∷ cs) = let h = call_rises q c in let k = clock_rises (after_call q c) cs in omega arith
