-- What holds of each task of a queue, and is not ended by time or by leaving, holds after each call.
-- For the law `tests_last`.
use Rattle.std.proofs.Common.{◌≡◌, ℕ, ℤ, nat_lt, Bool, true, false, not, cond, ◌==◌, List, [], ◌∷◌, length, map, reverse, find, Option, Some, None, is_some, refl, subst}
use Rattle.std.specs.Prelude.{All, IfSome}
use Rattle.std.specs.List.{list_all, cons_option}
use Rattle.std.proofs.lemmas.Bool.{and_parts, and_from, eqb-true}
use Rattle.std.proofs.lemmas.List.Elements.{All-nil, All-head, All-tail, All-cons, All-push, All-filter, All-map, All-weaker}
use Rattle.lb_base.specs.declared.mask.Mask.{Mask}
use Rattle.lb_detach.specs.declared.Env.{Env}
use Rattle.lb_pelt.specs.declared.signal.Run.{Run}
use Rattle.lb_pelt.specs.declared.signal.Run.TheVariants.{Asleep, Waiting, Running}
use Rattle.lb_queue.specs.declared.record.TaskRecord.{TaskRecord}
use Rattle.lb_queue.specs.declared.awake.Awake.{Awake}
use Rattle.lb_queue.specs.declared.awake.StopRequest.{StopRequest}
use Rattle.lb_queue.specs.declared.awake.StopRequest.TheVariants.{Free, Owed}
use Rattle.lb_queue.specs.declared.answers.OutCause.{OutCause}
use Rattle.lb_queue.specs.Tasks.{task_with, awake_with, without_awake, is_pending, advanced_task, set_down, preempted, picked, picked_first, pick_back, somebody_runs, waiting, joined, left_by}
use Rattle.lb_queue.specs.Queue.{QueueState, new_task, at_moment, clock_at}
use Rattle.lb_queue.specs.Commands.{wake, sleep, exit, set_mask, renice, changed_awake, changed_task, masked, with_mask, reniced, with_nice, request_after, is_bad_mask, woken, fallen_asleep, ended, ended_asleep}
use Rattle.lb_queue.specs.Requests.{tick, owes, next_up, rotated_to, rotated, ask_active, kick}
use Rattle.lb_queue.specs.Hands.{leave, take_stop, take_push, leaves_awake, in_order, take_pull, all_joined, land}
use Rattle.lb_queue.specs.Turns.{turn, close_look}
use Rattle.lb_queue.specs.Calls.{Call, after_call}
use Rattle.lb_queue.specs.Calls.Call.{Declare, Wake, Leave, Sleep, Exit, SetMask, Renice, Tick, TakeStop, TakePush, Take, Land, Turn, CloseLook, EndTurn, AskActive, Kick}
use Rattle.lb_queue.specs.Moves.{taken_along, aged, Last, AllPass, Admits}
use Rattle.lb_queue.specs.Laws.{AllPassAfter}
use Rattle.lb_queue.proofs.Order.{all_turned}
use Rattle.lb_queue.proofs.Outcomes.{Refuses, wake_by, sleep_by, exit_by, mask_by, nice_by, leave_by, stop_by, push_by, land_by}

pub found_all : {X : Type 0} (P : X → Type 0) (f : X → Bool) (xs : List X) (a : X) → All P xs → find f xs ≡ Some a → P a
found_all P f [] a h e = absurd (let z : ⊥ = cc in z)
found_all {X = X} P f (x ∷ xs) a h e = step (f x) e (found_all P f xs a (All-tail P x xs h))
  where
    step : (b : Bool) → cond b (Some x) (find f xs) ≡ Some a → (find f xs ≡ Some a → P a) → P a
    step true e later = let z : x ≡ a = cc in subst P z (All-head P x xs h)
    step false e later = later e

-- ---- what lasts, of awake tasks and of others, and what a call has to hold
pub record Lasts (A : StopRequest → TaskRecord → Type 0) (T : TaskRecord → Type 0) : Type 0 where
  pub leaves : (s : StopRequest) (t : TaskRecord) → A s t → T t
  pub ages_awake : (s : StopRequest) (t : TaskRecord) (run : Run) (clock : ℕ) (down : Option ℕ) → A s t
      → A s (aged run clock down t)
  pub ages : (t : TaskRecord) (run : Run) (clock : ℕ) (down : Option ℕ) → T t → T (aged run clock down t)

pub record Holds (A : StopRequest → TaskRecord → Type 0) (T : TaskRecord → Type 0) (q : QueueState) : Type 0 where
  pub awake : All (λ a. A a.stop a.task) q.awake
  pub asleep : All T q.asleep
  pub gone : All T q.gone

pub record Kept (A : StopRequest → TaskRecord → Type 0) (T : TaskRecord → Type 0) (id : ℕ)
    (asked : StopRequest → StopRequest) (f : TaskRecord → TaskRecord) : Type 0 where
  pub up : (s : StopRequest) (t : TaskRecord) → t.id ≡ id → A s t → A (asked s) (f t)
  pub down : (t : TaskRecord) → t.id ≡ id → T t → T (f t)

abbrev pub Lets : (A : StopRequest → TaskRecord → Type 0) (T : TaskRecord → Type 0) → QueueState → Call → Type 0
Lets A T q (Declare id nice mask) = T (new_task id nice mask)
Lets A T q (Wake at id) = IfSome (task_with id q.asleep) (λ t. T t → A Free t)
Lets A T q (SetMask at id mask) = is_bad_mask q mask ≡ false → Kept A T id (request_after q.cpu mask) (with_mask mask)
Lets A T q (Renice at id nice) = Kept A T id (λ s. s) (with_nice nice)
Lets A T q (Tick at) = (s : StopRequest) (t : TaskRecord) → is_pending s ≡ true → A s t → A Owed t
Lets A T q (Land at cause moment tasks) = All (A Free) tasks
Lets A T q c = Unit {0}

module _ (A : StopRequest → TaskRecord → Type 0) (T : TaskRecord → Type 0) (lasts : Lasts A T) where
  abbrev Up : Awake → Type 0
  Up a = A a.stop a.task

  -- ---- one task
  advances : (run : Run) (clock : ℕ) (t : TaskRecord) → T t → T (advanced_task run clock t)
  advances run clock t h = lasts.ages t run clock t.put_down h

  picked_up : (clock : ℕ) (a : Awake) → Up a → Up (picked clock a)
  picked_up clock a h = lasts.ages_awake a.stop a.task Waiting clock a.task.put_down h

  down : (clock : ℕ) (a : Awake) → Up a → T (set_down clock a)
  down clock a h = by a.running (lasts.leaves a.stop a.task h)
    where
      by : (b : Bool) → T a.task → T (cond b (record (advanced_task Running clock a.task) { put_down = Some clock })
          (advanced_task Waiting clock a.task))
      by true k = lasts.ages a.task Running clock (Some clock) k
      by false k = advances Waiting clock a.task k

  preempted_up : (clock : ℕ) (a : Awake) → Up a → Up (preempted clock a)
  preempted_up clock a h = by a.running refl
    where
      by : (b : Bool) → a.running ≡ b → Up (preempted clock a)
      by true e = rw e (lasts.ages_awake a.stop a.task Running clock (Some clock) h)
      by false e = rw e h

  -- ---- the awake list
  first_up : (clock : ℕ) (xs : List Awake) → All Up xs → All Up (picked_first clock xs)
  first_up clock [] h = All-nil Up
  first_up clock (x ∷ xs) h = All-cons Up (picked clock x) (reverse xs) (picked_up clock x (All-head Up x xs h))
      (all_turned Up xs (All-tail Up x xs h))

  left_up : (clock : ℕ) (a : Awake) (xs : List Awake) → All Up xs → All Up (left_by clock a xs)
  unfolding left_by pick_back
  left_up clock a xs h = by a.running (All-filter (λ x. not (x.task.id == a.task.id)) Up xs h)
    where
      by : (b : Bool) → All Up (without_awake a.task.id xs)
          → All Up (cond b (picked_first clock (reverse (without_awake a.task.id xs))) (without_awake a.task.id xs))
      by true k = first_up clock (reverse (without_awake a.task.id xs)) (all_turned Up (without_awake a.task.id xs) k)
      by false k = k

  joined_up : (clock : ℕ) (t : TaskRecord) (xs : List Awake) → A Free t → All Up xs → All Up (joined clock t xs)
  unfolding joined
  joined_up clock t xs k h = by (somebody_runs xs)
    where
      by : (b : Bool) → All Up (cond b (waiting t ∷ xs) (picked clock (waiting t) ∷ xs))
      by true = All-cons Up (waiting t) xs k h
      by false = All-cons Up (picked clock (waiting t)) xs (picked_up clock (waiting t) k) h

  all_joined_up : (clock : ℕ) (ts : List TaskRecord) (xs : List Awake) → All (A Free) ts → All Up xs
      → All Up (all_joined clock ts xs)
  all_joined_up clock [] xs k h = h
  all_joined_up clock (t ∷ ts) xs k h = all_joined_up clock ts (joined clock t xs) (All-tail (A Free) t ts k)
      (joined_up clock t xs (All-head (A Free) t ts k) h)

  rotated_to_up : (o : Option Awake) (clock : ℕ) (xs : List Awake) → ((a : Awake) → o ≡ Some a → Up a) → All Up xs
      → All Up (rotated_to o clock xs)
  rotated_to_up None clock xs f h = h
  rotated_to_up (Some a) clock xs f h =
      let rest = without_awake a.task.id xs in
      All-cons Up (picked clock a) (map (preempted clock) rest) (picked_up clock a (f a refl))
      (All-map Up (preempted clock) rest
      (All-weaker Up (λ x. Up (preempted clock x)) (preempted_up clock) rest
      (All-filter (λ x. not (x.task.id == a.task.id)) Up xs h)))

  rotated_up : (clock : ℕ) (xs : List Awake) → All Up xs → All Up (rotated clock xs)
  unfolding rotated
  rotated_up clock xs h = by (nat_lt 1 (length xs))
    where
      by : (b : Bool) → All Up (cond b (rotated_to (next_up xs) clock xs) xs)
      by true = rotated_to_up (next_up xs) clock xs
          (λ a e. found_all Up (λ x. not x.running) (reverse xs) a (all_turned Up xs h) e) h
      by false = h

  owed_up : ((s : StopRequest) (t : TaskRecord) → is_pending s ≡ true → A s t → A Owed t) → (a : Awake) → Up a → Up (owes a)
  owed_up owed a h = by (is_pending a.stop) refl
    where
      by : (b : Bool) → is_pending a.stop ≡ b → Up (owes a)
      by true e = rw e (owed a.stop a.task e h)
      by false e = rw e h

  -- ---- one task is changed
  changed_up : (id : ℕ) (f : Awake → Awake) → ((a : Awake) → a.task.id ≡ id → Up a → Up (f a)) → (xs : List Awake)
      → All Up xs → All Up (changed_awake id f xs)
  changed_up id f keep xs h = All-map Up (λ a. cond (a.task.id == id) (f a) a) xs
      (All-weaker Up (λ a. Up (cond (a.task.id == id) (f a) a)) (λ a k. by a (a.task.id == id) refl k) xs h)
    where
      by : (a : Awake) (b : Bool) → (a.task.id == id) ≡ b → Up a → Up (cond b (f a) a)
      by a true e k = keep a (eqb-true a.task.id id e) k
      by a false e k = k

  changed_down : (id : ℕ) (f : TaskRecord → TaskRecord) → ((t : TaskRecord) → t.id ≡ id → T t → T (f t))
      → (xs : List TaskRecord) → All T xs → All T (changed_task id f xs)
  changed_down id f keep xs h = All-map T (λ t. cond (t.id == id) (f t) t) xs
      (All-weaker T (λ t. T (cond (t.id == id) (f t) t)) (λ t k. by t (t.id == id) refl k) xs h)
    where
      by : (t : TaskRecord) (b : Bool) → (t.id == id) ≡ b → T t → T (cond b (f t) t)
      by t true e k = keep t (eqb-true t.id id e) k
      by t false e k = k

  -- ---- tasks by their ids
  found_up : (is : List ℕ) (xs : List Awake) → All Up xs → All Up (in_order is xs)
  unfolding in_order
  found_up [] xs h = All-nil Up
  found_up (i ∷ is) xs h = by (awake_with i xs) refl (found_up is xs h)
    where
      by : (o : Option Awake) → awake_with i xs ≡ o → All Up (in_order is xs) → All Up (cons_option o (in_order is xs))
      by None e k = k
      by (Some a) e k = All-cons Up a (in_order is xs) (found_all Up (λ x. x.task.id == i) xs a h e) k

  all_down : (clock : ℕ) (xs : List Awake) → All Up xs → All T (map (set_down clock) xs)
  all_down clock xs h = All-map T (set_down clock) xs (All-weaker Up (λ a. T (set_down clock a)) (down clock) xs h)

  one_down : (t : TaskRecord) → T t → All T (t ∷ [])
  one_down t h = All-cons T t [] h (All-nil T)

  -- ---- each call
  module _ (q : QueueState) (h : Holds A T q) where
    -- after a call, with the tasks that it takes along
    abbrev After : List TaskRecord → QueueState → Type 0
    After ts q' = Holds A T q' × All T ts

    same : (q' : QueueState) → q'.awake ≡ q.awake → q'.asleep ≡ q.asleep → q'.gone ≡ q.gone → After [] q'
    same q' a b c = (record { awake = rw a h.awake; asleep = rw b h.asleep; gone = rw c h.gone }, All-nil T)

    refuses : (at : ℕ) → Refuses (λ r q'. After [] q') q at
    refuses at = record {
      already = same (at_moment q at) refl refl refl;
      gone = same (at_moment q at) refl refl refl;
      bad_mask = same (at_moment q at) refl refl refl;
      not_here = same q refl refl refl;
    }

    wakes : (at id : ℕ) → IfSome (task_with id q.asleep) (λ t. T t → A Free t) → After [] (wake q at id).1
    wakes at id joins = wake_by (λ r q'. After [] q') q at id (refuses at) woken_up
      where
        joins_up : (o : Option TaskRecord) (t : TaskRecord) → o ≡ Some t → IfSome o (λ t. T t → A Free t) → T t → A Free t
        joins_up None t e j k = absurd (let z : ⊥ = cc in z)
        joins_up (Some u) t e j k = let z : u ≡ t = cc in subst (λ x. T x → A Free x) z j k

        woken_up : (t : TaskRecord) → task_with id q.asleep ≡ Some t → After [] (woken t (at_moment q at))
        woken_up t e =
            let clock = clock_at q at in
            let k = found_all T (λ x. x.id == id) q.asleep t h.asleep e in
            let j = lasts.ages_awake Free t Asleep clock t.put_down (joins_up (task_with id q.asleep) t e joins k) in (
              record {
                awake = joined_up clock (advanced_task Asleep clock t) q.awake j h.awake;
                asleep = All-filter (λ x. not (x.id == t.id)) T q.asleep h.asleep;
                gone = h.gone;
              },
              All-nil T,
            )

    sleeps : (at id : ℕ) → After [] (sleep q at id).1
    sleeps at id = sleep_by (λ r q'. After [] q') q at id (refuses at) asleep
      where
        asleep : (a : Awake) → awake_with id q.awake ≡ Some a → After [] (fallen_asleep a (at_moment q at))
        asleep a e =
            let k = down (clock_at q at) a (found_all Up (λ x. x.task.id == id) q.awake a h.awake e) in (
              record {
                awake = left_up (clock_at q at) a q.awake h.awake;
                asleep = All-push T q.asleep (set_down (clock_at q at) a) h.asleep k;
                gone = h.gone;
              },
              All-nil T,
            )

    exits : (at id : ℕ) → After [] (exit q at id).1
    exits at id = exit_by (λ r q'. After [] q') q at id (refuses at) from_awake from_asleep
      where
        from_awake : (a : Awake) → awake_with id q.awake ≡ Some a → After [] (ended a (at_moment q at))
        from_awake a e =
            let k = down (clock_at q at) a (found_all Up (λ x. x.task.id == id) q.awake a h.awake e) in (
              record {
                awake = left_up (clock_at q at) a q.awake h.awake;
                asleep = h.asleep;
                gone = All-push T q.gone (set_down (clock_at q at) a) h.gone k;
              },
              All-nil T,
            )

        from_asleep : (t : TaskRecord) → awake_with id q.awake ≡ None → task_with id q.asleep ≡ Some t
            → After [] (ended_asleep t (at_moment q at))
        from_asleep t n e =
            let k = found_all T (λ x. x.id == id) q.asleep t h.asleep e in (
              record {
                awake = h.awake;
                asleep = All-filter (λ x. not (x.id == t.id)) T q.asleep h.asleep;
                gone = All-push T q.gone t h.gone k;
              },
              All-nil T,
            )

    masks : (at id : ℕ) (mask : Mask) → (is_bad_mask q mask ≡ false
        → Kept A T id (request_after q.cpu mask) (with_mask mask)) → After [] (set_mask q at id mask).1
    masks at id mask keep = mask_by (λ r q'. After [] q') q at id mask (refuses at)
        (λ good. (
          record {
            awake = changed_up id (masked q.cpu mask)
                (λ a e k. (keep good).up a.stop a.task e k) q.awake h.awake;
            asleep = h.asleep;
            gone = h.gone;
          },
          All-nil T,
        ))
        (λ good. (
          record {
            awake = h.awake;
            asleep = changed_down id (with_mask mask) (keep good).down q.asleep h.asleep;
            gone = h.gone;
          },
          All-nil T,
        ))

    nices : (at id : ℕ) (nice : ℤ) → Kept A T id (λ s. s) (with_nice nice) → After [] (renice q at id nice).1
    nices at id nice keep = nice_by (λ r q'. After [] q') q at id nice (refuses at) (
      record {
        awake = changed_up id (reniced nice) (λ a e k. keep.up a.stop a.task e k) q.awake h.awake;
        asleep = h.asleep;
        gone = h.gone;
      },
      All-nil T,
    ) (
      record {
        awake = h.awake;
        asleep = changed_down id (with_nice nice) keep.down q.asleep h.asleep;
        gone = h.gone;
      },
      All-nil T,
    )

    ticks : (at : ℕ) → ((s : StopRequest) (t : TaskRecord) → is_pending s ≡ true → A s t → A Owed t) → After [] (tick q at)
    unfolding tick
    ticks at owed = (
      record {
        awake = All-map Up owes _
            (All-weaker Up (λ x. Up (owes x)) (owed_up owed) _ (rotated_up (clock_at q at) q.awake h.awake));
        asleep =
            h.asleep;
        gone = h.gone;
      },
      All-nil T,
    )

    leave_lasts : (at id : ℕ) → After (leave q at id).0 (leave q at id).1
    leave_lasts at id = leave_by After q at id (same (at_moment q at) refl refl refl) (λ t e.
        let k = found_all T (λ x. x.id == id) q.asleep t h.asleep e in (
          record { awake = h.awake; asleep = All-filter (λ x. not (x.id == t.id)) T q.asleep h.asleep; gone = h.gone },
          one_down (advanced_task Asleep (clock_at q at) t) (advances Asleep (clock_at q at) t k),
        ))

    goes : (q1 : QueueState) (at id : ℕ) (a : Awake) → q1.awake ≡ q.awake → q1.asleep ≡ q.asleep → q1.gone ≡ q.gone
        → awake_with id q.awake ≡ Some a → After (leaves_awake q1 at (Some a)).0 (leaves_awake q1 at (Some a)).1
    goes q1 at id a x y z e =
        let k = down (clock_at q1 at) a (found_all Up (λ x. x.task.id == id) q.awake a h.awake e) in (
          record {
            awake = rw x (left_up (clock_at q1 at) a q.awake h.awake);
            asleep = rw y h.asleep;
            gone = rw z h.gone;
          },
          one_down (set_down (clock_at q1 at) a) k,
        )

    stop_lasts : (at id : ℕ) → After (take_stop q at id).0 (take_stop q at id).1
    stop_lasts at id = stop_by After q at id (same (at_moment q at) refl refl refl) (λ a e. goes q at id a refl refl refl e)

    push_lasts : (at to : ℕ) → After (take_push q at to).0 (take_push q at to).1
    push_lasts at to = push_by After q at to (same (at_moment (record q { active = None }) at) refl refl refl)
        (λ id a f e. goes (record q { active = None }) at id a refl refl refl e)

    pull_lasts : (at : ℕ) (env : Env) → After (take_pull q at env).0 (take_pull q at env).1
    unfolding take_pull
    pull_lasts at env = (
      record { awake = found_up _ q.awake h.awake; asleep = h.asleep; gone = h.gone },
      all_down
          (clock_at q at) _ (found_up _ q.awake h.awake),
    )

    land_lasts : (at : ℕ) (cause : OutCause) (moment : ℕ) (tasks : List TaskRecord) → All (A Free) tasks
        → After [] (land q at cause moment tasks)
    land_lasts at cause moment tasks k = land_by (λ ts q'. After [] q') q at cause moment tasks
        (same (at_moment q _) refl refl refl)
        (λ t ts e. (
          record {
            awake = all_joined_up _ (t ∷ ts) q.awake (subst (All (A Free)) e k) h.awake;
            asleep = h.asleep;
            gone = h.gone;
          },
          All-nil T,
        ))

    turn_lasts : (shut opened : QueueState) (b : Bool) → After [] shut → After [] opened → After [] (cond b shut opened)
    turn_lasts shut opened true x y = x
    turn_lasts shut opened false x y = y

    pub call_lasts : (c : Call) → Lets A T q c → After (taken_along q c) (after_call q c)
    unfolding turn close_look ask_active kick
    call_lasts (Declare id nice mask) k =
        (record { awake = h.awake; asleep = All-push T q.asleep (new_task id nice mask) h.asleep k; gone = h.gone }, All-nil T)
    call_lasts (Wake at id) k = wakes at id k
    call_lasts (Leave at id to) k = leave_lasts at id
    call_lasts (Sleep at id) k = sleeps at id
    call_lasts (Exit at id) k = exits at id
    call_lasts (SetMask at id mask) k = masks at id mask k
    call_lasts (Renice at id nice) k = nices at id nice k
    call_lasts (Tick at) k = ticks at k
    call_lasts (TakeStop at id to) k = stop_lasts at id
    call_lasts (TakePush at to) k = push_lasts at to
    call_lasts (Take at env) k = pull_lasts at env
    call_lasts (Land at cause moment tasks) k = land_lasts at cause moment tasks k
    call_lasts (Turn at lane kind version shapes) k = turn_lasts _ _ (is_some q.open_turn) (same _ refl refl refl)
        (same _ refl refl refl)
    call_lasts (CloseLook at shape outcome imb) k = same _ refl refl refl
    call_lasts (EndTurn at) k = same _ refl refl refl
    call_lasts (AskActive at to) k = same _ refl refl refl
    call_lasts (Kick at) k = same _ refl refl refl

-- ---- tests
all_of : {X : Type 0} (p : X → Bool) (xs : List X) → list_all p xs ≡ true → All (λ x. p x ≡ true) xs
all_of p [] h = All-nil (λ x. p x ≡ true)
all_of p (x ∷ xs) h = let k = and_parts (p x) (list_all p xs) h in All-cons (λ y. p y ≡ true) x xs k.0 (all_of p xs k.1)

passed : {X : Type 0} (p : X → Bool) (xs : List X) → All (λ x. p x ≡ true) xs → list_all p xs ≡ true
passed p [] h = refl
passed p (x ∷ xs) h = and_from (p x) (list_all p xs) (All-head (λ y. p y ≡ true) x xs h)
    (passed p xs (All-tail (λ y. p y ≡ true) x xs h))

lets : (up : StopRequest → TaskRecord → Bool) (down : TaskRecord → Bool) (q : QueueState) (c : Call)
    → Admits up down q c → Lets (λ s t. up s t ≡ true) (λ t. down t ≡ true) q c
lets up down q (Declare id nice mask) h = h
lets up down q (Wake at id) h = h
lets up down q (SetMask at id mask) h = λ good. let k = h good in record { up = k.awake; down = k.asleep }
lets up down q (Renice at id nice) h = record { up = h.awake; down = h.asleep }
lets up down q (Tick at) h = h
lets up down q (Land at cause moment tasks) h = all_of (up Free) tasks h
lets up down q c h = tt

pub tests_last : (up : StopRequest → TaskRecord → Bool) (down : TaskRecord → Bool) → Last up down → (q : QueueState)
    → AllPass up down q → (call : Call) → Admits up down q call → AllPassAfter up down q call
tests_last up down lasts q h call k =
    let here : Awake → Bool = λ a. up a.stop a.task in
    let after = call_lasts (λ s t. up s t ≡ true) (λ t. down t ≡ true)
    (record { leaves = lasts.leaves; ages_awake = lasts.ages_awake; ages = lasts.ages }) q
    (record {
      awake = all_of here q.awake h.awake;
      asleep = all_of down q.asleep h.asleep;
      gone = all_of down q.gone h.gone;
    }) call (lets up down q call k) in
    record {
      queue = record {
        awake = passed here (after_call q call).awake after.0.awake;
        asleep = passed down (after_call q call).asleep after.0.asleep;
        gone = passed down (after_call q call).gone after.0.gone;
      };
      hand = passed down (taken_along q call) after.1;
    }
