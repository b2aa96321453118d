-- Each call moves the tasks that it says, and nothing else.
-- For the law `calls_move`.
use Rattle.std.proofs.Common.{◌≡◌, ℕ, ℤ, ◌+◌, ◌≤◌, Bool, true, false, cond, ◌==◌, eqb, List, [], ◌∷◌, ◌++◌, map, max, Option, Some, None, is_some, refl, sym, ◌∙◌, ap, arith, subst}
use Rattle.std.proofs.lemmas.Bool.Decides.{nat_tests}
use Rattle.lb_base.specs.declared.mask.Mask.{Mask}
use Rattle.lb_pelt.specs.declared.signal.Run.TheVariants.{Asleep}
use Rattle.lb_detach.specs.declared.Env.{Env}
use Rattle.lb_detach.specs.Picks.{picked_ids, kept_ids}
use Rattle.lb_queue.specs.declared.record.TaskRecord.{TaskRecord}
use Rattle.lb_queue.specs.declared.awake.Awake.{Awake}
use Rattle.lb_queue.specs.declared.answers.OutCause.{OutCause}
use Rattle.lb_queue.specs.Tasks.{ids, awake_ids, occurs, task_with, awake_with, without_task, advanced_task, set_down, left_by}
use Rattle.lb_queue.specs.Queue.{QueueState, at_moment, clock_at, is_awake, declared, new_task}
use Rattle.lb_queue.specs.Commands.{wake, sleep, exit, woken, fallen_asleep, ended, ended_asleep, masked, with_mask, reniced, with_nice, set_mask, renice, changed_awake, changed_task}
use Rattle.lb_queue.specs.Requests.{tick, rotated, owes, ask_active, kick}
use Rattle.lb_queue.specs.Hands.{leaves_asleep, leave, leaves_awake, take_stop, take_push, in_order, take_pull, landed, land}
use Rattle.lb_queue.specs.Turns.{turn, close_look, shut, opened}
use Rattle.lb_queue.specs.Values.{views, view_at}
use Rattle.lb_queue.specs.Calls.{Call, after_call}
use Rattle.lb_queue.specs.Calls.Call.{Declare, Wake, Leave, Sleep, Exit, SetMask, Renice, Tick, TakeStop, TakePush, Take, Land, Turn, CloseLook, EndTurn, AskActive, Kick}
use Rattle.lb_queue.specs.Moves.{Side, same_side, standing, AreDistinct, brought, taken_along, if_done, moved_by, HasMoved}
use Rattle.lb_queue.specs.Moves.Side.{OnAwake, OnAsleep, OnGone, OnHand}
use Rattle.lb_queue.proofs.Counts.{occurs-map_append, occurs-map, occurs-without, found}
use Rattle.lb_queue.proofs.Ids.{key, name, joined_ids, left_ids, all_joined_ids, rotated_ids, owes_keeps, changed_awake_ids, changed_task_ids}
use Rattle.lb_queue.proofs.Outcomes.{Refuses, wake_by, sleep_by, exit_by, mask_by, nice_by, leave_by, stop_by, push_by, land_by}
use Rattle.lb_queue.proofs.PickedIds.{picked_or_kept, in_order_ids}
use Rattle.lb_queue.proofs.Sound.{awake_named, task_named, set_down_keeps}

-- ---- nobody moves
zero_if : (b : Bool) → cond {A = ℕ} b 0 0 ≡ 0
zero_if true = refl
zero_if false = refl

still : (from to : Side) (q : QueueState) (h : List TaskRecord) (q' : QueueState) (h' : List TaskRecord)
    → ((s : Side) (u : ℕ) → occurs u (standing s q' h') ≡ occurs u (standing s q h))
    → HasMoved (record { tasks = []; from = from; to = to }) q h q' h'
still from to q h q' h' e s u = let a = zero_if (same_side s from) in let b = zero_if (same_side s to) in let k = e s u
    in omega arith

-- the lists are the same
alike : (q q' : QueueState) → q'.awake ≡ q.awake → q'.asleep ≡ q.asleep → q'.gone ≡ q.gone → (s : Side) (u : ℕ)
    → occurs u (standing s q' []) ≡ occurs u (standing s q [])
alike q q' a b c OnAwake u = rw a refl
alike q q' a b c OnAsleep u = rw b refl
alike q q' a b c OnGone u = rw c refl
alike q q' a b c OnHand u = refl

refused : (from to : Side) (id : ℕ) (q : QueueState) (at : ℕ)
    → Refuses (λ r q'. HasMoved (record { tasks = if_done r id; from = from; to = to }) q [] q' []) q at
refused from to id q at =
    let same = still from to q [] (at_moment q at) [] (alike q (at_moment q at) refl refl refl) in
    record { already = same; gone = same; bad_mask = same; not_here = still from to q [] q [] (alike q q refl refl refl) }

-- ---- one task goes
-- out of a list in which its id stands once
drops : (i u r r' : ℕ) → r ≤ 1 → 1 ≤ r' → (u ≡ i → r' ≡ r) → cond (eqb u i) 0 r + (cond (eqb i u) 1 0 + 0) ≡ r
drops i u r r' h k e = grind (arith, nat_tests)

dropped_task : (t : TaskRecord) (id : ℕ) (xs : List TaskRecord) → ((u : ℕ) → occurs u (ids xs) ≤ 1)
    → task_with id xs ≡ Some t → (u : ℕ) → occurs u (ids (without_task t.id xs)) + occurs u (t.id ∷ []) ≡ occurs u (ids xs)
dropped_task t id xs one e u =
    let f = found (λ (x : TaskRecord). x.id == id) name xs t e in
    let w = occurs-without name t.id u xs in
    let d = drops t.id u (occurs u (ids xs)) (occurs t.id (ids xs)) (one u) f.there (λ (h : u ≡ t.id). rw h refl) in
    omega arith

dropped_awake : (clock : ℕ) (a : Awake) (id : ℕ) (xs : List Awake) → ((u : ℕ) → occurs u (awake_ids xs) ≤ 1)
    → awake_with id xs ≡ Some a → (u : ℕ) → occurs u (awake_ids (left_by clock a xs)) + occurs u
    (a.task.id ∷ []) ≡ occurs u (awake_ids xs)
dropped_awake clock a id xs one e u =
    let f = found (λ (x : Awake). x.task.id == id) key xs a e in
    let w = left_ids clock a xs u in
    let d = drops a.task.id u (occurs u (awake_ids xs)) (occurs a.task.id (awake_ids xs)) (one u) f.there
    (λ (h : u ≡ a.task.id). rw h refl) in
    omega arith

appended : (clock : ℕ) (a : Awake) (xs : List TaskRecord) (u : ℕ)
    → occurs u (ids (xs ++ set_down clock a ∷ [])) ≡ occurs u (ids xs) + occurs u (a.task.id ∷ [])
appended clock a xs u = occurs-map_append name u xs (set_down clock a ∷ [])
    ∙ ap (λ (i : ℕ). occurs u (ids xs) + occurs u (i ∷ [])) (set_down_keeps clock a)

-- the same with the id by which the task was found
module _ (q : QueueState) (one : AreDistinct q) where
  renamed : (from to : Side) (i id : ℕ) (h : List TaskRecord) (q' : QueueState) (h' : List TaskRecord) → i ≡ id
      → HasMoved (record { tasks = i ∷ []; from = from; to = to }) q h q' h'
      → HasMoved (record { tasks = id ∷ []; from = from; to = to }) q h q' h'
  renamed from to i id h q' h' e m = subst (λ (n : ℕ). HasMoved (record { tasks = n ∷ []; from = from; to = to }) q h q' h') e m

  wakes : (at id : ℕ) (t : TaskRecord) → task_with id q.asleep ≡ Some t
      → HasMoved (record { tasks = t.id ∷ []; from = OnAsleep; to = OnAwake }) q [] (woken t (at_moment q at)) []
  wakes at id t e OnAwake u = let k = joined_ids (clock_at q at) (advanced_task Asleep (clock_at q at) t) q.awake u in omega arith
  wakes at id t e OnAsleep u = let d = dropped_task t id q.asleep one.asleep e u in omega arith
  wakes at id t e OnGone u = refl
  wakes at id t e OnHand u = refl

  sleeps : (at id : ℕ) (a : Awake) → awake_with id q.awake ≡ Some a
      → HasMoved (record { tasks = a.task.id ∷ []; from = OnAwake; to = OnAsleep }) q [] (fallen_asleep a (at_moment q at)) []
  sleeps at id a e OnAwake u = let d = dropped_awake (clock_at q at) a id q.awake one.awake e u in omega arith
  sleeps at id a e OnAsleep u = let d = appended (clock_at q at) a q.asleep u in omega arith
  sleeps at id a e OnGone u = refl
  sleeps at id a e OnHand u = refl

  ends : (at id : ℕ) (a : Awake) → awake_with id q.awake ≡ Some a
      → HasMoved (record { tasks = a.task.id ∷ []; from = OnAwake; to = OnGone }) q [] (ended a (at_moment q at)) []
  ends at id a e OnAwake u = let d = dropped_awake (clock_at q at) a id q.awake one.awake e u in omega arith
  ends at id a e OnAsleep u = refl
  ends at id a e OnGone u = let d = appended (clock_at q at) a q.gone u in omega arith
  ends at id a e OnHand u = refl

  ends_asleep : (at id : ℕ) (t : TaskRecord) → task_with id q.asleep ≡ Some t
      → HasMoved (record { tasks = t.id ∷ []; from = OnAsleep; to = OnGone }) q [] (ended_asleep t (at_moment q at)) []
  ends_asleep at id t e OnAwake u = refl
  ends_asleep at id t e OnAsleep u = let d = dropped_task t id q.asleep one.asleep e u in omega arith
  ends_asleep at id t e OnGone u = let d = occurs-map_append name u q.gone (t ∷ []) in omega arith
  ends_asleep at id t e OnHand u = refl

  -- ---- commands
  wake_moves : (at id : ℕ) → HasMoved (moved_by q (Wake at id)) q [] (wake q at id).1 []
  wake_moves at id = wake_by (λ r q'. HasMoved
      (record { tasks = if_done r id; from = OnAsleep; to = OnAwake }) q [] q' []) q at id
      (refused OnAsleep OnAwake id q at) (λ t e. renamed OnAsleep OnAwake t.id id [] _ [] (task_named id q.asleep t e)
      (wakes at id t e))

  sleep_moves : (at id : ℕ) → HasMoved (moved_by q (Sleep at id)) q [] (sleep q at id).1 []
  sleep_moves at id = sleep_by (λ r q'. HasMoved
      (record { tasks = if_done r id; from = OnAwake; to = OnAsleep }) q [] q' []) q at id
      (refused OnAwake OnAsleep id q at) (λ a e. renamed OnAwake OnAsleep a.task.id id [] _ []
      (awake_named id q.awake a e) (sleeps at id a e))

  exit_moves : (at id : ℕ) → HasMoved (moved_by q (Exit at id)) q [] (exit q at id).1 []
  exit_moves at id =
      exit_by (λ r q'. HasMoved (record {
        tasks = if_done r id;
        from = cond (is_awake q id) OnAwake OnAsleep;
        to = OnGone;
      }) q [] q' []) q at id (refused (cond (is_awake q id) OnAwake OnAsleep) OnGone id q at)
      (λ a e. from_where a.task.id OnAwake (ended a (at_moment q at))
      (ap (λ (o : Option Awake). cond (is_some o) OnAwake OnAsleep) e) (awake_named id q.awake a e) (ends at id a e))
      (λ t n e. from_where t.id OnAsleep (ended_asleep t (at_moment q at))
      (ap (λ (o : Option Awake). cond (is_some o) OnAwake OnAsleep) n) (task_named id q.asleep t e) (ends_asleep at id t e))
    where
      from_where : (i : ℕ) (from : Side) (q' : QueueState) → cond (is_awake q id) OnAwake OnAsleep ≡ from → i ≡ id
          → HasMoved (record { tasks = i ∷ []; from = from; to = OnGone }) q [] q' [] →
          HasMoved (record { tasks = id ∷ []; from = cond (is_awake q id) OnAwake OnAsleep; to = OnGone }) q [] q' []
      from_where i from q' w e m = subst
          (λ (s : Side). HasMoved (record { tasks = id ∷ []; from = s; to = OnGone }) q [] q' []) (sym w)
          (renamed from OnGone i id [] q' [] e m)

  -- a task that is changed stays where it is
  changed : (f : Awake → Awake) (id : ℕ) (q' : QueueState) → ((a : Awake) → key (f a) ≡ key a)
      → q'.awake ≡ changed_awake id f q.awake → q'.asleep ≡ q.asleep → q'.gone ≡ q.gone
      → HasMoved (record { tasks = []; from = OnHand; to = OnAwake }) q [] q' []
  changed f id q' k a b c = still OnHand OnAwake q [] q' [] same
    where
      same : (s : Side) (u : ℕ) → occurs u (standing s q' []) ≡ occurs u (standing s q [])
      same OnAwake u = rw a (changed_awake_ids id f k u q.awake)
      same OnAsleep u = rw b refl
      same OnGone u = rw c refl
      same OnHand u = refl

  changed_asleep : (f : TaskRecord → TaskRecord) (id : ℕ) (q' : QueueState) → ((t : TaskRecord) → name (f t) ≡ name t)
      → q'.awake ≡ q.awake → q'.asleep ≡ changed_task id f q.asleep → q'.gone ≡ q.gone
      → HasMoved (record { tasks = []; from = OnHand; to = OnAwake }) q [] q' []
  changed_asleep f id q' k a b c = still OnHand OnAwake q [] q' [] same
    where
      same : (s : Side) (u : ℕ) → occurs u (standing s q' []) ≡ occurs u (standing s q [])
      same OnAwake u = rw a refl
      same OnAsleep u = rw b (changed_task_ids id f k u q.asleep)
      same OnGone u = rw c refl
      same OnHand u = refl

  unmoved : (q' : QueueState) → q'.awake ≡ q.awake → q'.asleep ≡ q.asleep → q'.gone ≡ q.gone
      → HasMoved (record { tasks = []; from = OnHand; to = OnAwake }) q [] q' []
  unmoved q' a b c = still OnHand OnAwake q [] q' [] (alike q q' a b c)

  refuses : (at : ℕ) → Refuses (λ r q'. HasMoved (record { tasks = []; from = OnHand; to = OnAwake }) q [] q' []) q at
  refuses at = record {
    already = unmoved (at_moment q at) refl refl refl;
    gone = unmoved (at_moment q at) refl refl refl;
    bad_mask = unmoved (at_moment q at) refl refl refl;
    not_here =
        unmoved q refl refl refl;
  }

  mask_moves : (at id : ℕ) (mask : Mask) → HasMoved (record { tasks = []; from = OnHand; to = OnAwake }) q []
      (set_mask q at id mask).1 []
  mask_moves at id mask =
      mask_by (λ r q'. HasMoved (record { tasks = []; from = OnHand; to = OnAwake }) q [] q' []) q at id mask
      (refuses at) (λ good. changed (masked q.cpu mask) id _ (λ a. refl) refl refl refl)
      (λ good. changed_asleep (with_mask mask) id _ (λ t. refl) refl refl refl)

  nice_moves : (at id : ℕ) (nice : ℤ) → HasMoved (record { tasks = []; from = OnHand; to = OnAwake }) q []
      (renice q at id nice).1 []
  nice_moves at id nice = nice_by (λ r q'. HasMoved (record { tasks = []; from = OnHand; to = OnAwake }) q [] q' []) q
      at id nice (refuses at) (changed (reniced nice) id _ (λ a. refl) refl refl refl)
      (changed_asleep (with_nice nice) id _ (λ t. refl) refl refl refl)

  tick_moves : (at : ℕ) → HasMoved (record { tasks = []; from = OnHand; to = OnAwake }) q [] (tick q at) []
  unfolding tick
  tick_moves at = still OnHand OnAwake q [] (tick q at) [] same
    where
      same : (s : Side) (u : ℕ) → occurs u (standing s (tick q at) []) ≡ occurs u (standing s q [])
      same OnAwake u = occurs-map key owes owes_keeps u (rotated (clock_at q at) q.awake) ∙ rotated_ids (clock_at q at)
          u q.awake one.awake
      same OnAsleep u = refl
      same OnGone u = refl
      same OnHand u = refl

  -- ---- tasks that leave
  leave_moves : (at id : ℕ) → HasMoved (record { tasks = ids (leave q at id).0; from = OnAsleep; to = OnHand }) q []
      (leave q at id).1 (leave q at id).0
  leave_moves at id = leave_by (λ ts q'. HasMoved
      (record { tasks = ids ts; from = OnAsleep; to = OnHand }) q [] q' ts) q at id
      (still OnAsleep OnHand q [] (at_moment q at) [] (alike q (at_moment q at) refl refl refl)) goes
    where
      goes : (t : TaskRecord) → task_with id q.asleep ≡ Some t
          → HasMoved (record { tasks = t.id ∷ []; from = OnAsleep; to = OnHand }) q [] (leaves_asleep q at (Some t)).1
          (leaves_asleep q at (Some t)).0
      goes t e OnAwake u = refl
      goes t e OnAsleep u = let d = dropped_task t id q.asleep one.asleep e u in omega arith
      goes t e OnGone u = refl
      goes t e OnHand u = omega arith

  -- the active request is no part of what stands where
  awake_goes : (q1 : QueueState) (at id : ℕ) (a : Awake) → q1.awake ≡ q.awake → q1.asleep ≡ q.asleep
      → q1.gone ≡ q.gone → awake_with id q.awake ≡ Some a →
      HasMoved (record { tasks = ids (leaves_awake q1 at (Some a)).0; from = OnAwake; to = OnHand }) q []
      (leaves_awake q1 at (Some a)).1 (leaves_awake q1 at (Some a)).0
  awake_goes q1 at id a x y z e OnAwake u = let d = dropped_awake (clock_at q1 at) a id q.awake one.awake e u in
      let k = set_down_keeps (clock_at q1 at) a in rw (x, k) (omega arith)
  awake_goes q1 at id a x y z e OnAsleep u = rw y refl
  awake_goes q1 at id a x y z e OnGone u = rw z refl
  awake_goes q1 at id a x y z e OnHand u = omega arith

  stop_moves : (at id : ℕ) → HasMoved (record { tasks = ids (take_stop q at id).0; from = OnAwake; to = OnHand }) q []
      (take_stop q at id).1 (take_stop q at id).0
  stop_moves at id = stop_by (λ ts q'. HasMoved (record { tasks = ids ts; from = OnAwake; to = OnHand }) q [] q' ts) q
      at id (still OnAwake OnHand q [] (at_moment q at) [] (alike q (at_moment q at) refl refl refl))
      (λ a e. awake_goes q at id a refl refl refl e)

  push_moves : (at to : ℕ) → HasMoved (record { tasks = ids (take_push q at to).0; from = OnAwake; to = OnHand }) q []
      (take_push q at to).1 (take_push q at to).0
  push_moves at to =
      push_by (λ ts q'. HasMoved (record { tasks = ids ts; from = OnAwake; to = OnHand }) q [] q' ts) q at to
      (still OnAwake OnHand q [] (at_moment (record q { active = None }) at) []
      (alike q (at_moment (record q { active = None }) at) refl refl refl))
      (λ id a f e. awake_goes (record q { active = None }) at id a refl refl refl e)

  land_moves : (at : ℕ) (cause : OutCause) (moment : ℕ) (tasks : List TaskRecord)
      → HasMoved (record { tasks = ids tasks; from = OnHand; to = OnAwake }) q tasks (land q at cause moment tasks) []
  land_moves at cause moment tasks =
      land_by (λ ts q'. HasMoved (record { tasks = ids ts; from = OnHand; to = OnAwake }) q ts q' []) q at cause
      moment tasks (still OnHand OnAwake q [] (at_moment q (max at moment)) []
      (alike q (at_moment q (max at moment)) refl refl refl))
      (λ t ts e. lands t ts)
    where
      lands : (t : TaskRecord) (ts : List TaskRecord)
          → HasMoved (record { tasks = ids (t ∷ ts); from = OnHand; to = OnAwake }) q (t ∷ ts)
          (landed cause (t ∷ ts) (at_moment q (max at moment))) []
      lands t ts OnAwake u = let k = all_joined_ids (clock_at q (max at moment)) (t ∷ ts) q.awake u in omega arith
      lands t ts OnAsleep u = refl
      lands t ts OnGone u = refl
      lands t ts OnHand u = omega arith

-- ---- a pull
down_ids : (clock : ℕ) (xs : List Awake) → ids (map (set_down clock) xs) ≡ awake_ids xs
down_ids clock [] = refl
down_ids clock (a ∷ xs) = let h = down_ids clock xs in let k = set_down_keeps clock a in rw (k, h) refl

pub taken_ids : (q : QueueState) (at : ℕ) (env : Env) → ids (take_pull q at env).0 ≡ picked_ids env (views q at)
unfolding take_pull views
taken_ids q at env =
    let now = clock_at q at in
    let is = picked_ids env (map (view_at now) q.awake) in
    down_ids now (in_order is q.awake) ∙ in_order_ids is q.awake
    (λ i some. let z = picked_or_kept env now q.awake i in omega arith)

pub left_behind : (q : QueueState) (at : ℕ) (env : Env) → awake_ids (take_pull q at env).1.awake ≡ kept_ids env (views q at)
unfolding take_pull views
left_behind q at env =
    let now = clock_at q at in
    in_order_ids (kept_ids env (map (view_at now) q.awake)) q.awake
    (λ i some. let z = picked_or_kept env now q.awake i in omega arith)

pull_split : (q : QueueState) (at : ℕ) (env : Env) (u : ℕ)
    → occurs u (ids (take_pull q at env).0) + occurs u (awake_ids (take_pull q at env).1.awake) ≡ occurs u (awake_ids q.awake)
unfolding views
pull_split q at env u = let a = ap (occurs u) (taken_ids q at env) in let b = ap (occurs u) (left_behind q at env) in
    let z = picked_or_kept env (clock_at q at) q.awake u in omega arith

pull_moves : (q : QueueState) (at : ℕ) (env : Env)
    → HasMoved (record { tasks = ids (take_pull q at env).0; from = OnAwake; to = OnHand }) q [] (take_pull q at env).1
    (take_pull q at env).0
unfolding take_pull
pull_moves q at env OnAwake u = let s = pull_split q at env u in omega arith
pull_moves q at env OnAsleep u = refl
pull_moves q at env OnGone u = refl
pull_moves q at env OnHand u = omega arith

-- ---- each call
declare_moves : (q : QueueState) (t : TaskRecord)
    → HasMoved (record { tasks = t.id ∷ []; from = OnHand; to = OnAsleep }) q (t ∷ []) (declared t q) []
declare_moves q t OnAwake u = refl
declare_moves q t OnAsleep u = let d = occurs-map_append name u q.asleep (t ∷ []) in omega arith
declare_moves q t OnGone u = refl
declare_moves q t OnHand u = omega arith

turn_moves : (q shut opened : QueueState) (b : Bool)
    → HasMoved (record { tasks = []; from = OnHand; to = OnAwake }) q [] shut []
    → HasMoved (record { tasks = []; from = OnHand; to = OnAwake }) q [] opened []
    → HasMoved (record { tasks = []; from = OnHand; to = OnAwake }) q [] (cond b shut opened) []
turn_moves q shut opened true h k = h
turn_moves q shut opened false h k = k

pub calls_move : (q : QueueState) → AreDistinct q → (c : Call) → HasMoved (moved_by q c) q (brought c) (after_call q c)
    (taken_along q c)
unfolding turn close_look ask_active kick
calls_move q one (Declare id nice mask) = declare_moves q (new_task id nice mask)
calls_move q one (Wake at id) = wake_moves q one at id
calls_move q one (Leave at id to) = leave_moves q one at id
calls_move q one (Sleep at id) = sleep_moves q one at id
calls_move q one (Exit at id) = exit_moves q one at id
calls_move q one (SetMask at id mask) = mask_moves q one at id mask
calls_move q one (Renice at id nice) = nice_moves q one at id nice
calls_move q one (Tick at) = tick_moves q one at
calls_move q one (TakeStop at id to) = stop_moves q one at id
calls_move q one (TakePush at to) = push_moves q one at to
calls_move q one (Take at env) = pull_moves q at env
calls_move q one (Land at cause moment tasks) = land_moves q one at cause moment tasks
calls_move q one (Turn at lane kind version shapes) =
    turn_moves q _ _ (is_some q.open_turn) (unmoved q one _ refl refl refl) (unmoved q one _ refl refl refl)
calls_move q one (CloseLook at shape outcome imb) = unmoved q one _ refl refl refl
calls_move q one (EndTurn at) = unmoved q one _ refl refl refl
calls_move q one (AskActive at to) = unmoved q one _ refl refl refl
calls_move q one (Kick at) = unmoved q one _ refl refl refl
