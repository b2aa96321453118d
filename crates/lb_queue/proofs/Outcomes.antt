-- What each call can come to: to show something of the state that it leaves, show it of these few.
-- For the lemmas of `Allowed`, `CallsKeep` and other files, and so for the laws `next_stops`, `pulls_follow_picks`
-- and others.
use Rattle.std.proofs.Common.{◌≡◌, ℕ, ℤ, Bool, true, false, max, List, [], ◌∷◌, Option, Some, None, refl}
use Rattle.lb_base.specs.declared.mask.Mask.{Mask}
use Rattle.lb_active.specs.Choice.{pick_of}
use Rattle.lb_queue.specs.declared.record.TaskRecord.{TaskRecord}
use Rattle.lb_queue.specs.declared.awake.Awake.{Awake}
use Rattle.lb_queue.specs.declared.answers.OutCause.{OutCause}
use Rattle.lb_queue.specs.declared.answers.Reply.{Reply}
use Rattle.lb_queue.specs.declared.answers.Reply.TheVariants.{Done, Already, NotHere, Gone, BadMask}
use Rattle.lb_queue.specs.Tasks.{task_with, awake_with}
use Rattle.lb_queue.specs.Queue.{QueueState, at_moment}
use Rattle.lb_queue.specs.Commands.{wakes, wake, woken, sleeps, sleep, fallen_asleep, exits, exit, ended, ended_asleep, sets_mask, set_mask, is_bad_mask, unless_bad, masks_awake, masks_asleep, renices, renice, changed_awake, changed_task, reniced, with_nice}
use Rattle.lb_queue.specs.Hands.{leaves_asleep, leave, leaves_awake, take_stop, awake_named, pushed, take_push, landed, land}
use Rattle.lb_queue.specs.Values.{views}

-- ---- commands
-- refusals: the clock is set, or the queue stays where it does not know the task
pub record Refuses (P : Reply → QueueState → Type 0) (q : QueueState) (at : ℕ) : Type 0 where
  pub already : P Already (at_moment q at)
  pub gone : P Gone (at_moment q at)
  pub bad_mask : P BadMask (at_moment q at)
  pub not_here : P NotHere q

pub wake_by : (P : Reply → QueueState → Type 0) (q : QueueState) (at id : ℕ) → Refuses P q at →
    ((t : TaskRecord) → task_with id q.asleep ≡ Some t → P Done (woken t (at_moment q at))) → P (wake q at id).0 (wake q at id).1
unfolding wake
wake_by P q at id r done = by (task_with id q.asleep) refl (awake_with id q.awake) (task_with id q.gone)
  where
    by : (t : Option TaskRecord) → task_with id q.asleep ≡ t → (a : Option Awake) (g : Option TaskRecord)
        → P (wakes q at t a g).0 (wakes q at t a g).1
    by (Some t) e a g = done t e
    by None e (Some a) g = r.already
    by None e None (Some g) = r.gone
    by None e None None = r.not_here

pub sleep_by : (P : Reply → QueueState → Type 0) (q : QueueState) (at id : ℕ) → Refuses P q at →
    ((a : Awake) → awake_with id q.awake ≡ Some a → P Done (fallen_asleep a (at_moment q at)))
    → P (sleep q at id).0 (sleep q at id).1
unfolding sleep
sleep_by P q at id r done = by (awake_with id q.awake) refl (task_with id q.asleep) (task_with id q.gone)
  where
    by : (a : Option Awake) → awake_with id q.awake ≡ a → (t g : Option TaskRecord) → P (sleeps q at a t g).0
        (sleeps q at a t g).1
    by (Some a) e t g = done a e
    by None e (Some t) g = r.already
    by None e None (Some g) = r.gone
    by None e None None = r.not_here

pub exit_by : (P : Reply → QueueState → Type 0) (q : QueueState) (at id : ℕ) → Refuses P q at
    → ((a : Awake) → awake_with id q.awake ≡ Some a → P Done (ended a (at_moment q at))) →
    ((t : TaskRecord) → awake_with id q.awake ≡ None → task_with id q.asleep ≡ Some t
    → P Done (ended_asleep t (at_moment q at))) → P (exit q at id).0 (exit q at id).1
unfolding exit
exit_by P q at id r awake asleep = by (awake_with id q.awake) refl (task_with id q.asleep) refl (task_with id q.gone)
  where
    by : (a : Option Awake) → awake_with id q.awake ≡ a → (t : Option TaskRecord) → task_with id q.asleep ≡ t
        → (g : Option TaskRecord) → P (exits q at a t g).0 (exits q at a t g).1
    by (Some a) e t f g = awake a e
    by None e (Some t) f g = asleep t e f
    by None e None f (Some g) = r.gone
    by None e None f None = r.not_here

pub mask_by : (P : Reply → QueueState → Type 0) (q : QueueState) (at id : ℕ) (mask : Mask) → Refuses P q at
    → (is_bad_mask q mask ≡ false → P Done (masks_awake id mask (at_moment q at))) →
    (is_bad_mask q mask ≡ false → P Done (masks_asleep id mask (at_moment q at))) → P (set_mask q at id mask).0
    (set_mask q at id mask).1
unfolding set_mask
mask_by P q at id mask r awake asleep = by (awake_with id q.awake) (task_with id q.asleep) (task_with id q.gone)
  where
    unless : (b : Bool) (after : QueueState) → (b ≡ false → P Done after)
        → P (unless_bad b (at_moment q at) after).0 (unless_bad b (at_moment q at) after).1
    unless true after h = r.bad_mask
    unless false after h = h refl

    by : (a : Option Awake) (t g : Option TaskRecord) → P (sets_mask q at id mask a t g).0 (sets_mask q at id mask a t g).1
    by (Some a) t g = unless (is_bad_mask q mask) _ awake
    by None (Some t) g = unless (is_bad_mask q mask) _ asleep
    by None None (Some g) = r.gone
    by None None None = r.not_here

pub nice_by : (P : Reply → QueueState → Type 0) (q : QueueState) (at id : ℕ) (nice : ℤ) → Refuses P q at
    → P Done (record (at_moment q at) { awake = changed_awake id (reniced nice) q.awake }) →
    P Done (record (at_moment q at) { asleep = changed_task id (with_nice nice) q.asleep })
    → P (renice q at id nice).0 (renice q at id nice).1
unfolding renice
nice_by P q at id nice r awake asleep = by (awake_with id q.awake) (task_with id q.asleep) (task_with id q.gone)
  where
    by : (a : Option Awake) (t g : Option TaskRecord) → P (renices q at id nice a t g).0 (renices q at id nice a t g).1
    by (Some a) t g = awake
    by None (Some t) g = asleep
    by None None (Some g) = r.gone
    by None None None = r.not_here

-- ---- tasks that leave
pub leave_by : (P : List TaskRecord → QueueState → Type 0) (q : QueueState) (at id : ℕ) → P [] (at_moment q at) →
    ((t : TaskRecord) → task_with id q.asleep ≡ Some t
    → P (leaves_asleep q at (Some t)).0 (leaves_asleep q at (Some t)).1) → P (leave q at id).0 (leave q at id).1
unfolding leave
leave_by P q at id none one = by (task_with id q.asleep) refl
  where
    by : (t : Option TaskRecord) → task_with id q.asleep ≡ t → P (leaves_asleep q at t).0 (leaves_asleep q at t).1
    by None e = none
    by (Some t) e = one t e

pub stop_by : (P : List TaskRecord → QueueState → Type 0) (q : QueueState) (at id : ℕ) → P [] (at_moment q at) →
    ((a : Awake) → awake_with id q.awake ≡ Some a → P (leaves_awake q at (Some a)).0 (leaves_awake q at (Some a)).1)
    → P (take_stop q at id).0 (take_stop q at id).1
unfolding take_stop
stop_by P q at id none one = by (awake_with id q.awake) refl
  where
    by : (a : Option Awake) → awake_with id q.awake ≡ a → P (leaves_awake q at a).0 (leaves_awake q at a).1
    by None e = none
    by (Some a) e = one a e

-- the active request is gone in both cases
pub push_by : (P : List TaskRecord → QueueState → Type 0) (q : QueueState) (at to : ℕ)
    → P [] (at_moment (record q { active = None }) at) →
    ((id : ℕ) (a : Awake) → pick_of (views q at) to ≡ Some id → awake_with id q.awake ≡ Some a
    → P (leaves_awake (record q { active = None }) at (Some a)).0 (leaves_awake (record q { active = None }) at (Some a)).1) →
    P (take_push q at to).0 (take_push q at to).1
unfolding take_push pushed
push_by P q at to none one = by (pick_of (views q at) to) refl
  where
    found : (id : ℕ) → pick_of (views q at) to ≡ Some id → (a : Option Awake) → awake_with id q.awake ≡ a
        → P (leaves_awake (record q { active = None }) at a).0 (leaves_awake (record q { active = None }) at a).1
    found id f None e = none
    found id f (Some a) e = one id a f e

    by : (o : Option ℕ) → pick_of (views q at) to ≡ o
        → P (leaves_awake (record q { active = None }) at (awake_named o q.awake)).0
        (leaves_awake (record q { active = None }) at (awake_named o q.awake)).1
    by None f = none
    by (Some id) f = found id f (awake_with id q.awake) refl

-- ---- a landing
pub land_by : (P : List TaskRecord → QueueState → Type 0) (q : QueueState) (at : ℕ) (cause : OutCause) (moment : ℕ)
    (tasks : List TaskRecord) → P [] (at_moment q (max at moment)) →
    ((t : TaskRecord) (ts : List TaskRecord) → tasks ≡ t ∷ ts
    → P (t ∷ ts) (landed cause (t ∷ ts) (at_moment q (max at moment)))) → P tasks (land q at cause moment tasks)
unfolding land
land_by P q at cause moment [] none some = none
land_by P q at cause moment (t ∷ ts) none some = some t ts refl
