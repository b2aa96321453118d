-- What a command answers, by the tests that a queue makes.
-- For `Queue::renice`, `Queue::set_mask`, `Queue::declare` and others.
use Rattle.std.proofs.Common.{◌≡◌, ℕ, ℤ, ◌-◌, ◌==◌, ◌||◌, map, find, List, [], ◌∷◌, ◌++◌, Bool, true, false, Option, Some, None, is_some, is_none, max, cond, refl, sym, ◌∙◌, ap, arith}
use Rattle.lb_base.specs.declared.mask.Mask.{Mask}
use Rattle.lb_queue.specs.declared.record.TaskRecord.{TaskRecord}
use Rattle.lb_queue.specs.declared.awake.Awake.{Awake}
use Rattle.lb_queue.specs.declared.answers.Reply.TheVariants.{Done, Already, NotHere, Gone, BadMask}
use Rattle.lb_queue.specs.Tasks.{occurs, task_with, awake_with, without_task, advanced_task, joined, set_down}
use Rattle.lb_queue.specs.Lists.{Lists, down_of, left_of}
use Rattle.lb_pelt.specs.declared.signal.Run.TheVariants.{Asleep}
use Rattle.lb_queue.proofs.Sound.{task_named}
use Rattle.lb_base.specs.Mask.{has}
use Rattle.lb_base.specs.Sets.{least, is_empty}
use Rattle.lb_queue.specs.Queue.{QueueState, at_moment, away, nobody, average_with, knows}
use Rattle.lb_queue.specs.Kept.{stands}
use Rattle.lb_queue.proofs.Counts.{found_none}
use Rattle.lb_queue.proofs.Ids.{key, name}
use Rattle.lb_queue.specs.Commands.{not_here, wakes, wake, sleeps, sleep, exits, exit, sets_mask, set_mask, renices, renice, unless_bad, is_bad_mask, masks_awake, masks_asleep, changed_awake, changed_task, masked, reniced, with_mask, with_nice}

pub gone_here : (q : QueueState) (at : ℕ) (g : Option TaskRecord) → is_some g ≡ true → (Gone, at_moment q at) ≡ not_here q at g
gone_here q at None h = absurd (let z : ⊥ = cc in z)
gone_here q at (Some t) h = refl

pub unknown_here : (q : QueueState) (at : ℕ) (g : Option TaskRecord) → is_some g ≡ false → (NotHere, q) ≡ not_here q at g
unknown_here q at None h = refl
unknown_here q at (Some t) h = absurd (let z : ⊥ = cc in z)

wakes_awake : (q : QueueState) (at : ℕ) (a : Option Awake) (g : Option TaskRecord) → is_some a ≡ true
    → (Already, at_moment q at) ≡ wakes q at None a g
wakes_awake q at None g h = absurd (let z : ⊥ = cc in z)
wakes_awake q at (Some a) g h = refl

wakes_not : (q : QueueState) (at : ℕ) (a : Option Awake) (g : Option TaskRecord) → is_some a ≡ false
    → not_here q at g ≡ wakes q at None a g
wakes_not q at None g h = refl
wakes_not q at (Some a) g h = absurd (let z : ⊥ = cc in z)

pub wake_already : (q : QueueState) (at id : ℕ) → task_with id q.asleep ≡ None
    → is_some (awake_with id q.awake) ≡ true → (Already, at_moment q at) ≡ wake q at id
unfolding wake
wake_already q at id n h = rw n (wakes_awake q at (awake_with id q.awake) (task_with id q.gone) h)

pub wake_unknown : (q : QueueState) (at id : ℕ) → task_with id q.asleep ≡ None
    → is_some (awake_with id q.awake) ≡ false → not_here q at (task_with id q.gone) ≡ wake q at id
unfolding wake
wake_unknown q at id n h = rw n (wakes_not q at (awake_with id q.awake) (task_with id q.gone) h)

pub away_none : (q : QueueState) (id : ℕ) → None ≡ task_with id q.asleep → None ≡ away q id
unfolding away
away_none q id h = rw (← h) refl

pub away_here : (q : QueueState) (id : ℕ) (t : TaskRecord) → Some t ≡ task_with id q.asleep → has t.mask q.cpu ≡ true
    → None ≡ away q id
unfolding away
away_here q id t h e = rw (← h, e) refl

pub away_there : (q : QueueState) (id : ℕ) (t : TaskRecord) → Some t ≡ task_with id q.asleep
    → has t.mask q.cpu ≡ false → least t.mask ≡ away q id
unfolding away
away_there q id t h e = rw (← h, e) refl

-- ---- a state with other lists
abbrev pub of_lists : QueueState → Lists → QueueState
of_lists q l = record q { awake = l.awake; asleep = l.asleep; gone = l.gone }

not_both : (b : Bool) → b ≡ true → b ≡ false → ⊥
not_both true h k = let z : ⊥ = cc in z
not_both false h k = let z : ⊥ = cc in z

here_by : (q : QueueState) (id : ℕ) (t : TaskRecord) (b : Bool) → has t.mask q.cpu ≡ b
    → Some t ≡ task_with id q.asleep → away q id ≡ None → is_empty t.mask ≡ false → has t.mask q.cpu ≡ true
here_by q id t true e f a s = e
here_by q id t false e f a s = let n : least t.mask ≡ None = away_there q id t f e ∙ a in
    absurd (not_both (is_empty t.mask) (ap is_none n) s)

-- a task that need not wake elsewhere may run here
pub wakes_here : (q : QueueState) (id : ℕ) (t : TaskRecord) → Some t ≡ task_with id q.asleep → away q id ≡ None
    → is_empty t.mask ≡ false → has t.mask q.cpu ≡ true
wakes_here q id t f a s = here_by q id t (has t.mask q.cpu) refl f a s

pub wake_done : (q : QueueState) (at id clock avg : ℕ) (t t' : TaskRecord) (l1 l2 l0 : Lists) →
    clock ≡ max q.clock at → Some t ≡ task_with id l0.asleep → l1 ≡ record l0 { asleep = without_task id l0.asleep }
    → t' ≡ advanced_task Asleep clock t → l2 ≡ record l1 { awake = joined clock t' l1.awake } →
    avg ≡ cond (nobody l1.awake) (average_with q.idle_since clock q.avg_idle) q.avg_idle →
    (Done, record (of_lists q l2) { clock = clock; avg_idle = avg; idle_since = None; tickless = false }) ≡ wake
    (of_lists q l0) at id
unfolding wake
wake_done q at id clock avg t t' l1 l2 l0 c f e1 a e2 v =
    let n = task_named id l0.asleep t (sym f) in
    rw (← f, e2, v, e1, a, c, n) refl

-- ---- sleep
sleeps_by : (q : QueueState) (at id clock : ℕ) (o : Option Awake) (t : TaskRecord) (idle : Option ℕ)
    (l1 l2 l0 : Lists) (g : Option TaskRecord) (s : Option TaskRecord) →
    clock ≡ max q.clock at → Some t ≡ down_of clock o → l1 ≡ record l0 { awake = left_of clock o l0.awake }
    → l2 ≡ record l1 { asleep = l1.asleep ++ t ∷ [] } → idle ≡ cond (nobody l2.awake) (Some clock) q.idle_since →
    (Done, record (of_lists q l2) { clock = clock; idle_since = idle }) ≡ sleeps (of_lists q l0) at o s g
sleeps_by q at id clock None t idle l1 l2 l0 g s c f e1 e2 v = absurd (let z : ⊥ = cc in z)
sleeps_by q at id clock (Some a) t idle l1 l2 l0 g s c f e1 e2 v =
    let n : t ≡ set_down clock a = cc in
    rw (v, e2, e1, n, c) refl

pub sleep_done : (q : QueueState) (at id clock : ℕ) (t : TaskRecord) (idle : Option ℕ) (l1 l2 l0 : Lists) →
    clock ≡ max q.clock at → Some t ≡ down_of clock (awake_with id l0.awake)
    → l1 ≡ record l0 { awake = left_of clock (awake_with id l0.awake) l0.awake }
    → l2 ≡ record l1 { asleep = l1.asleep ++ t ∷ [] } → idle ≡ cond (nobody l2.awake) (Some clock) q.idle_since →
    (Done, record (of_lists q l2) { clock = clock; idle_since = idle }) ≡ sleep (of_lists q l0) at id
unfolding sleep
sleep_done q at id clock t idle l1 l2 l0 c f e1 e2 v =
    sleeps_by q at id clock (awake_with id l0.awake) t idle l1 l2 l0 (task_with id l0.gone) (task_with id l0.asleep) c f e1 e2 v

sleeps_asleep : (q : QueueState) (at : ℕ) (s g : Option TaskRecord) → is_some s ≡ true
    → (Already, at_moment q at) ≡ sleeps q at None s g
sleeps_asleep q at None g h = absurd (let z : ⊥ = cc in z)
sleeps_asleep q at (Some a) g h = refl

sleeps_not : (q : QueueState) (at : ℕ) (s g : Option TaskRecord) → is_some s ≡ false → not_here q at g ≡ sleeps q at None s g
sleeps_not q at None g h = refl
sleeps_not q at (Some a) g h = absurd (let z : ⊥ = cc in z)

pub sleep_already : (q : QueueState) (at id : ℕ) → awake_with id q.awake ≡ None
    → is_some (task_with id q.asleep) ≡ true → (Already, at_moment q at) ≡ sleep q at id
unfolding sleep
sleep_already q at id n h = rw n (sleeps_asleep q at (task_with id q.asleep) (task_with id q.gone) h)

pub sleep_unknown : (q : QueueState) (at id : ℕ) → awake_with id q.awake ≡ None
    → is_some (task_with id q.asleep) ≡ false → not_here q at (task_with id q.gone) ≡ sleep q at id
unfolding sleep
sleep_unknown q at id n h = rw n (sleeps_not q at (task_with id q.asleep) (task_with id q.gone) h)

pub not_awake : (clock : ℕ) (o : Option Awake) → None ≡ down_of clock o → o ≡ None
not_awake clock None h = refl
not_awake clock (Some a) h = absurd (let z : ⊥ = cc in z)

-- ---- exit
exits_by : (q : QueueState) (at id clock : ℕ) (o : Option Awake) (t : TaskRecord) (idle : Option ℕ) (l1 l2 l0 : Lists)
    (g : Option TaskRecord) (s : Option TaskRecord) →
    clock ≡ max q.clock at → Some t ≡ down_of clock o → l1 ≡ record l0 { awake = left_of clock o l0.awake }
    → l2 ≡ record l1 { gone = l1.gone ++ t ∷ []; room = l1.room - 1 } → idle ≡ cond (nobody l2.awake) (Some clock) q.idle_since →
    (Done, record (of_lists q l2) { clock = clock; idle_since = idle }) ≡ exits (of_lists q l0) at o s g
exits_by q at id clock None t idle l1 l2 l0 g s c f e1 e2 v = absurd (let z : ⊥ = cc in z)
exits_by q at id clock (Some a) t idle l1 l2 l0 g s c f e1 e2 v =
    let n : t ≡ set_down clock a = cc in
    rw (v, e2, e1, n, c) refl

pub exit_done : (q : QueueState) (at id clock : ℕ) (t : TaskRecord) (idle : Option ℕ) (l1 l2 l0 : Lists) →
    clock ≡ max q.clock at → Some t ≡ down_of clock (awake_with id l0.awake)
    → l1 ≡ record l0 { awake = left_of clock (awake_with id l0.awake) l0.awake }
    → l2 ≡ record l1 { gone = l1.gone ++ t ∷ []; room = l1.room - 1 } → idle ≡ cond (nobody l2.awake) (Some clock) q.idle_since →
    (Done, record (of_lists q l2) { clock = clock; idle_since = idle }) ≡ exit (of_lists q l0) at id
unfolding exit
exit_done q at id clock t idle l1 l2 l0 c f e1 e2 v =
    exits_by q at id clock (awake_with id l0.awake) t idle l1 l2 l0 (task_with id l0.gone) (task_with id l0.asleep) c f e1 e2 v

pub exit_asleep_done : (q : QueueState) (at id clock : ℕ) (t : TaskRecord) (l1 l2 l0 : Lists) →
    clock ≡ max q.clock at → awake_with id l0.awake ≡ None → Some t ≡ task_with id l0.asleep
    → l1 ≡ record l0 { asleep = without_task id l0.asleep } → l2 ≡ record l1 { gone = l1.gone ++ t ∷ []; room = l1.room - 1 } →
    (Done, record (of_lists q l2) { clock = clock }) ≡ exit (of_lists q l0) at id
unfolding exit
exit_asleep_done q at id clock t l1 l2 l0 c n f e1 e2 =
    let m = task_named id l0.asleep t (sym f) in
    rw (n, ← f, e2, e1, c, m) refl

exits_not : (q : QueueState) (at : ℕ) (s g : Option TaskRecord) → s ≡ None → not_here q at g ≡ exits q at None s g
exits_not q at None g h = refl
exits_not q at (Some a) g h = absurd (let z : ⊥ = cc in z)

pub exit_unknown : (q : QueueState) (at id : ℕ) → awake_with id q.awake ≡ None → task_with id q.asleep ≡ None
    → not_here q at (task_with id q.gone) ≡ exit q at id
unfolding exit
exit_unknown q at id n h = rw n (exits_not q at (task_with id q.asleep) (task_with id q.gone) h)

-- ---- a task that is not known
nothing : {X : Type 0} (f : X → ℕ) (id : ℕ) (xs : List X) → is_some (find (λ x. f x == id) xs) ≡ false → occurs id (map f xs) ≡ 0
nothing f id xs h = found_none f id xs (none_of (find (λ x. f x == id) xs) h)
  where
    none_of : {X : Type 0} (o : Option X) → is_some o ≡ false → o ≡ None
    none_of None h = refl
    none_of (Some x) h = absurd (let z : ⊥ = cc in z)

no_or : (a b c : Bool) → (a || b || c) ≡ false → (a ≡ false) × (b ≡ false) × (c ≡ false)
no_or true b c h = absurd (let z : ⊥ = cc in z)
no_or false true c h = absurd (let z : ⊥ = cc in z)
no_or false false c h = (refl, refl, h)

pub unknown_where : (q : QueueState) (id : ℕ) → knows q id ≡ false → stands q.awake q.asleep q.gone id ≡ 0
unknown_where q id h =
    let k = no_or _ _ _ h in
    let a = nothing key id q.awake k.0 in
    let b = nothing name id q.asleep k.1 in
    let d = nothing name id q.gone k.2 in
    omega arith

-- ---- a new mask
masks_by : (q : QueueState) (at id : ℕ) (mask : Mask) (o : Option Awake) (t g : Option TaskRecord) → is_some o ≡ true
    → unless_bad (is_bad_mask q mask) (at_moment q at) (masks_awake id mask (at_moment q at)) ≡ sets_mask q at id mask o t g
masks_by q at id mask None t g h = absurd (let z : ⊥ = cc in z)
masks_by q at id mask (Some a) t g h = refl

masks_asleep_by : (q : QueueState) (at id : ℕ) (mask : Mask) (o : Option Awake) (t g : Option TaskRecord)
    → is_some o ≡ false → is_some t ≡ true → unless_bad (is_bad_mask q mask) (at_moment q at)
    (masks_asleep id mask (at_moment q at)) ≡ sets_mask q at id mask o t g
masks_asleep_by q at id mask (Some a) t g h k = absurd (let z : ⊥ = cc in z)
masks_asleep_by q at id mask None None g h k = absurd (let z : ⊥ = cc in z)
masks_asleep_by q at id mask None (Some t) g h k = refl

pub mask_bad : (q : QueueState) (at id clock : ℕ) (mask : Mask) → is_some (awake_with id q.awake) ≡ true
    → is_bad_mask q mask ≡ true → clock ≡ max q.clock at → (BadMask, record q { clock = clock }) ≡ set_mask q at id mask
unfolding set_mask
mask_bad q at id clock mask a b c = rw c
    (ap (λ (x : Bool). unless_bad x (at_moment q at) (masks_awake id mask (at_moment q at))) (sym b)
    ∙ masks_by q at id mask (awake_with id q.awake) (task_with id q.asleep) (task_with id q.gone) a)

pub mask_good : (q : QueueState) (at id clock : ℕ) (mask : Mask) (l1 l0 : Lists)
    → is_some (awake_with id l0.awake) ≡ true → is_bad_mask q mask ≡ false → clock ≡ max q.clock at → l0.cpu ≡ q.cpu
    → l1 ≡ record l0 { awake = changed_awake id (masked l0.cpu mask) l0.awake } →
    (Done, record (of_lists q l1) { clock = clock }) ≡ set_mask (of_lists q l0) at id mask
unfolding set_mask
mask_good q at id clock mask l1 l0 a b c s e =
    rw (c, e, s) (ap (λ (x : Bool). unless_bad x (at_moment (of_lists q l0) at)
    (masks_awake id mask (at_moment (of_lists q l0) at))) (sym b)
    ∙ masks_by (of_lists q l0) at id mask (awake_with id l0.awake) (task_with id l0.asleep) (task_with id l0.gone) a)

pub mask_bad_asleep : (q : QueueState) (at id clock : ℕ) (mask : Mask) → is_some (awake_with id q.awake) ≡ false
    → is_some (task_with id q.asleep) ≡ true → is_bad_mask q mask ≡ true → clock ≡ max q.clock at
    → (BadMask, record q { clock = clock }) ≡ set_mask q at id mask
unfolding set_mask
mask_bad_asleep q at id clock mask a t b c =
    rw c (ap (λ (x : Bool). unless_bad x (at_moment q at) (masks_asleep id mask (at_moment q at))) (sym b)
    ∙ masks_asleep_by q at id mask (awake_with id q.awake) (task_with id q.asleep) (task_with id q.gone) a t)

pub mask_good_asleep : (q : QueueState) (at id clock : ℕ) (mask : Mask) (l1 l0 : Lists)
    → is_some (awake_with id l0.awake) ≡ false → is_some (task_with id l0.asleep) ≡ true → is_bad_mask q mask ≡ false
    → clock ≡ max q.clock at → l1 ≡ record l0 { asleep = changed_task id (with_mask mask) l0.asleep } →
    (Done, record (of_lists q l1) { clock = clock }) ≡ set_mask (of_lists q l0) at id mask
unfolding set_mask
mask_good_asleep q at id clock mask l1 l0 a t b c e =
    rw (c, e) (ap (λ (x : Bool). unless_bad x (at_moment (of_lists q l0) at)
    (masks_asleep id mask (at_moment (of_lists q l0) at))) (sym b)
    ∙ masks_asleep_by (of_lists q l0) at id mask (awake_with id l0.awake) (task_with id l0.asleep) (task_with id l0.gone) a t)

masks_not : (q : QueueState) (at id : ℕ) (mask : Mask) (o : Option Awake) (t g : Option TaskRecord)
    → is_some o ≡ false → is_some t ≡ false → not_here q at g ≡ sets_mask q at id mask o t g
masks_not q at id mask None None g h k = refl
masks_not q at id mask None (Some t) g h k = absurd (let z : ⊥ = cc in z)
masks_not q at id mask (Some a) t g h k = absurd (let z : ⊥ = cc in z)

pub mask_unknown : (q : QueueState) (at id : ℕ) (mask : Mask) → is_some (awake_with id q.awake) ≡ false
    → is_some (task_with id q.asleep) ≡ false → not_here q at (task_with id q.gone) ≡ set_mask q at id mask
unfolding set_mask
mask_unknown q at id mask h k = masks_not q at id mask (awake_with id q.awake) (task_with id q.asleep) (task_with id q.gone) h k

-- ---- a new nice value
nices_awake : (q : QueueState) (at id : ℕ) (nice : ℤ) (o : Option Awake) (t g : Option TaskRecord) → is_some o ≡ true
    → (Done, record (at_moment q at) { awake = changed_awake id (reniced nice) q.awake }) ≡ renices q at id nice o t g
nices_awake q at id nice None t g h = absurd (let z : ⊥ = cc in z)
nices_awake q at id nice (Some a) t g h = refl

nices_asleep : (q : QueueState) (at id : ℕ) (nice : ℤ) (o : Option Awake) (t g : Option TaskRecord)
    → is_some o ≡ false → is_some t ≡ true → (
      Done,
      record
          (at_moment q at) { asleep = changed_task id (with_nice nice) q.asleep },
    ) ≡ renices q at id nice o t g
nices_asleep q at id nice (Some a) t g h k = absurd (let z : ⊥ = cc in z)
nices_asleep q at id nice None None g h k = absurd (let z : ⊥ = cc in z)
nices_asleep q at id nice None (Some t) g h k = refl

nices_not : (q : QueueState) (at id : ℕ) (nice : ℤ) (o : Option Awake) (t g : Option TaskRecord) → is_some o ≡ false
    → is_some t ≡ false → not_here q at g ≡ renices q at id nice o t g
nices_not q at id nice None None g h k = refl
nices_not q at id nice None (Some t) g h k = absurd (let z : ⊥ = cc in z)
nices_not q at id nice (Some a) t g h k = absurd (let z : ⊥ = cc in z)

pub nice_awake : (q : QueueState) (at id clock : ℕ) (nice : ℤ) (l1 l0 : Lists)
    → is_some (awake_with id l0.awake) ≡ true → clock ≡ max q.clock at
    → l1 ≡ record l0 { awake = changed_awake id (reniced nice) l0.awake } →
    (Done, record (of_lists q l1) { clock = clock }) ≡ renice (of_lists q l0) at id nice
unfolding renice
nice_awake q at id clock nice l1 l0 a c e =
    rw (c, e) (nices_awake (of_lists q l0) at id nice (awake_with id l0.awake) (task_with id l0.asleep) (task_with id l0.gone) a)

pub nice_asleep : (q : QueueState) (at id clock : ℕ) (nice : ℤ) (l1 l0 : Lists)
    → is_some (awake_with id l0.awake) ≡ false → is_some (task_with id l0.asleep) ≡ true → clock ≡ max q.clock at
    → l1 ≡ record l0 { asleep = changed_task id (with_nice nice) l0.asleep } →
    (Done, record (of_lists q l1) { clock = clock }) ≡ renice (of_lists q l0) at id nice
unfolding renice
nice_asleep q at id clock nice l1 l0 a t c e =
    rw (c, e) (nices_asleep (of_lists q l0) at id nice (awake_with id l0.awake) (task_with id l0.asleep)
    (task_with id l0.gone) a t)

pub nice_unknown : (q : QueueState) (at id : ℕ) (nice : ℤ) → is_some (awake_with id q.awake) ≡ false
    → is_some (task_with id q.asleep) ≡ false → not_here q at (task_with id q.gone) ≡ renice q at id nice
unfolding renice
nice_unknown q at id nice h k = nices_not q at id nice (awake_with id q.awake) (task_with id q.asleep) (task_with id q.gone) h k
