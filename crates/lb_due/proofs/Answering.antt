-- What a queue replies to the command of a lane, by the place of the task that the command is about.
-- For `reply_due`.
use Rattle.std.proofs.Common.{◌≡◌, ℕ, ℤ, ◌<◌, ◌||◌, Bool, true, false, not, cond, length, Option, Some, None, is_some, refl, sym, ap, subst}
use Rattle.lb_base.specs.declared.mask.Mask.{Mask}
use Rattle.lb_base.specs.Sets.{is_empty, is_below}
use Rattle.lb_queue.specs.declared.awake.Awake.{Awake}
use Rattle.lb_queue.specs.declared.record.TaskRecord.{TaskRecord}
use Rattle.lb_queue.specs.declared.answers.Reply.{Reply}
use Rattle.lb_queue.specs.declared.answers.Reply.TheVariants.{Done, Already, BadMask, Gone, NotHere}
use Rattle.lb_queue.specs.Tasks.{awake_with, task_with}
use Rattle.lb_queue.specs.Queue.{QueueState}
use Rattle.lb_queue.specs.Commands.{wake, wakes, sleep, sleeps, exit, exits, set_mask, sets_mask, is_bad_mask, renice, renices}
use Rattle.lb_trace.specs.declared.trace.Command.{Command}
use Rattle.lb_trace.specs.declared.trace.Command.TheVariants.{Wake, Sleep, Exit, SetMask, Nice}
use Rattle.lb_core.specs.declared.place.Place.{Place}
use Rattle.lb_core.specs.declared.place.Place.TheVariants.{Awake as AwakeAt, Asleep as AsleepAt, Gone as GoneAt, Hand as HandOf}
use Rattle.lb_core.specs.Machine.{MachineState, queue_at, place_at}
use Rattle.lb_core.specs.QueueAfter.{answer_to}
use Rattle.lb_ready.specs.Ready.{IsReady, Names}
use Rattle.lb_ready.specs.Calls.{IsOnAt}
use Rattle.lb_ready.specs.Laws.{TasksStand}
use Rattle.lb_ready.specs.Next.{cpu_of_place}
use Rattle.lb_due.specs.Replies.{AnswersAt, done_unless_gone}

-- ---- by the list in which a task stands: of the awake, the asleep or the gone
abbrev Tells : Type 0
Tells = Option Awake → Option TaskRecord → Option TaskRecord → Reply

record ByLists (r : Tells) (a s g : Reply) : Type 0 where
  awake : (x : Awake) (y z : Option TaskRecord) → is_some y ≡ false → a ≡ r (Some x) y z
  asleep : (y : TaskRecord) (z : Option TaskRecord) → s ≡ r None (Some y) z
  gone : (z : TaskRecord) → g ≡ r None None (Some z)

when_awake : (r : Tells) (a s g : Reply) → ByLists r a s g → (x : Option Awake) (y z : Option TaskRecord)
    → is_some x ≡ true → is_some y ≡ false → a ≡ r x y z
when_awake r a s g b (Some x) y z h k = b.awake x y z k
when_awake r a s g b None y z h k = absurd (let w : ⊥ = cc in w)

when_asleep : (r : Tells) (a s g : Reply) → ByLists r a s g → (x : Option Awake) (y z : Option TaskRecord)
    → is_some x ≡ false → is_some y ≡ true → s ≡ r x y z
when_asleep r a s g b None (Some y) z h k = b.asleep y z
when_asleep r a s g b None None z h k = absurd (let w : ⊥ = cc in w)
when_asleep r a s g b (Some x) y z h k = absurd (let w : ⊥ = cc in w)

when_gone : (r : Tells) (a s g : Reply) → ByLists r a s g → (x : Option Awake) (y z : Option TaskRecord)
    → is_some x ≡ false → is_some y ≡ false → is_some z ≡ true → g ≡ r x y z
when_gone r a s g b None None (Some z) h k l = b.gone z
when_gone r a s g b None None None h k l = absurd (let w : ⊥ = cc in w)
when_gone r a s g b None (Some y) z h k l = absurd (let w : ⊥ = cc in w)
when_gone r a s g b (Some x) y z h k l = absurd (let w : ⊥ = cc in w)

abbrev pub by_place : Reply → Reply → Reply → Place → Reply
by_place a s g (AwakeAt cpu) = a
by_place a s g (AsleepAt cpu) = s
by_place a s g (GoneAt cpu) = g
by_place a s g (HandOf lane) = NotHere

-- what the queue tells where the map has the task
abbrev told : (QueueState → Tells) → ℕ → QueueState → Reply
told r t q = r q (awake_with t q.awake) (task_with t q.asleep) (task_with t q.gone)

tells : (m : MachineState) (t cpu : ℕ) (r : QueueState → Tells) (a s g : Reply)
    → ((k : ℕ) → k < length m.header.cpus → ByLists (r (queue_at m.queues k)) a s g) →
    (p : Place) → IsOnAt m t p → cpu_of_place p ≡ Some cpu → by_place a s g p ≡ told r t (queue_at m.queues cpu)
tells m t cpu r a s g b (AwakeAt k) h e =
    let i : k ≡ cpu = cc in
    subst (λ (n : ℕ). a ≡ told r t (queue_at m.queues n)) i
    (when_awake (r (queue_at m.queues k)) a s g (b k h.0) _ _ _ h.1.awake h.1.asleep)
tells m t cpu r a s g b (AsleepAt k) h e =
    let i : k ≡ cpu = cc in
    subst (λ (n : ℕ). s ≡ told r t (queue_at m.queues n)) i
    (when_asleep (r (queue_at m.queues k)) a s g (b k h.0) _ _ _ h.1.awake h.1.asleep)
tells m t cpu r a s g b (GoneAt k) h e =
    let i : k ≡ cpu = cc in
    subst (λ (n : ℕ). g ≡ told r t (queue_at m.queues n)) i
    (when_gone (r (queue_at m.queues k)) a s g (b k h.0) _ _ _ h.1.awake h.1.asleep h.1.gone)
tells m t cpu r a s g b (HandOf lane) h e = absurd (let y : ⊥ = cc in y)

-- ---- command by command
wake_lists : (q : QueueState) (at : ℕ) → ByLists (λ x y z. (wakes q at y x z).0) Already Done Gone
wake_lists q at = record { awake = awake; asleep = λ y z. refl; gone = λ z. refl }
  where
    awake : (x : Awake) (y z : Option TaskRecord) → is_some y ≡ false → Already ≡ (wakes q at y (Some x) z).0
    awake x None z h = refl
    awake x (Some y) z h = absurd (let w : ⊥ = cc in w)

sleep_lists : (q : QueueState) (at : ℕ) → ByLists (λ x y z. (sleeps q at x y z).0) Done Already Gone
sleep_lists q at = record { awake = λ x y z h. refl; asleep = λ y z. refl; gone = λ z. refl }

exit_lists : (q : QueueState) (at : ℕ) → ByLists (λ x y z. (exits q at x y z).0) Done Done Gone
exit_lists q at = record { awake = λ x y z h. refl; asleep = λ y z. refl; gone = λ z. refl }

nice_lists : (q : QueueState) (at id : ℕ) (nice : ℤ) → ByLists (λ x y z. (renices q at id nice x y z).0) Done Done Gone
nice_lists q at id nice = record { awake = λ x y z h. refl; asleep = λ y z. refl; gone = λ z. refl }

mask_lists : (q : QueueState) (at id : ℕ) (mask : Mask) (bad : Bool) → is_bad_mask q mask ≡ bad
    → ByLists (λ x y z. (sets_mask q at id mask x y z).0) (cond bad BadMask Done) (cond bad BadMask Done) Gone
mask_lists q at id mask true e = record { awake = λ x y z h. rw e refl; asleep = λ y z. rw e refl; gone = λ z. refl }
mask_lists q at id mask false e = record { awake = λ x y z h. rw e refl; asleep = λ y z. rw e refl; gone = λ z. refl }

unless_gone : (bad : Bool) (p : Place) → by_place (cond bad BadMask Done) (cond bad BadMask Done) Gone p ≡ done_unless_gone p bad
unless_gone bad (AwakeAt cpu) = refl
unless_gone bad (AsleepAt cpu) = refl
unless_gone bad (GoneAt cpu) = refl
unless_gone bad (HandOf lane) = refl

-- ---- what the queue where the task is answers
abbrev pub Says : Option Command → MachineState → Reply → Type 0
Says command m reply = (cpu at : ℕ) → AnswersAt command m cpu → reply ≡ (answer_to command at (queue_at m.queues cpu)).0

pub wake_says : TasksStand → (m : MachineState) → IsReady m → (command : Option Command) (t : ℕ)
    → Names m.header command → command ≡ Some (Wake t) → Says command m (by_place Already Done Gone (place_at m t))
unfolding wake
wake_says stand m r command t names e =
    let on = stand m t r (subst (λ (x : Option Command). Names m.header x) e names) in
    let says : Says (Some (Wake t)) m (by_place Already Done Gone (place_at m t)) =
    λ cpu at a. tells m t cpu (λ q x y z. (wakes q at y x z).0) Already Done Gone
    (λ k lt. wake_lists (queue_at m.queues k) at) (place_at m t) on a in
    subst (λ (x : Option Command). Says x m (by_place Already Done Gone (place_at m t))) (sym e) says

pub sleep_says : TasksStand → (m : MachineState) → IsReady m → (command : Option Command) (t : ℕ)
    → Names m.header command → command ≡ Some (Sleep t) → Says command m (by_place Done Already Gone (place_at m t))
unfolding sleep
sleep_says stand m r command t names e =
    let on = stand m t r (subst (λ (x : Option Command). Names m.header x) e names) in
    let says : Says (Some (Sleep t)) m (by_place Done Already Gone (place_at m t)) =
    λ cpu at a. tells m t cpu (λ q x y z. (sleeps q at x y z).0) Done Already Gone
    (λ k lt. sleep_lists (queue_at m.queues k) at) (place_at m t) on a in
    subst (λ (x : Option Command). Says x m (by_place Done Already Gone (place_at m t))) (sym e) says

pub exit_says : TasksStand → (m : MachineState) → IsReady m → (command : Option Command) (t : ℕ)
    → Names m.header command → command ≡ Some (Exit t) → Says command m (done_unless_gone (place_at m t) false)
unfolding exit
exit_says stand m r command t names e =
    let on = stand m t r (subst (λ (x : Option Command). Names m.header x) e names) in
    let says : Says (Some (Exit t)) m (by_place Done Done Gone (place_at m t)) =
    λ cpu at a. tells m t cpu (λ q x y z. (exits q at x y z).0) Done Done Gone
    (λ k lt. exit_lists (queue_at m.queues k) at) (place_at m t) on a in
    subst (λ (x : Option Command). Says x m (done_unless_gone (place_at m t) false)) (sym e)
    (subst (λ (x : Reply). Says (Some (Exit t)) m x) (unless_gone false (place_at m t)) says)

pub nice_says : TasksStand → (m : MachineState) → IsReady m → (command : Option Command) (t : ℕ) (nice : ℤ)
    → Names m.header command → command ≡ Some (Nice t nice) → Says command m (done_unless_gone (place_at m t) false)
unfolding renice
nice_says stand m r command t nice names e =
    let on = stand m t r (subst (λ (x : Option Command). Names m.header x) e names).0 in
    let says : Says (Some (Nice t nice)) m (by_place Done Done Gone (place_at m t)) =
    λ cpu at a. tells m t cpu (λ q x y z. (renices q at t nice x y z).0) Done Done Gone
    (λ k lt. nice_lists (queue_at m.queues k) at t nice) (place_at m t) on a in
    subst (λ (x : Option Command). Says x m (done_unless_gone (place_at m t) false)) (sym e)
    (subst (λ (x : Reply). Says (Some (Nice t nice)) m x) (unless_gone false (place_at m t)) says)

pub mask_says : TasksStand → (m : MachineState) → IsReady m → (command : Option Command) (t : ℕ) (mask : Mask)
    → Names m.header command → command ≡ Some (SetMask t mask) →
    Says command m (done_unless_gone (place_at m t) (is_empty mask || not (is_below mask (length m.header.cpus))))
unfolding set_mask
mask_says stand m r command t mask names e =
    let bad = is_empty mask || not (is_below mask (length m.header.cpus)) in
    let on = stand m t r (subst (λ (x : Option Command). Names m.header x) e names) in
    let says : Says (Some (SetMask t mask)) m (by_place (cond bad BadMask Done) (cond bad BadMask Done) Gone (place_at m t)) =
    λ cpu at a. tells m t cpu (λ q x y z. (sets_mask q at t mask x y z).0) (cond bad BadMask Done) (cond bad BadMask Done) Gone
    (λ k lt. mask_lists (queue_at m.queues k) at t mask bad
    (ap (λ (n : ℕ). is_empty mask || not (is_below mask n)) (r.queues k lt).machine)) (place_at m t) on a in
    subst (λ (x : Option Command). Says x m (done_unless_gone (place_at m t) bad)) (sym e)
    (subst (λ (x : Reply). Says (Some (SetMask t mask)) m x) (unless_gone bad (place_at m t)) says)
