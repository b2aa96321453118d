-- Stop requests: which steps of a queue ask a task to leave, and which serve a request; and that
-- where a task is asked, one is next.
-- For the lemmas of `Calls`, `Figures` and other files, and so for the laws `calls_may_be_made`, `entries_fall` and
-- others.
use Rattle.std.proofs.Common.{arith, ◌≡◌, ◌≢◌, ℕ, ◌+◌, ◌≤◌, Bool, true, false, not, cond, ◌==◌, ◌&&◌, ◌||◌, List, [], ◌∷◌, find, Option, Some, None, is_some, refl, sym, ◌∙◌, ap}
use Rattle.std.specs.List.{list_all, list_any}
use Rattle.std.proofs.lemmas.Bool.{and_parts, and_from, eqb-true, eq-eqb, ne_eqb, not-false}
use Rattle.lb_trace.specs.declared.trace.Command.{Command}
use Rattle.lb_trace.specs.declared.trace.Command.TheVariants.{SetMask, Tick}
use Rattle.lb_trace.specs.declared.trace.Header.{Header}
use Rattle.lb_queue.specs.declared.awake.Awake.{Awake}
use Rattle.lb_queue.specs.declared.awake.StopRequest.{StopRequest}
use Rattle.lb_queue.specs.declared.awake.StopRequest.TheVariants.{Free, Pending, Owed}
use Rattle.lb_queue.specs.declared.answers.OutCause.{OutCause}
use Rattle.lb_queue.specs.declared.answers.Stop.{Stop}
use Rattle.lb_queue.specs.declared.record.TaskRecord.{TaskRecord}
use Rattle.lb_queue.specs.Tasks.{is_pending, is_owed, awake_with, occurs, ids, awake_ids, set_down}
use Rattle.lb_queue.specs.Queue.{QueueState, clock_at}
use Rattle.lb_queue.specs.Requests.{asks, is_next_asked, next_asked, stop_of, next_stop}
use Rattle.lb_queue.specs.Hands.{take_stop, land, leaves_awake}
use Rattle.lb_queue.specs.Moves.{AreDistinct, OnAwake}
use Rattle.lb_queue.specs.Calls.{TakeStop as TakeStopCall}
use Rattle.lb_queue.proofs.Turned.{found_any}
use Rattle.lb_queue.proofs.Search.{passes_found}
use Rattle.lb_queue.proofs.Counts.{found}
use Rattle.lb_core.specs.declared.course.Course.{Course}
use Rattle.lb_core.specs.declared.course.Form.{Form}
use Rattle.lb_core.specs.declared.place.Place.{Place}
use Rattle.lb_core.specs.declared.place.Place.TheVariants.{Awake as AwakeAt, Asleep as AsleepAt}
use Rattle.lb_core.specs.Leaving.{Leaving, out_by}
use Rattle.lb_core.specs.QueueAfter.{answer_to}
use Rattle.lb_core.specs.Machine.{MachineState, queue_at}
use Rattle.lb_core.specs.Placed.{IsPlaced, times, is_its_place}
use Rattle.lb_ready.specs.Left.{is_asked, asked_count}
use Rattle.lb_ready.proofs.Counting.{count_within, count_more}
use Rattle.lb_ready.proofs.Steps.{not_brought, Test, Passes, Takes, answer_passes, land_passes, out_passes, QueueLaws}

-- ---- a task that is not asked
abbrev free_of : ℕ → Test
free_of u = record {
  up = λ s t. not (t.id == u && is_pending s);
  down = λ t. true;
  lasts = record { leaves = λ s t h. refl; ages_awake = λ s t run clock d h. h; ages = λ t run clock d h. refl };
  joins = λ t h. by_id (t.id == u);
  renices = λ id nice. record { awake = λ s t i h. h; asleep = λ t i h. refl };
}
  where
    by_id : (b : Bool) → not (b && false) ≡ true
    by_id true = refl
    by_id false = refl

pub any_all : {X : Type 0} (p : X → Bool) (xs : List X) → list_any p xs ≡ not (list_all (λ x. not (p x)) xs)
any_all p [] = refl
any_all p (x ∷ xs) = by_test (p x) (any_all p xs)
  where
    by_test : (t : Bool) → list_any p xs ≡ not (list_all (λ x. not (p x)) xs)
        → (t || list_any p xs) ≡ not (not t && list_all (λ x. not (p x)) xs)
    by_test true e = refl
    by_test false e = e

pub all_free : (xs : List TaskRecord) → list_all (λ (x : TaskRecord). true) xs ≡ true
all_free [] = refl
all_free (x ∷ xs) = all_free xs

free_passes : (u : ℕ) (q : QueueState) → is_asked q.awake u ≡ false → Passes (free_of u) q
free_passes u q h = record {
  awake = not-false _
      (sym (any_all (λ a. a.task.id == u && is_pending a.stop) q.awake) ∙ h);
  asleep = all_free q.asleep;
  gone = all_free q.gone;
}

passes_free : (u : ℕ) (q : QueueState) → Passes (free_of u) q → is_asked q.awake u ≡ false
passes_free u q k = any_all (λ a. a.task.id == u && is_pending a.stop) q.awake ∙ ap not k.awake

-- what a step that asks nobody leaves
by_absence : (u : ℕ) (q q' : QueueState) → (Passes (free_of u) q → Passes (free_of u) q') → is_asked q'.awake u ≡ true
    → is_asked q.awake u ≡ true
by_absence u q q' step h = not_brought (is_asked q.awake u) _ (λ e. passes_free u q' (step (free_passes u q e))) h

-- ---- the steps
-- a command asks one task at most
abbrev named_by : Option Command → ℕ
named_by (Some (SetMask id mask)) = id
named_by command = 0

takes_free : (u : ℕ) (q : QueueState) (command : Option Command) → u ≢ named_by command → Takes (free_of u) q command
takes_free u q (Some (SetMask id mask)) n =
    λ good. record {
      awake = λ s t i h. let e : (t.id == u) ≡ false = ne_eqb t.id u (λ e. n (sym e ∙ i)) in rw e refl;
      asleep = λ t i h. refl;
    }
takes_free u q (Some (Tick cpu)) n = λ s t p h. by_id (t.id == u) (is_pending s) p h
  where
    by_id : (a b : Bool) → b ≡ true → not (a && b) ≡ true → not (a && true) ≡ true
    by_id true b e h = let w : not b ≡ true = h in absurd (let y : ⊥ = cc in y)
    by_id false b e h = refl
takes_free u q command n = tt

pub answer_asks : (laws : QueueLaws) (tasks : ℕ) (command : Option Command) (at : ℕ) (q : QueueState)
    → asked_count tasks (answer_to command at q).1 ≤ asked_count tasks q + 1
answer_asks laws tasks command at q = count_more _ (is_asked q.awake) tasks (named_by command)
    (λ u n h. by_absence u q (answer_to command at q).1
    (answer_passes laws (free_of u) command at q (takes_free u q command n)) h)

pub land_asks : (laws : QueueLaws) (tasks at : ℕ) (cause : OutCause) (moment : ℕ) (hand : List TaskRecord)
    (q : QueueState) → asked_count tasks (land q at cause moment hand) ≤ asked_count tasks q
land_asks laws tasks at cause moment hand q =
    count_within _ (is_asked q.awake) tasks (λ u lt h. by_absence u q (land q at cause moment hand)
    (land_passes laws (free_of u) q at cause moment hand (all_free hand)) h)

pub out_asks_nobody : (laws : QueueLaws) (u : ℕ) (f : Form) (h : Header) (c : Course) (q : QueueState) (l : Leaving)
    → out_by f h c q ≡ Some l → is_asked l.rest.awake u ≡ true → is_asked q.awake u ≡ true
out_asks_nobody laws u f h c q l e a = by_absence u q l.rest (λ k. (out_passes laws (free_of u) f h c q l e k).rest) a

pub out_asks : (laws : QueueLaws) (tasks : ℕ) (f : Form) (h : Header) (c : Course) (q : QueueState) (l : Leaving)
    → out_by f h c q ≡ Some l → asked_count tasks l.rest ≤ asked_count tasks q
out_asks laws tasks f h c q l e = count_within _ (is_asked q.awake) tasks (λ u lt a. out_asks_nobody laws u f h c q l e a)

-- ---- a stop serves a request
pub some_found : {X : Type 0} (o : Option X) → is_some o ≡ true → (x : X) × (o ≡ Some x)
some_found None h = absurd (let z : ⊥ = cc in z)
some_found (Some x) h = (x, refl)

-- who is asked is awake
pub asked_there : (xs : List Awake) (u : ℕ) → is_asked xs u ≡ true → 1 ≤ occurs u (awake_ids xs)
asked_there xs u h =
    let a = some_found _ (found_any (λ (a : Awake). a.task.id == u && is_pending a.stop) xs ∙ h) in
    let f = found (λ (a : Awake). a.task.id == u && is_pending a.stop) (λ a. a.task.id) xs a.0 a.1 in
    let n : a.0.task.id ≡ u = eqb-true a.0.task.id u ((and_parts (a.0.task.id == u) _ f.passes).0) in
    rw n at f.there

any_found : {X : Type 0} (p q : X → Bool) (xs : List X) (a : X) → find p xs ≡ Some a → q a ≡ true → is_some (find q xs) ≡ true
any_found p q xs a e h = let b = passes_found p q xs a e h in rw b.1 refl

owed_pending : (s : StopRequest) → is_owed s ≡ true → is_pending s ≡ true
owed_pending Free h = absurd (let z : ⊥ = cc in z)
owed_pending Pending h = refl
owed_pending Owed h = refl

asked_of : (owed : Bool) (a : Awake) → asks owed a ≡ true → is_pending a.stop ≡ true
asked_of true a h = owed_pending a.stop h
asked_of false a h = h

-- the task leaves in the hand
leaves_in_hand : (o : Option Awake) (id at : ℕ) (q : QueueState) → ((a : Awake) → o ≡ Some a → a.task.id ≡ id)
    → is_some o ≡ true → 1 ≤ occurs id (ids (leaves_awake q at o).0)
leaves_in_hand None id at q named h = absurd (let y : ⊥ = cc in y)
leaves_in_hand (Some a) id at q named h = by_run a.running refl
  where
    same : (a.task.id == id) ≡ true
    same = eq-eqb a.task.id id (named a refl)

    by_run : (b : Bool) → a.running ≡ b → 1 ≤ occurs id (ids (set_down (clock_at q at) a ∷ []))
    by_run true e = rw (e, same) (omega arith)
    by_run false e = rw (e, same) (omega arith)

-- and so it is no longer awake
stopped_free : (laws : QueueLaws) (q : QueueState) (id to at : ℕ) → AreDistinct q
    → is_some (awake_with id q.awake) ≡ true → is_asked (take_stop q at id).1.awake id ≡ false
unfolding take_stop
stopped_free laws q id to at distinct some = by_test (is_asked (leaves_awake q at (awake_with id q.awake)).1.awake id) refl
  where
    by_test : (b : Bool) → is_asked (leaves_awake q at (awake_with id q.awake)).1.awake id ≡ b → b ≡ false
    by_test true e =
        let there = asked_there (leaves_awake q at (awake_with id q.awake)).1.awake id e in
        let moved = laws.moves q distinct (TakeStopCall at id to) OnAwake id in
        let hand = leaves_in_hand (awake_with id q.awake) id at q
        (λ a i. eqb-true a.task.id id (found (λ (x : Awake). x.task.id == id) (λ (x : Awake). x.task.id) q.awake a
        i).passes) some in
        let one = distinct.awake id in
        absurd (omega arith)
    by_test false e = refl

-- the next stop is of a task that is asked, and its request is served
pub record IsServed (q : QueueState) (s : Stop) (at : ℕ) : Type 0 where
  pub before : is_asked q.awake s.id ≡ true
  pub after : is_asked (take_stop q at s.id).1.awake s.id ≡ false

served : (laws : QueueLaws) (o : Option Awake) (owed : Bool) (q : QueueState) (s : Stop) (at : ℕ) → AreDistinct q
    → next_asked owed q.awake ≡ o → stop_of o ≡ Some s → IsServed q s at
unfolding next_asked
served laws None owed q s at distinct e h = absurd (let y : ⊥ = cc in y)
served laws (Some a) owed q s at distinct e h =
    let n : a.task.id ≡ s.id = let k : stop_of (Some a) ≡ Some s = h in cc in
    let f = and_parts (asks owed a) _ (found (is_next_asked owed q.awake) (λ a. a.task.id) q.awake a e).passes in
    let named : (a.task.id == s.id) ≡ true = eq-eqb a.task.id s.id n in
    record {
      before = sym (found_any (λ a. a.task.id == s.id && is_pending a.stop) q.awake)
          ∙ any_found (is_next_asked owed q.awake) _ q.awake a e (and_from _ _ named (asked_of owed a f.0));
      after = stopped_free laws q s.id s.to at distinct
          (any_found (is_next_asked owed q.awake) (λ x. x.task.id == s.id) q.awake a e named);
    }

pub next_served : (laws : QueueLaws) (owed : Bool) (q : QueueState) (s : Stop) (at : ℕ) → AreDistinct q
    → next_stop q owed ≡ Some s → IsServed q s at
next_served laws owed q s at distinct h = served laws (next_asked owed q.awake) owed q s at distinct refl h

-- ---- where tasks stand
pub stands_once : (m : MachineState) → IsPlaced m → (place : Place) (t : ℕ) → times m place t ≤ 1
stands_once m placed place t = by_test (is_its_place m place t) (placed.once place t)
  where
    by_test : (b : Bool) → times m place t ≡ cond {A = ℕ} b 1 0 → times m place t ≤ 1
    by_test true e = omega arith
    by_test false e = omega arith

pub distinct : (m : MachineState) (cpu : ℕ) → IsPlaced m → AreDistinct (queue_at m.queues cpu)
distinct m cpu placed = record {
  awake = λ u. stands_once m placed (AwakeAt cpu) u;
  asleep = λ u. stands_once m placed
      (AsleepAt cpu) u;
}
