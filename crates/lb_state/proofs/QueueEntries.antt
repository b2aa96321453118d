-- What the step of an entry of a queue asks, where it may be added to a ready machine: the place of the task
-- that is answered for, the turn that is open, the tasks that land.
-- For the lemmas of `Departures` and `Taking`, and so for the law `steps_may_be_taken`.
use Rattle.std.proofs.Common.{arith, ◌≡◌, ℕ, zero, suc, ◌<◌, ◌≤◌, Bool, true, false, cond, List, [], ◌∷◌, length, ltb, get_or, Option, Some, None, is_some, is_none, refl, sym, ◌∙◌, subst, not}
use Rattle.std.specs.Prelude.{All, IsSome}
use Rattle.std.proofs.lemmas.Bool.{and_parts, ltb-true, eqb-true, eq-eqb, not-false}
use Rattle.lb_queue.specs.declared.answers.Reply.{Reply}
use Rattle.lb_queue.specs.Queue.{QueueState, is_awake}
use Rattle.lb_queue.specs.Turns.{IsOpenAt}
use Rattle.lb_queue.specs.Tasks.{ids, occurs}
use Rattle.lb_trace.specs.declared.trace.Command.{Command}
use Rattle.lb_trace.specs.declared.trace.Command.TheVariants.{Wake, Sleep, Exit, SetMask, Nice, Tick, Rebuild}
use Rattle.lb_trace.specs.declared.trace.Header.{Header}
use Rattle.lb_core.specs.declared.course.Course.{Course}
use Rattle.lb_core.specs.declared.course.Form.{Form}
use Rattle.lb_core.specs.declared.course.Form.TheVariants.{Asked, Used, Looked, Landed as LandedForm, Done}
use Rattle.lb_core.specs.declared.entry.OutcomeWord.{OutcomeWord}
use Rattle.lb_core.specs.declared.entry.Owner.TheVariants.{Queue}
use Rattle.lb_core.specs.declared.entry.What.{What}
use Rattle.lb_core.specs.declared.entry.What.TheVariants.{Did, Landed, Turn, Shut, Close, Over}
use Rattle.lb_core.specs.declared.place.Place.{Place}
use Rattle.lb_core.specs.declared.place.Place.TheVariants.{Awake as AwakeAt, Asleep as AsleepAt, Gone as GoneAt, Hand as HandOf}
use Rattle.lb_core.specs.declared.rule.Rule.TheVariants.{Place as PlaceRule, Flight}
use Rattle.lb_core.specs.Course.{task_of, turn_domain}
use Rattle.lb_core.specs.Asks.{CommandAsks}
use Rattle.lb_core.specs.Elsewhere.{is_at, task_elsewhere, answered_elsewhere}
use Rattle.lb_core.specs.Legal.{MayBeAdded}
use Rattle.lb_core.specs.Machine.{MachineState, course_at, queue_at, place_at, sight}
use Rattle.lb_core.specs.OpenTurns.{IsVersion, IsOpenFor, IsAtPosition, TurnIn}
use Rattle.lb_core.specs.Placed.{IsPlaced, is_its_place, times}
use Rattle.lb_core.specs.Stage.{draws}
use Rattle.lb_core.proofs.Equality.{numbers_same}
use Rattle.lb_core.proofs.Placing.{entry, form_lets}
use Rattle.lb_core.proofs.Unbroken.{unbroken_here, unbroken_elsewhere}
use Rattle.lb_ready.specs.Calls.{TurnAsks, IsOnAt, LandedAsks}
use Rattle.lb_ready.specs.Lanes.{Suits}
use Rattle.lb_ready.specs.Laws.{TasksStand}
use Rattle.lb_ready.specs.Ready.{IsReady, Names}
use Rattle.lb_engine.specs.Asks.{IsMapped, is_awake_place, HasTurn, HasPosition, PullAsks}
use Rattle.lb_engine.specs.Takes.{AnswerAsks, LandedStepAsks, TurnStepAsks, CloseAsks, OverAsks}

abbrev pub opens_or_shuts : What → Bool
opens_or_shuts (Turn ps) = true
opens_or_shuts Shut = true
opens_or_shuts w = false

-- ---- answers
-- a row is answered in one form alone, where the rule of places is asked
answered_here : (f : Form) (h : Header) (c : Course) (q : QueueState) (m : MachineState) (cpu lane : ℕ) (r : Reply)
    → draws f h c q lane (Did r) ≡ true → answered_elsewhere f c m (Queue cpu) (Did r) ≡ false
    → task_elsewhere (task_of c.command) m (Queue cpu) ≡ false
unfolding draws
answered_here Asked h c q m cpu lane r d a = a
answered_here f h c q m cpu lane r d a = absurd (let y : ⊥ = cc in y)

-- the task has a place, which is this queue's
stands_here : TasksStand → (m : MachineState) (cpu t : ℕ) → IsReady m → t < length m.header.tasks
    → not (is_at (place_at m t) (Queue cpu)) ≡ false
    → (t < length m.places) × (is_awake (queue_at m.queues cpu) t ≡ is_awake_place (place_at m t))
stands_here stand m cpu t k lt n = (
  (let l = k.placed.mapped in omega arith),
  by_place (place_at m t) refl
      (not-false _ n) (stand m t k lt),
)
  where
    by_place : (p : Place) → place_at m t ≡ p → is_at p (Queue cpu) ≡ true → IsOnAt m t p
        → is_awake (queue_at m.queues cpu) t ≡ is_awake_place (place_at m t)
    by_place (AwakeAt u) e a s = let same = eqb-true cpu u a in rw (e, same) s.1.awake
    by_place (AsleepAt u) e a s = let same = eqb-true cpu u a in rw (e, same) s.1.awake
    by_place (GoneAt u) e a s = let same = eqb-true cpu u a in rw (e, same) s.1.awake
    by_place (HandOf lane) e a s = absurd (let y : ⊥ = cc in y)

mapped : TasksStand → (m : MachineState) (cpu : ℕ) (command : Option Command) → IsReady m → Names m.header command
    → task_elsewhere (task_of command) m (Queue cpu) ≡ false → IsMapped m (queue_at m.queues cpu) (task_of command)
mapped stand m cpu None k n e = tt
mapped stand m cpu (Some (Wake t)) k n e = stands_here stand m cpu t k n e
mapped stand m cpu (Some (Sleep t)) k n e = stands_here stand m cpu t k n e
mapped stand m cpu (Some (Exit t)) k n e = stands_here stand m cpu t k n e
mapped stand m cpu (Some (SetMask t mask)) k n e = stands_here stand m cpu t k n e
mapped stand m cpu (Some (Nice t nice)) k n e = stands_here stand m cpu t k n.0 e
mapped stand m cpu (Some (Tick u)) k n e = tt
mapped stand m cpu (Some (Rebuild parts)) k n e = tt

pub did_asks : TasksStand → (m : MachineState) (cpu lane prev : ℕ) (r : Reply) → IsReady m
    → MayBeAdded m (entry (Queue cpu) lane prev (Did r))
    → CommandAsks (course_at m.courses lane).command (queue_at m.queues cpu)
    → AnswerAsks m (queue_at m.queues cpu) (course_at m.courses lane)
did_asks stand m cpu lane prev r k h meets =
    let e = entry (Queue cpu) lane prev (Did r) in
    let c = course_at m.courses lane in
    record {
      command = meets;
      mapped = mapped stand m cpu c.command k (k.fits lane).says.names
          (answered_here c.form m.header c (sight m e).queue m cpu lane r (form_lets m e h).1
          (unbroken_elsewhere m e h PlaceRule));
    }

-- ---- turns
has_turn : (m : MachineState) (lane : ℕ) → IsReady m
    → IsVersion m (course_at m.courses lane).version (course_at m.courses lane).masks → HasTurn m (course_at m.courses lane)
has_turn m lane k v = record { version = v; turned = (k.fits lane).says.turned }

in_work : (m : MachineState) (lane : ℕ) → IsReady m → IsAtPosition m lane (course_at m.courses lane)
    → HasPosition m (course_at m.courses lane)
in_work m lane k t = record { turn = has_turn m lane k t.0.taken_up; inside = t.0.inside (course_at m.courses lane).position t.1 }

-- where a pull is due, so is the position
pub pull_asks : (f : Form) (m : MachineState) (lane : ℕ) → IsReady m → TurnIn f m lane (course_at m.courses lane)
    → PullAsks f m (course_at m.courses lane)
pull_asks Looked m lane k t = in_work m lane k t
pull_asks f m lane k t = tt

used_of : (f : Form) (m : MachineState) (lane : ℕ) (q : QueueState) (w : What) → opens_or_shuts w ≡ true
    → draws f m.header (course_at m.courses lane) q lane w ≡ true → TurnIn f m lane (course_at m.courses lane)
    → IsVersion m (course_at m.courses lane).version (course_at m.courses lane).masks
unfolding draws
used_of Used m lane q (Turn ps) o d t = t
used_of Used m lane q Shut o d t = t
used_of f m lane q (Turn ps) o d t = absurd (let y : ⊥ = cc in y)
used_of f m lane q Shut o d t = absurd (let y : ⊥ = cc in y)
used_of f m lane q w o d t = absurd (let y : ⊥ = cc in y)

pub some_not_none : {X : Type 0} (o : Option X) → is_none o ≡ false → is_some o ≡ true
some_not_none None h = absurd (let y : ⊥ = cc in y)
some_not_none (Some x) h = refl

pub turn_asks : (m : MachineState) (cpu lane prev : ℕ) (w : What) (is_open : Bool) → IsReady m
    → opens_or_shuts w ≡ true → MayBeAdded m (entry (Queue cpu) lane prev w)
    → TurnAsks (sight m (entry (Queue cpu) lane prev w)) → is_some (queue_at m.queues cpu).open_turn ≡ is_open →
    TurnStepAsks m (queue_at m.queues cpu) (course_at m.courses lane) is_open
unfolding sight
turn_asks m cpu lane prev w is_open k o h meets there =
    let e = entry (Queue cpu) lane prev w in
    record {
      turn = has_turn m lane k (used_of (course_at m.courses lane).form m lane (sight m e).queue w o (form_lets m e h).1
          (k.turns lane));
      opening = meets;
      open_is = there;
    }

closing_at : (f : Form) (m : MachineState) (lane : ℕ) (q : QueueState) (p i n : ℕ) (w : OutcomeWord)
    → draws f m.header (course_at m.courses lane) q lane (Close p w i n) ≡ true
    → TurnIn f m lane (course_at m.courses lane) → IsAtPosition m lane (course_at m.courses lane)
unfolding draws
closing_at Looked m lane q p i n w d t = t
closing_at LandedForm m lane q p i n w d t = t
closing_at f m lane q p i n w d t = absurd (let y : ⊥ = cc in y)

pub close_asks : (m : MachineState) (cpu lane prev p i n : ℕ) (w : OutcomeWord) → IsReady m
    → Suits m.header (course_at m.courses lane) → MayBeAdded m (entry (Queue cpu) lane prev (Close p w i n)) →
    IsOpenAt (queue_at m.queues cpu).open_turn (turn_domain m.header (course_at m.courses lane)).shape.position
    → CloseAsks m (queue_at m.queues cpu) (course_at m.courses lane)
close_asks m cpu lane prev p i n w k s h there =
    let e = entry (Queue cpu) lane prev (Close p w i n) in
    record {
      work = in_work m lane k (closing_at (course_at m.courses lane).form m lane (sight m e).queue p i n w
          (form_lets m e h).1 (k.turns lane));
      position = s.position;
      open_is = there;
    }

over_in : (f : Form) (m : MachineState) (lane : ℕ) (q : QueueState)
    → draws f m.header (course_at m.courses lane) q lane Over ≡ true → TurnIn f m lane (course_at m.courses lane)
    → IsOpenFor m lane (course_at m.courses lane)
unfolding draws
over_in Done m lane q d t = t
over_in f m lane q d t = absurd (let y : ⊥ = cc in y)

pub over_asks : (m : MachineState) (cpu lane prev : ℕ) → IsReady m → MayBeAdded m (entry (Queue cpu) lane prev Over)
    → IsSome (queue_at m.queues cpu).open_turn → OverAsks m (queue_at m.queues cpu) (course_at m.courses lane)
over_asks m cpu lane prev k h there =
    let e = entry (Queue cpu) lane prev Over in
    record {
      turn = has_turn m lane k (over_in (course_at m.courses lane).form m lane (sight m e).queue
          (form_lets m e h).1 (k.turns lane)).taken_up;
      open_is = there;
    }

-- ---- tasks in a hand
-- whoever stands in a hand is declared
declared : (m : MachineState) (lane t : ℕ) → IsPlaced m → 1 ≤ occurs t (ids (course_at m.courses lane).hand) → t < length m.places
declared m lane t placed h = by_test (is_its_place m (HandOf lane) t) refl (placed.once (HandOf lane) t)
  where
    by_test : (b : Bool) → is_its_place m (HandOf lane) t ≡ b
        → times m (HandOf lane) t ≡ cond {A = ℕ} (is_its_place m (HandOf lane) t) 1 0 → t < length m.places
    by_test true e o = ltb-true t (length m.places) ((and_parts (ltb t (length m.places)) _ e).0)
    by_test false e o = let z : times m (HandOf lane) t ≡ 0 = o ∙ rw e refl in absurd (omega arith)

pub each_declared : (m : MachineState) (lane : ℕ) → IsPlaced m → All (λ t. t < length m.places)
    (ids (course_at m.courses lane).hand)
each_declared m lane placed i d lt = declared m lane (get_or (ids (course_at m.courses lane).hand) i d) placed
    (stands_in (ids (course_at m.courses lane).hand) i d lt)
  where
    stands_in : (ts : List ℕ) (i d : ℕ) → i < length ts → 1 ≤ occurs (get_or ts i d) ts
    stands_in [] i d lt = absurd (omega arith)
    stands_in (t ∷ ts) zero d lt = let same = eq-eqb t t refl in rw same (omega arith)
    stands_in (t ∷ ts) (suc i) d lt = let rest = stands_in ts i d (omega arith) in omega arith

pub landed_asks : (m : MachineState) (cpu lane prev : ℕ) (tasks : List ℕ) → IsReady m → cpu < length m.header.cpus
    → MayBeAdded m (entry (Queue cpu) lane prev (Landed tasks)) → LandedAsks (course_at m.courses lane) (queue_at m.queues cpu) →
    LandedStepAsks m (queue_at m.queues cpu) cpu (course_at m.courses lane) tasks
unfolding sight
landed_asks m cpu lane prev tasks k lt h meets =
    let e = entry (Queue cpu) lane prev (Landed tasks) in
    let c = course_at m.courses lane in
    let same : tasks ≡ ids c.hand = numbers_same tasks (ids c.hand) (not-false _ (unbroken_here m e h Flight)) in
    record {
      hand = meets.landing;
      here = meets.landing.to ∙ (k.queues cpu lt).own;
      source = (let s = (k.fits lane).says.pulled in let n = k.accepted.most_cpus in omega arith);
      places = subst (All (λ t. t < length m.places)) (sym same) (each_declared m lane k.placed);
    }
