-- In each form but rest the lane has a serial entry that may be added. A row is answered by the queue that
-- knows its task: where no task is in a hand, there is one.
-- For the lemmas of `Calls` and `Running`, and so for the laws `calls_may_be_made`, `serial_runs` and others.
use Rattle.std.proofs.Common.{cond, ◌≡◌, ℕ, ◌<◌, Bool, true, false, not, ◌==◌, ◌&&◌, ◌||◌, List, [], ◌∷◌, length, map, Option, Some, None, refl, sym, ◌∙◌, ltb, subst, arith, ◌≤◌, max, is_some, is_none, ap, ◌+◌, ◌-◌, find, inl, inr}
use Rattle.std.specs.List.{list_any}
use Rattle.std.specs.Prelude.{unwrap_or}
use Rattle.std.proofs.lemmas.Bool.{and_from, or_parts, eq-eqb, lt-ltb, and_parts, le-ltb, cases_lt, not-true}
use Rattle.std.proofs.Math.Nat.{max-le}
use Rattle.std.proofs.lemmas.List.{get_or_past}
use Rattle.lb_base.specs.declared.shape.Kind.TheVariants.{Tick as TickTurn}
use Rattle.lb_base.specs.declared.mask.Mask.{Mask}
use Rattle.lb_base.specs.Mask.{members}
use Rattle.lb_base.specs.Sets.{least}
use Rattle.lb_imbalance.specs.declared.decision.Decision.{Decision}
use Rattle.lb_imbalance.specs.declared.decision.Decision.TheVariants.{NotMine, Balanced, Pull}
use Rattle.lb_imbalance.specs.Decision.{decision}
use Rattle.lb_trace.specs.declared.trace.Header.{Header}
use Rattle.lb_trace.specs.declared.trace.Command.{Command}
use Rattle.lb_trace.specs.declared.trace.Command.TheVariants.{Wake, Sleep, Exit, SetMask, Nice, Tick, Rebuild}
use Rattle.lb_queue.specs.declared.answers.Reply.TheVariants.{NotHere}
use Rattle.lb_queue.specs.declared.answers.Stop.{Stop}
use Rattle.lb_queue.specs.declared.record.TaskRecord.{TaskRecord}
use Rattle.lb_queue.specs.declared.awake.Awake.{Awake}
use Rattle.lb_queue.specs.Tasks.{ids, awake_ids, occurs, task_with, awake_with}
use Rattle.lb_queue.specs.Queue.{QueueState, away, knows}
use Rattle.lb_queue.specs.Requests.{has_owed, next_stop, ask_active, kick}
use Rattle.lb_queue.specs.Laws.{AskedIsNext}
use Rattle.lb_queue.proofs.Counts.{found_none}
use Rattle.lb_core.specs.declared.course.Course.{Course}
use Rattle.lb_core.specs.declared.course.Form.{Form}
use Rattle.lb_core.specs.declared.entry.FigName.{FigName}
use Rattle.lb_core.specs.declared.entry.What.{What}
use Rattle.lb_core.specs.declared.entry.What.TheVariants.{Adopt, Landed, Turn, Shut, Ask, Kick, Over, Did, Pub}
use Rattle.lb_core.specs.declared.rule.Rule.TheVariants.{Stage, Place as PlaceRule, Reply as ReplyRule, Version, Figure, Decision as DecisionRule, Flight as FlightRule, Counters as CountersRule, Owed}
use Rattle.lb_core.specs.declared.course.Form.TheVariants.{Rest, Flight, Serving, Due, Used, Position, Looked, Landed as LandedForm, Closed, Done, ScanDue, Kicking, Asked, Ended}
use Rattle.lb_core.specs.declared.entry.Owner.TheVariants.{Publisher, Lane, Queue}
use Rattle.lb_core.specs.declared.place.Place.{Place}
use Rattle.lb_core.specs.declared.place.Place.TheVariants.{Awake as AwakeAt, Asleep as AsleepAt, Gone as GoneAt, Hand as HandOf}
use Rattle.lb_core.specs.Same.{same_numbers, same_number, same_kind, same_reply, same_mask, same_place}
use Rattle.lb_core.specs.Course.{named_at, ticked_cpu, is_tick, turn_kind, turn_domain, is_pull, source_of, looks_again, outcome_of, env_by, is_rebuild, task_of}
use Rattle.lb_core.specs.Sight.{by_cpu, tickless_in}
use Rattle.lb_core.specs.Stage.{draws, queue_due, is_owner, is_queue, push_is_due, target_of}
use Rattle.lb_core.specs.Leaving.{out_by, push_out, served_out, pull_out, wake_to}
use Rattle.lb_core.specs.Rules.{figures_due, word_of, positions_due, closed_counters, leaves_instead}
use Rattle.lb_core.specs.Machine.{MachineState, course_at, entries_at, owned_queue, queue_at, figures_named, no_queue, place_at}
use Rattle.lb_core.specs.Elsewhere.{is_rest, stage_at_rest, answered_elsewhere, is_at, task_elsewhere}
use Rattle.lb_core.specs.QueueAfter.{answer_to}
use Rattle.lb_core.specs.Placed.{standing, is_its_place, IsPlaced}
use Rattle.lb_core.specs.Serial.{are_newest}
use Rattle.lb_ready.specs.Ready.{NamesPublished, HasSizes, Names, FitsForm, unnamed}
use Rattle.lb_ready.specs.Next.{cpu_of_place, cpu_of_task, cpu_open, cpu_next, queue_next, bare, newest, look_over, scan_over, close_of, out_of, what_by, is_answerable}
use Rattle.lb_ready.proofs.Counting.{least_found}
use Rattle.lb_core.proofs.Equality.{numbers_itself, number_itself, kind_itself, reply_itself, ask_itself, word_itself, decision_itself, mask_itself}
use Rattle.lb_ready.proofs.Due.{seen, Keeps, or_none, not_not, Draws, Next, draws_by, Knows, stage_by, same, queue_there, out_goes}
use Rattle.lb_ready.proofs.Steps.{known_answers}

-- ---- landings, ends of turns and requests
flight_goes : (m : MachineState) (lane : ℕ) (c : Course) → Knows m c → c.to < length m.header.cpus → Next Flight m lane c
unfolding draws
flight_goes m lane c k lt = record { keeps = keeps; serial = refl; rowless = λ l. refl; nice = refl; lives = refl }
  where
    keeps : Keeps Flight m lane c (Queue c.to) (Landed (ids c.hand))
    keeps Stage = stage_by _ _ _ _ _ (same c.to) refl (queue_there m c.to k.sizes lt) refl refl
    keeps FlightRule = not_not _ (numbers_itself (ids c.hand))
    keeps r = refl

done_goes : (m : MachineState) (lane : ℕ) (c : Course) → Knows m c → Next Done m lane c
unfolding draws
done_goes m lane c k = record { keeps = keeps; serial = refl; rowless = λ l. refl; nice = refl; lives = refl }
  where
    keeps : Keeps Done m lane c (Queue c.cpu) Over
    keeps Stage = stage_by _ _ _ _ _ (same c.cpu) refl (queue_there m c.cpu k.sizes k.says.turned) refl refl
    keeps r = refl

closed_goes : (m : MachineState) (lane : ℕ) (c : Course) → Knows m c → Next Closed m lane c
unfolding draws
closed_goes m lane c k = record { keeps = keeps; serial = refl; rowless = λ l. refl; nice = refl; lives = refl }
  where
    keeps : Keeps Closed m lane c (Queue (source_of c.decision))
        (Ask (ask_active (queue_at m.queues (source_of c.decision)) c.at c.cpu).0)
    keeps Stage = stage_by _ _ _ _ _ (same (source_of c.decision)) refl
        (queue_there m (source_of c.decision) k.sizes k.says.pulled) refl refl
    keeps ReplyRule = not_not _ (ask_itself (ask_active (queue_at m.queues (source_of c.decision)) c.at c.cpu).0)
    keeps r = refl

kicked : (m : MachineState) (lane : ℕ) (c : Course) (t : ℕ) → Knows m c → target_of c ≡ Some t
    → Draws Kicking m lane c t (Kick (kick (queue_at m.queues t) c.at).0)
unfolding draws
kicked m lane c t k e = record { keeps = keeps; serial = refl; rowless = λ l. refl; nice = refl; lives = refl }
  where
    keeps : Keeps Kicking m lane c (Queue t) (Kick (kick (queue_at m.queues t) c.at).0)
    keeps Stage = stage_by (is_queue (Queue t) (target_of c)) (is_some (target_of c)) _ _ _ (rw e (same t))
        (rw e refl) (queue_there m t k.sizes (k.says.tickless t ((least_found (tickless_in c.figures) t e).0))) refl refl
    keeps ReplyRule = not_not _ (ask_itself (kick (queue_at m.queues t) c.at).0)
    keeps r = refl

there_is : (o : Option ℕ) → is_some o ≡ true → (t : ℕ) × (o ≡ Some t)
there_is None h = absurd (let y : ⊥ = cc in y)
there_is (Some t) h = (t, refl)

-- where the course decides the queue
due_cpu : (o : Option ℕ) (cpu other : ℕ) → o ≡ Some cpu → cpu ≡ unwrap_or o other
due_cpu o cpu other e = rw e refl

kicking_goes : (m : MachineState) (lane : ℕ) (c : Course) → Knows m c → is_some (target_of c) ≡ true → Next Kicking m lane c
kicking_goes m lane c k h =
    let t = there_is (target_of c) h in
    let e = due_cpu (target_of c) t.0 (unwrap_or (cpu_open Kicking m c) 0) t.1 in
    subst (λ (cpu : ℕ). Draws Kicking m lane c cpu (Kick (kick (queue_at m.queues cpu) c.at).0)) e (kicked m lane c t.0 k t.1)

-- ---- the answer to a turn
none_some : {A : Type 0} (o : Option A) → is_some o ≡ true → is_none o ≡ false
none_some None h = absurd (let y : ⊥ = cc in y)
none_some (Some x) h = refl

used_goes : (m : MachineState) (lane : ℕ) (c : Course) → Knows m c → Next Used m lane c
unfolding draws
used_goes m lane c k = draws_by Used m lane c c.cpu (is_some (queue_at m.queues c.cpu).open_turn) Shut
    (Turn (positions_due (bare m c (queue_at m.queues c.cpu)))) shuts opens
  where
    shuts : is_some (queue_at m.queues c.cpu).open_turn ≡ true → Draws Used m lane c c.cpu Shut
    shuts e = record { keeps = keeps; serial = refl; rowless = λ l. refl; nice = refl; lives = refl }
      where
        keeps : Keeps Used m lane c (Queue c.cpu) Shut
        keeps Stage = stage_by _ _ _ _ _ (same c.cpu) refl (queue_there m c.cpu k.sizes k.says.turned) refl refl
        keeps ReplyRule = none_some (queue_at m.queues c.cpu).open_turn e
        keeps r = refl

    opens : is_some (queue_at m.queues c.cpu).open_turn ≡ false
        → Draws Used m lane c c.cpu (Turn (positions_due (bare m c (queue_at m.queues c.cpu))))
    opens e = record { keeps = keeps; serial = refl; rowless = λ l. refl; nice = refl; lives = refl }
      where
        keeps : Keeps Used m lane c (Queue c.cpu) (Turn (positions_due (bare m c (queue_at m.queues c.cpu))))
        keeps Stage = stage_by _ _ _ _ _ (same c.cpu) refl (queue_there m c.cpu k.sizes k.says.turned) refl refl
        keeps ReplyRule = e
        keeps CountersRule = not_not _ (mask_itself (positions_due (bare m c (queue_at m.queues c.cpu))))
        keeps r = refl

-- ---- looks and scans
all_newest : (m : MachineState) (cpus : List ℕ) → are_newest m (newest m cpus) ≡ true
all_newest m [] = refl
all_newest m (cpu ∷ cpus) = and_from (entries_at m cpu == entries_at m cpu) _ (same (entries_at m cpu)) (all_newest m cpus)

newest_published : (m : MachineState) (cpus : List ℕ) → list_any (λ n. ltb (entries_at m n.cpu) n.n) (newest m cpus) ≡ false
newest_published m [] = refl
newest_published m (cpu ∷ cpus) = or_none _ _ (le-ltb (entries_at m cpu) (entries_at m cpu) (omega arith))
    (newest_published m cpus)

newest_new : (m : MachineState) (c : Course) (cpus : List ℕ) → ((cpu : ℕ) → named_at c cpu ≤ entries_at m cpu)
    → list_any (λ n. ltb n.n (named_at c n.cpu)) (newest m cpus) ≡ false
newest_new m c [] h = refl
newest_new m c (cpu ∷ cpus) h = or_none _ _ (let k = h cpu in le-ltb (entries_at m cpu) (named_at c cpu) k)
    (newest_new m c cpus h)

newest_cpus : (m : MachineState) (cpus : List ℕ) → map (λ n. n.cpu) (newest m cpus) ≡ cpus
newest_cpus m [] = refl
newest_cpus m (cpu ∷ cpus) = ap (λ (xs : List ℕ). cpu ∷ xs) (newest_cpus m cpus)

-- the figures of these CPUs are named rightly
names_right : (m : MachineState) (c : Course) (cpus due : List ℕ) → due ≡ cpus → NamesPublished m c
    → (not (same_numbers (map (λ n. n.cpu) (newest m cpus)) due) || list_any (λ n. ltb n.n (named_at c n.cpu))
    (newest m cpus)) ≡ false
names_right m c cpus due e k = or_none _ _
    (not_not (same_numbers (map (λ n. n.cpu) (newest m cpus)) due) (rw (newest_cpus m cpus, e) (numbers_itself cpus)))
    (newest_new m c cpus k.figures)

decided_by : MachineState → Course → List FigName → Decision
decided_by m c names = decision (turn_domain m.header c).shape (turn_domain m.header c).groups
    (by_cpu (figures_named m.figures names)) c.cpu (turn_kind c) c.excluded

-- a look, where the form draws one
look_goes : (f : Form) (m : MachineState) (lane : ℕ) (c : Course) (cpus : List ℕ) (cpu : ℕ) → Knows m c
    → members (figures_due f (seen m c (Lane lane) (look_over m c (newest m cpus)))) ≡ cpus →
    draws f m.header c (owned_queue (Lane lane) m) lane (look_over m c (newest m cpus)) ≡ true →
    stage_at_rest f m (Lane lane) (look_over m c (newest m cpus)) ≡ false
    → answered_elsewhere f c m (Lane lane) (look_over m c (newest m cpus)) ≡ false
    → Draws f m lane c cpu (look_over m c (newest m cpus))
unfolding decided_by
look_goes f m lane c cpus cpu k due d r p =
    record { keeps = keeps; serial = all_newest m cpus; rowless = λ l. refl; nice = refl; lives = refl }
  where
    keeps : Keeps f m lane c (Lane lane) (look_over m c (newest m cpus))
    keeps Stage = stage_by _ _ _ _ _ (same lane) d refl r refl
    keeps PlaceRule = p
    keeps Figure = or_none _ _ (names_right m c cpus _ due k.named) (newest_published m cpus)
    keeps DecisionRule = or_none _ _ (or_none _ _ (not_not _ (same c.position)) (not_not _ (mask_itself c.excluded)))
        (not_not _ (decision_itself (decided_by m c (newest m cpus))))
    keeps r = refl

abbrev due_in : Form → MachineState → Course → List ℕ
due_in f m c = members (figures_due f (bare m c (queue_next f m c)))

position_goes : (m : MachineState) (lane : ℕ) (c : Course) → Knows m c → Next Position m lane c
unfolding draws
position_goes m lane c k = look_goes Position m lane c (due_in Position m c) c.cpu k refl refl refl refl

scan_goes : (m : MachineState) (lane : ℕ) (c : Course) → Knows m c → Next ScanDue m lane c
unfolding draws
scan_goes m lane c k = record {
  keeps = keeps;
  serial = all_newest m (due_in ScanDue m c);
  rowless = λ l. refl;
  nice = refl;
  lives = refl;
}
  where
    keeps : Keeps ScanDue m lane c (Lane lane) (scan_over m (newest m (due_in ScanDue m c)))
    keeps Stage = stage_by _ _ _ _ _ (same lane) refl refl refl refl
    keeps Figure = or_none _ _ (names_right m c (due_in ScanDue m c) _ refl k.named) (newest_published m (due_in ScanDue m c))
    keeps DecisionRule = not_not _ (number_itself (least (tickless_in (figures_named m.figures (newest m (due_in ScanDue m c))))))
    keeps r = refl

-- ---- closes
close_goes : (f : Form) (m : MachineState) (lane : ℕ) (c : Course) → Knows m c
    → is_owner (close_of m c (queue_at m.queues c.cpu)) lane (queue_due f c) (Queue c.cpu) ≡ true →
    draws f m.header c (queue_at m.queues c.cpu) lane (close_of m c (queue_at m.queues c.cpu)) ≡ true
    → stage_at_rest f m (Queue c.cpu) (close_of m c (queue_at m.queues c.cpu)) ≡ false →
    answered_elsewhere f c m (Queue c.cpu) (close_of m c (queue_at m.queues c.cpu)) ≡ false
    → Draws f m lane c c.cpu (close_of m c (queue_at m.queues c.cpu))
unfolding closed_counters
close_goes f m lane c k w d r p = record { keeps = keeps; serial = refl; rowless = λ l. refl; nice = refl; lives = refl }
  where
    keeps : Keeps f m lane c (Queue c.cpu) (close_of m c (queue_at m.queues c.cpu))
    keeps Stage = stage_by _ _ _ _ _ w d (queue_there m c.cpu k.sizes k.says.turned) r refl
    keeps PlaceRule = p
    keeps DecisionRule = not_not _ (same c.position)
    keeps CountersRule = or_none _ _ (or_none _ _ (not_not _ (word_itself (word_of (outcome_of m.header c))))
        (not_not _ (same _))) (not_not _ (same _))
    keeps r = refl

landed_goes : (m : MachineState) (lane : ℕ) (c : Course) → Knows m c → Next LandedForm m lane c
unfolding draws
landed_goes m lane c k =
    draws_by LandedForm m lane c c.cpu (looks_again m.header c) _ _
    (λ e. look_goes LandedForm m lane c (due_in LandedForm m c) c.cpu k refl e refl refl)
    (λ e. close_goes LandedForm m lane c k (same c.cpu) (rw e refl) refl refl)

-- ---- versions
most : (a n : ℕ) → a ≤ n → 1 ≤ n → ltb n (max a 1) ≡ false
most a n h k = le-ltb n (max a 1) (max-le h k)

due_goes : (m : MachineState) (lane : ℕ) (c : Course) → Knows m c → same_kind (turn_kind c) TickTurn ≡ false → Next Due m lane c
unfolding draws
due_goes m lane c k n = record {
  keeps = keeps;
  serial = same (length m.versions);
  rowless = λ l. refl;
  nice = refl;
  lives = refl;
}
  where
    keeps : Keeps Due m lane c (Lane lane) (Adopt (length m.versions) (turn_kind c) c.cpu)
    keeps Stage = stage_by _ _ _ _ (same_kind (turn_kind c) TickTurn && push_is_due c (queue_at m.queues c.cpu))
        (same lane) (and_from _ _ (kind_itself (turn_kind c)) (same c.cpu)) refl refl (rw n refl)
    keeps Version = or_none _ _ (most c.named_version (length m.versions) k.named.version k.sizes.versions)
        (le-ltb (length m.versions) (length m.versions) (omega arith))
    keeps Owed = or_none false (same_kind (turn_kind c) TickTurn && has_owed (queue_at m.queues c.cpu)) refl (rw n refl)
    keeps r = refl

-- ---- a pull
pull_there : (d : Option Decision) (h : Header) (c : Course) (at : ℕ) (q : QueueState) → is_pull d ≡ true
    → is_some (pull_out (env_by h c d) at q) ≡ true
pull_there None h c at q p = absurd (let y : ⊥ = cc in y)
pull_there (Some NotMine) h c at q p = absurd (let y : ⊥ = cc in y)
pull_there (Some Balanced) h c at q p = absurd (let y : ⊥ = cc in y)
pull_there (Some (Pull s k i)) h c at q p = refl

-- a take, or a close
abbrev looked_by : MachineState → ℕ → Course → Bool → Type 0
looked_by m lane c b = let cpu = cond b (source_of c.decision) c.cpu in let q = queue_at m.queues cpu in
    Draws Looked m lane c cpu (cond b (out_of (out_by Looked m.header c q)) (close_of m c q))

looked_goes : (m : MachineState) (lane : ℕ) (c : Course) → Knows m c → is_some c.decision ≡ true → Next Looked m lane c
unfolding draws
looked_goes m lane c k some = by_pull (is_pull c.decision) refl
  where
    by_pull : (b : Bool) → is_pull c.decision ≡ b → looked_by m lane c (is_pull c.decision)
    by_pull true e =
        let s = source_of c.decision in
        subst (looked_by m lane c) (sym e)
        (out_goes Looked m lane c s k k.says.pulled
        (pull_there c.decision m.header c c.at (queue_at m.queues s) e) (rw e (same s)) (λ l. e) (λ l. refl) (λ l. refl))
    by_pull false e = subst (looked_by m lane c) (sym e)
        (close_goes Looked m lane c k (rw e (same c.cpu)) (rw (some, e) refl) refl refl)

-- ---- at a tick
active_there : (o : Option ℕ) (at : ℕ) (q : QueueState) → is_some o ≡ true → is_some (push_out o at q) ≡ true
active_there None at q h = absurd (let y : ⊥ = cc in y)
active_there (Some to) at q h = refl

served_there : AskedIsNext → (o : Option Stop) (c : Course) (q : QueueState) → next_stop q true ≡ o
    → (has_owed q || push_is_due c q) ≡ true → is_some (served_out o c.at q) ≡ true
unfolding has_owed
served_there asked (Some s) c q e h = refl
served_there asked None c q e h = active_there q.active c.at q (by_owed (has_owed q) refl h)
  where
    by_owed : (b : Bool) → has_owed q ≡ b → (b || push_is_due c q) ≡ true → is_some q.active ≡ true
    by_owed true o h = let k = asked q true ∙ o in absurd
        (let z : is_some (next_stop q true) ≡ false = rw e refl in let y : ⊥ = cc in y)
    by_owed false o h = (and_parts (is_some q.active) (not c.pushed) h).0

served : (m : MachineState) (lane : ℕ) (c : Course) (cpu : ℕ) → Knows m c → cpu < length m.header.cpus
    → ticked_cpu c.command ≡ Some cpu →
    Draws Serving m lane c cpu (cond (has_owed (queue_at m.queues cpu) || push_is_due c (queue_at m.queues cpu))
    (out_of (out_by Serving m.header c (queue_at m.queues cpu))) (Adopt (length m.versions) TickTurn cpu))
unfolding draws
served m lane c cpu k lt t = draws_by Serving m lane c cpu
    (has_owed (queue_at m.queues cpu) || push_is_due c (queue_at m.queues cpu)) _
    (Adopt (length m.versions) TickTurn cpu) leaves adopts
  where
    leaves : (has_owed (queue_at m.queues cpu) || push_is_due c (queue_at m.queues cpu)) ≡ true
        → Draws Serving m lane c cpu (out_of (out_by Serving m.header c (queue_at m.queues cpu)))
    leaves e =
        let q = queue_at m.queues cpu in
        let drawn : (is_tick c.command && (has_owed q || push_is_due c q)) ≡ true = and_from _ _ (ap is_some t) e in
        out_goes Serving m lane c cpu k lt (served_there k.asked (next_stop q true) c q refl e) (rw t (same cpu))
        (λ l. drawn) (λ l. refl) (λ l. refl)

    adopts : (has_owed (queue_at m.queues cpu) || push_is_due c (queue_at m.queues cpu)) ≡ false
        → Draws Serving m lane c cpu (Adopt (length m.versions) TickTurn cpu)
    adopts e = record { keeps = keeps; serial = same (length m.versions); rowless = λ l. refl; nice = refl; lives = refl }
      where
        keeps : Keeps Serving m lane c (Lane lane) (Adopt (length m.versions) TickTurn cpu)
        keeps Stage =
            let push = (or_parts (has_owed (queue_at m.queues cpu)) _ e).1 in
            stage_by _ (same_number (ticked_cpu c.command) (Some cpu)) _ _ (push_is_due c (queue_at m.queues cpu))
            (same lane) (rw t (same cpu)) refl refl push
        keeps Version = or_none _ _ (most c.named_version (length m.versions) k.named.version k.sizes.versions)
            (le-ltb (length m.versions) (length m.versions) (omega arith))
        keeps Owed = or_none false (has_owed (queue_at m.queues cpu)) refl ((or_parts (has_owed (queue_at m.queues cpu)) _ e).0)
        keeps r = refl

serving_goes : (m : MachineState) (lane : ℕ) (c : Course) → Knows m c → is_tick c.command ≡ true → Next Serving m lane c
serving_goes m lane c k h = by_command c.command refl k.says.names h
  where
    by_command : (command : Option Command) → c.command ≡ command → Names m.header command → is_tick command ≡ true
        → Next Serving m lane c
    by_command (Some (Tick cpu)) e n h =
        let t : ticked_cpu c.command ≡ Some cpu = ap ticked_cpu e in
        subst (λ (o : Option ℕ). let u = unwrap_or o (unwrap_or (cpu_open Serving m c) 0) in let q = queue_at m.queues u in
        Draws Serving m lane c u (cond (has_owed q || push_is_due c q) (out_of (out_by Serving m.header c q))
        (Adopt (length m.versions) TickTurn (unwrap_or o 0)))) (sym t) (served m lane c cpu k n t)
    by_command command e n h = absurd (let y : ⊥ = cc in y)

-- ---- where a task is
known_asleep : (a b g : Bool) → b ≡ true → (a || b || g) ≡ true
known_asleep true b g h = refl
known_asleep false b g h = rw h refl

known_gone : (a b g : Bool) → g ≡ true → (a || b || g) ≡ true
known_gone true b g h = refl
known_gone false true g h = refl
known_gone false false g h = h

-- the queue of the CPU knows the task, and the map has it there
pub record IsKnown (m : MachineState) (t cpu : ℕ) : Type 0 where
  pub there : cpu < length m.header.cpus
  pub place : is_at (place_at m t) (Queue cpu) ≡ true
  pub known : knows (queue_at m.queues cpu) t ≡ true

same_place_itself : (p : Place) → same_place p p ≡ true
same_place_itself (AwakeAt a) = eq-eqb a a refl
same_place_itself (AsleepAt a) = eq-eqb a a refl
same_place_itself (GoneAt a) = eq-eqb a a refl
same_place_itself (HandOf a) = eq-eqb a a refl

pub stands : (m : MachineState) (t : ℕ) (p : Place) → IsPlaced m → t < length m.header.tasks → place_at m t ≡ p
    → 1 ≤ occurs t (standing m p)
stands m t p placed lt e =
    let its : is_its_place m p t ≡ true =
    and_from _ _ (let l = placed.mapped in lt-ltb t (length m.places) (omega arith)) (rw e (same_place_itself p)) in
    let once : occurs t (standing m p) ≡ 1 = placed.once p t ∙ rw its refl in
    omega arith

pub somewhere : {X : Type 0} (f : X → ℕ) (t : ℕ) (xs : List X) → 1 ≤ occurs t (map f xs)
    → is_some (find (λ x. f x == t) xs) ≡ true
somewhere f t xs h = by_test (find (λ x. f x == t) xs) refl
  where
    by_test : (o : Option _) → find (λ x. f x == t) xs ≡ o → is_some o ≡ true
    by_test None e = let z = found_none f t xs e in absurd (omega arith)
    by_test (Some x) e = refl

pub cpu_inside : (m : MachineState) (cpu : ℕ) → HasSizes m → (queue_at m.queues cpu ≡ no_queue → ⊥) → cpu < length m.header.cpus
cpu_inside m cpu sizes n = elim (cases_lt cpu (length m.queues)) [
  | inl lt ↦ let z = sizes.queues in omega arith
  | inr ge ↦ absurd (n (get_or_past m.queues cpu no_queue ge))
]

pub found_at : (m : MachineState) (t cpu : ℕ) → HasSizes m → IsPlaced m → t < length m.header.tasks
    → cpu_of_place (place_at m t) ≡ Some cpu → IsKnown m t cpu
found_at m t cpu sizes placed lt at = by_place (place_at m t) refl at
  where
    by_place : (p : Place) → place_at m t ≡ p → cpu_of_place p ≡ Some cpu → IsKnown m t cpu
    by_place (AwakeAt u) e i =
        let same_cpu : AwakeAt u ≡ AwakeAt cpu = let y : u ≡ cpu = cc in ap AwakeAt y in
        let d = e ∙ same_cpu in
        let o = stands m t (AwakeAt cpu) placed lt d in
        let k = somewhere (λ (a : Awake). a.task.id) t (queue_at m.queues cpu).awake o in
        record {
          there = cpu_inside m cpu sizes
              (λ n. let z : 1 ≤ occurs t (awake_ids no_queue.awake) = rw n at o in absurd (omega arith));
          place =
              rw d (same cpu);
          known = rw k refl;
        }
    by_place (AsleepAt u) e i =
        let same_cpu : AsleepAt u ≡ AsleepAt cpu = let y : u ≡ cpu = cc in ap AsleepAt y in
        let d = e ∙ same_cpu in
        let o = stands m t (AsleepAt cpu) placed lt d in
        let k = somewhere (λ (x : TaskRecord). x.id) t (queue_at m.queues cpu).asleep o in
        record {
          there = cpu_inside m cpu sizes
              (λ n. let z : 1 ≤ occurs t (ids no_queue.asleep) = rw n at o in absurd (omega arith));
          place =
              rw d (same cpu);
          known = known_asleep (is_some (awake_with t (queue_at m.queues cpu).awake)) _ _ k;
        }
    by_place (GoneAt u) e i =
        let same_cpu : GoneAt u ≡ GoneAt cpu = let y : u ≡ cpu = cc in ap GoneAt y in
        let d = e ∙ same_cpu in
        let o = stands m t (GoneAt cpu) placed lt d in
        let k = somewhere (λ (x : TaskRecord). x.id) t (queue_at m.queues cpu).gone o in
        record {
          there = cpu_inside m cpu sizes
              (λ n. let z : 1 ≤ occurs t (ids no_queue.gone) = rw n at o in absurd (omega arith));
          place =
              rw d (same cpu);
          known = known_gone (is_some (awake_with t (queue_at m.queues cpu).awake))
              (is_some (task_with t (queue_at m.queues cpu).asleep)) _ k;
        }
    by_place (HandOf l) e i = absurd (let y : ⊥ = cc in y)

-- where every hand is empty, the map has each declared task at a queue
pub at_a_queue : (m : MachineState) (t : ℕ) → IsPlaced m → ((l : ℕ) → (course_at m.courses l).hand ≡ [])
    → t < length m.header.tasks → is_some (cpu_of_place (place_at m t)) ≡ true
at_a_queue m t placed empty lt = by_place (place_at m t) refl
  where
    by_place : (p : Place) → place_at m t ≡ p → is_some (cpu_of_place p) ≡ true
    by_place (AwakeAt cpu) e = refl
    by_place (AsleepAt cpu) e = refl
    by_place (GoneAt cpu) e = refl
    by_place (HandOf l) e =
        let o = stands m t (HandOf l) placed lt e in
        let z : 1 ≤ occurs t (ids []) = rw (empty l) at o in
        absurd (omega arith)

-- ---- the answer's entry
did_goes : (m : MachineState) (lane : ℕ) (c : Course) (cpu : ℕ) → Knows m c → cpu < length m.header.cpus
    → (is_some c.command && not (is_rebuild c.command)) ≡ true → is_queue (Queue cpu) (ticked_cpu c.command) ≡ true
    → task_elsewhere (task_of c.command) m (Queue cpu) ≡ false →
    leaves_instead c.command (queue_at m.queues cpu) ≡ false
    → same_reply (answer_to c.command c.at (queue_at m.queues cpu)).0 NotHere ≡ false
    → (is_tick c.command && has_owed (queue_at m.queues cpu)) ≡ false
    → Draws Asked m lane c cpu (Did (answer_to c.command c.at (queue_at m.queues cpu)).0)
unfolding draws
did_goes m lane c cpu k lt d w p s n o = record { keeps = keeps; serial = refl; rowless = λ l. refl; nice = refl; lives = refl }
  where
    keeps : Keeps Asked m lane c (Queue cpu) (Did (answer_to c.command c.at (queue_at m.queues cpu)).0)
    keeps Stage = stage_by _ _ _ _ _ w d (queue_there m cpu k.sizes lt) refl refl
    keeps PlaceRule = p
    keeps ReplyRule = or_none _ _ (or_none _ _ s n)
        (not_not _ (reply_itself (answer_to c.command c.at (queue_at m.queues cpu)).0))
    keeps Owed = or_none _ _ o refl
    keeps r = refl

rebuild_goes : (m : MachineState) (lane : ℕ) (c : Course) (cpu : ℕ) → is_rebuild c.command ≡ true
    → Draws Asked m lane c cpu (Pub (length m.versions - 1 + 2))
unfolding draws
rebuild_goes m lane c cpu r = record { keeps = keeps; serial = refl; rowless = λ l. refl; nice = refl; lives = refl }
  where
    keeps : Keeps Asked m lane c Publisher (Pub (length m.versions - 1 + 2))
    keeps Stage = stage_by true _ _ _ _ refl r refl refl refl
    keeps ReplyRule = not_not _ (same (length m.versions - 1 + 2))
    keeps r = refl

-- the queue that knows the task answers, and a wake leaves it or not
told_goes : (m : MachineState) (lane : ℕ) (c : Course) (t cpu : ℕ) → Knows m c → IsKnown m t cpu
    → task_of c.command ≡ Some t → (is_some c.command && not (is_rebuild c.command)) ≡ true → ticked_cpu c.command ≡ None →
    leaves_instead c.command (queue_at m.queues cpu) ≡ false
    → Draws Asked m lane c cpu (Did (answer_to c.command c.at (queue_at m.queues cpu)).0)
told_goes m lane c t cpu k f e d n l =
    did_goes m lane c cpu k f.there d (rw n refl) (rw e (not_not _ f.place)) l
    (known_answers c.command c.at (queue_at m.queues cpu)
    (λ id i. let s : t ≡ id = cc in subst (λ (u : ℕ). knows (queue_at m.queues cpu) u ≡ true) s f.known)) (rw n refl)

away_there : (d : Option ℕ) (at t : ℕ) (q : QueueState) → is_some d ≡ true → is_some (wake_to d at t q) ≡ true
away_there None at t q h = absurd (let y : ⊥ = cc in y)
away_there (Some to) at t q h = refl

wake_goes : (m : MachineState) (lane : ℕ) (c : Course) (t cpu : ℕ) → Knows m c → c.command ≡ Some (Wake t)
    → IsKnown m t cpu → is_some (away (queue_at m.queues cpu) t) ≡ true
    → Draws Asked m lane c cpu (out_of (out_by Asked m.header c (queue_at m.queues cpu)))
unfolding draws
wake_goes m lane c t cpu k e f a =
    out_goes Asked m lane c cpu k f.there
    (rw e (away_there (away (queue_at m.queues cpu) t) c.at t (queue_at m.queues cpu) a)) (rw e refl)
    (λ l. rw e refl) (λ l. refl) (λ l. rw e (not_not _ f.place))

-- the answer that is due at a queue
abbrev answer_at : MachineState → Course → ℕ → What
answer_at m c cpu = what_by Asked m c (queue_at m.queues cpu)

-- of a command on a task: no rebuild, and no tick
record IsOnTask (c : Course) (t : ℕ) : Type 0 where
  task : task_of c.command ≡ Some t
  rebuild : is_rebuild c.command ≡ false
  some : (is_some c.command && not (is_rebuild c.command)) ≡ true
  ticks : ticked_cpu c.command ≡ None

task_goes : (m : MachineState) (lane : ℕ) (c : Course) (t cpu : ℕ) → Knows m c → IsOnTask c t
    → (leaves_instead c.command (queue_at m.queues cpu) ≡ true
    → (c.command ≡ Some (Wake t)) × (is_some (away (queue_at m.queues cpu) t) ≡ true)) →
    IsKnown m t cpu → Draws Asked m lane c cpu (answer_at m c cpu)
task_goes m lane c t cpu k i wakes f =
    draws_by Asked m lane c cpu (is_rebuild c.command) (Pub (length m.versions - 1 + 2)) _ (rebuild_goes m lane c cpu)
    (λ b. draws_by Asked m lane c cpu (leaves_instead c.command (queue_at m.queues cpu)) _ _
    (λ l. let w = wakes l in wake_goes m lane c t cpu k w.0 f w.1)
    (λ l. told_goes m lane c t cpu k f i.task i.some i.ticks l))

tick_goes : (m : MachineState) (lane : ℕ) (c : Course) (cpu : ℕ) → Knows m c → c.command ≡ Some (Tick cpu)
    → cpu < length m.header.cpus → has_owed (queue_at m.queues cpu) ≡ false → Draws Asked m lane c cpu (answer_at m c cpu)
tick_goes m lane c cpu k e n calm =
    draws_by Asked m lane c cpu (is_rebuild c.command) (Pub (length m.versions - 1 + 2)) _ (rebuild_goes m lane c cpu)
    (λ b. draws_by Asked m lane c cpu (leaves_instead c.command (queue_at m.queues cpu)) _ _
    (λ l. absurd (let z : leaves_instead c.command (queue_at m.queues cpu) ≡ false = rw e refl in let y : ⊥ = cc in y))
    (λ l. did_goes m lane c cpu k n (rw e refl) (rw e (same cpu)) (rw e refl) l (rw e refl) (rw (e, calm) refl)))

-- the answer where the task is
abbrev AnswersAt : MachineState → ℕ → Course → Option ℕ → Option ℕ → Type 0
AnswersAt m lane c ticked told = let cpu = unwrap_or ticked (unwrap_or told 0) in Draws Asked m lane c cpu (answer_at m c cpu)

on_task_goes : (m : MachineState) (lane : ℕ) (c : Course) (t : ℕ) → Knows m c → IsPlaced m → IsOnTask c t
    → t < length m.header.tasks → ((q : QueueState) → leaves_instead c.command q ≡ true
    → (c.command ≡ Some (Wake t)) × (is_some (away q t) ≡ true)) →
    is_some (cpu_of_place (place_at m t)) ≡ true → Next Asked m lane c
on_task_goes m lane c t k placed i lt wakes there =
    let cpu = there_is (cpu_of_place (place_at m t)) there in
    let told : cpu_of_task (task_of c.command) m ≡ Some cpu.0 = ap (λ (o : Option ℕ). cpu_of_task o m) i.task ∙ cpu.1 in
    subst (λ (o : Option ℕ). AnswersAt m lane c o (cpu_of_task (task_of c.command) m)) (sym i.ticks)
    (subst (λ (o : Option ℕ). AnswersAt m lane c None o) (sym told)
    (task_goes m lane c t cpu.0 k i (wakes (queue_at m.queues cpu.0)) (found_at m t cpu.0 k.sizes placed lt cpu.1)))

no_tick : (b : Bool) → (false || b || (false && not (has_owed no_queue))) ≡ true → b ≡ true
no_tick true h = refl
no_tick false h = h

asked_goes : (m : MachineState) (lane : ℕ) (c : Course) (command : Option Command) → Knows m c → IsPlaced m
    → c.command ≡ command → Names m.header command → is_some command ≡ true → is_answerable command m ≡ true → Next Asked m lane c
asked_goes m lane c None k placed e n h a = absurd (let y : ⊥ = cc in y)
asked_goes m lane c (Some (Wake t)) k placed e n h a =
    on_task_goes m lane c t k placed (record {
      task = rw e refl;
      rebuild = rw e refl;
      some = rw e refl;
      ticks = rw e refl;
    }) n (λ q l. (e, rw e at l)) (no_tick _ a)
asked_goes m lane c (Some (Sleep t)) k placed e n h a =
    on_task_goes m lane c t k placed (record {
      task = rw e refl;
      rebuild = rw e refl;
      some = rw e refl;
      ticks = rw e refl;
    }) n (λ q l. absurd (let z = rw e at l in let y : ⊥ = cc in y)) (no_tick _ a)
asked_goes m lane c (Some (Exit t)) k placed e n h a =
    on_task_goes m lane c t k placed (record {
      task = rw e refl;
      rebuild = rw e refl;
      some = rw e refl;
      ticks = rw e refl;
    }) n (λ q l. absurd (let z = rw e at l in let y : ⊥ = cc in y)) (no_tick _ a)
asked_goes m lane c (Some (SetMask t mask)) k placed e n h a =
    on_task_goes m lane c t k placed (record {
      task = rw e refl;
      rebuild = rw e refl;
      some = rw e refl;
      ticks = rw e refl;
    }) n (λ q l. absurd (let z = rw e at l in let y : ⊥ = cc in y)) (no_tick _ a)
asked_goes m lane c (Some (Nice t nice)) k placed e n h a =
    on_task_goes m lane c t k placed (record {
      task = rw e refl;
      rebuild = rw e refl;
      some = rw e refl;
      ticks = rw e refl;
    }) n.0 (λ q l. absurd (let z = rw e at l in let y : ⊥ = cc in y)) (no_tick _ a)
asked_goes m lane c (Some (Tick cpu)) k placed e n h a =
    let calm : has_owed (queue_at m.queues cpu) ≡ false = not-true _ a in
    let t : ticked_cpu c.command ≡ Some cpu = ap ticked_cpu e in
    subst (λ (o : Option ℕ). AnswersAt m lane c o (cpu_of_task (task_of c.command) m)) (sym t) (tick_goes m lane c cpu k e n calm)
asked_goes m lane c (Some (Rebuild parts)) k placed e n h a =
    let r : is_rebuild c.command ≡ true = rw e refl in
    subst (λ (b : Bool). let q = queue_next Asked m c in
    Draws Asked m lane c (cpu_next Asked m c) (cond b (Pub (length m.versions - 1 + 2))
    (cond (leaves_instead c.command q) (out_of (out_by Asked m.header c q)) (Did (answer_to c.command c.at q).0)))) (sym r)
    (rebuild_goes m lane c (cpu_next Asked m c) r)

-- ---- by the form
-- the next entry of a lane that does not rest may be drawn, where its command can be answered
pub next_goes : (f : Form) (m : MachineState) (lane : ℕ) (c : Course) → is_rest f ≡ false → Knows m c → IsPlaced m
    → FitsForm false m.header f (unnamed c) → (f ≡ Asked → is_answerable c.command m ≡ true) → Next f m lane c
next_goes Rest m lane c b k placed form can = absurd (let y : ⊥ = cc in y)
next_goes Asked m lane c b k placed form can = asked_goes m lane c c.command k placed refl k.says.names form (can refl)
next_goes Flight m lane c b k placed form can = flight_goes m lane c k form
next_goes Serving m lane c b k placed form can = serving_goes m lane c k form
next_goes Due m lane c b k placed form can = due_goes m lane c k form
next_goes Used m lane c b k placed form can = used_goes m lane c k
next_goes Position m lane c b k placed form can = position_goes m lane c k
next_goes Looked m lane c b k placed form can = looked_goes m lane c k form
next_goes LandedForm m lane c b k placed form can = landed_goes m lane c k
next_goes Closed m lane c b k placed form can = closed_goes m lane c k
next_goes Done m lane c b k placed form can = done_goes m lane c k
next_goes ScanDue m lane c b k placed form can = scan_goes m lane c k
next_goes Kicking m lane c b k placed form can = kicking_goes m lane c k form
next_goes Ended m lane c b k placed form can = absurd (let y : ⊥ = cc in y)
