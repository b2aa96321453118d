-- The entry that comes next, with a choice: an entry that may be added is just that one.
-- For the lemmas of `AfterTake`, `Agreeing` and other files, and so for the laws `choices`, `permitted` and others.
use Rattle.std.proofs.Common.{◌≡◌, ℕ, ◌+◌, ◌-◌, Bool, true, false, not, cond, ◌&&◌, ◌||◌, if◌then◌else◌, eqb, List, [], ◌∷◌, length, map, Option, Some, None, is_some, is_none, unwrap_or, refl, sym, ◌∙◌, ap}
use Rattle.std.proofs.lemmas.Bool.{or_parts, and_parts, not-false, not-true, eqb-true}
use Rattle.lb_base.specs.declared.mask.Mask.{Mask}
use Rattle.lb_base.specs.declared.shape.Kind.{Kind}
use Rattle.lb_base.specs.declared.shape.Kind.TheVariants.{Tick as TickTurn}
use Rattle.lb_base.specs.Mask.{members}
use Rattle.lb_base.specs.Sets.{least}
use Rattle.lb_imbalance.specs.declared.decision.Decision.{Decision}
use Rattle.lb_imbalance.specs.Decision.{decision}
use Rattle.lb_queue.specs.declared.answers.OutCause.{OutCause}
use Rattle.lb_queue.specs.Tasks.{ids}
use Rattle.lb_queue.specs.Queue.{QueueState, away}
use Rattle.lb_queue.specs.Requests.{has_owed, ask_active, kick}
use Rattle.lb_trace.specs.declared.trace.Command.{Command}
use Rattle.lb_trace.specs.declared.trace.Command.TheVariants.{Wake, Sleep, Exit, SetMask, Nice, Tick, Rebuild}
use Rattle.lb_core.specs.declared.course.Course.{Course}
use Rattle.lb_core.specs.declared.course.Form.{Form}
use Rattle.lb_core.specs.declared.course.Form.TheVariants.{Rest, Asked, Flight, Serving, Due, Used, Position, Looked, Landed as LandedForm, Closed, Done, ScanDue, Kicking, Ended}
use Rattle.lb_core.specs.declared.place.Place.{Place}
use Rattle.lb_core.specs.declared.place.Place.TheVariants.{Awake as AwakeAt, Asleep as AsleepAt, Gone as GoneAt, Hand as HandOf}
use Rattle.lb_core.specs.declared.rule.Rule.TheVariants.{Stage, Row as RowRule, Place as PlaceRule, Reply as ReplyRule, Figure, Decision as DecisionRule, Pick, Flight as FlightRule, Counters as CountersRule, Owed, End as EndRule}
use Rattle.lb_core.specs.declared.entry.FigName.{FigName}
use Rattle.lb_core.specs.declared.entry.OutcomeWord.{OutcomeWord}
use Rattle.lb_core.specs.declared.entry.Owner.{Owner}
use Rattle.lb_core.specs.declared.entry.Owner.TheVariants.{Publisher, Lane, Queue}
use Rattle.lb_core.specs.declared.entry.What.{What}
use Rattle.lb_core.specs.declared.entry.What.TheVariants.{Row, Adopt, Look, Scan, End, Did, Out, Landed, Turn, Shut, Close, Ask, Kick, Over, Pub}
use Rattle.lb_core.specs.declared.entry.Entry.{Entry}
use Rattle.lb_core.specs.Same.{same_numbers, same_kind}
use Rattle.lb_core.specs.Course.{ticked_cpu, is_tick, is_wake, is_rebuild, task_of, turn_kind, turn_domain, is_pull, looks_again, outcome_of}
use Rattle.lb_core.specs.Sight.{Sight, by_cpu, tickless_in}
use Rattle.lb_core.specs.Stage.{push_is_due, target_of, is_settled, draws, queue_due, is_queue, is_owner, stage_allows, waits_for_push, waits_for_stop}
use Rattle.lb_core.specs.Leaving.{Leaving, wake_to, wake_out, leaving, out_by}
use Rattle.lb_core.specs.Rules.{breaks_row, leaves_instead, breaks_reply, figures_due, breaks_figure, breaks_decision, is_other_out, breaks_pick, breaks_flight, word_of, positions_due, closed_counters, breaks_counters}
use Rattle.lb_core.specs.QueueAfter.{answer_to}
use Rattle.lb_core.specs.Machine.{MachineState, queue_at, course_at, place_at, owned_queue, owned_count, figures_named, masks_for, figs_for, sight}
use Rattle.lb_core.specs.Elsewhere.{first_pending, is_first_pending, all_rest, stage_at_rest, stage_of_use, is_at, task_elsewhere, answered_elsewhere, owed_elsewhere, unserved, end_is_wrong}
use Rattle.lb_core.specs.Legal.{MayBeAdded}
use Rattle.lb_core.proofs.Equality.{mask_is, lane_is, queue_is, publisher_is, kind_is, ask_is, cause_is, word_is, decision_is, number_is, numbers_same, reply_is}
use Rattle.lb_core.proofs.Unbroken.{unbroken_here, unbroken_elsewhere}

-- ---- what an entry chooses
pub data Choice : Type 0 where
  ItsRow : ℕ → Command → Choice
  ItsVersion : ℕ → Choice
  ItsFigures : List ℕ → Choice
  Nothing : Choice

abbrev pub choice_of : What → Choice
choice_of (Row n at command) = ItsRow at command
choice_of (Adopt v k cpu) = ItsVersion v
choice_of (Look p x names d) = ItsFigures (map (λ f. f.n) names)
choice_of (Scan names t) = ItsFigures (map (λ f. f.n) names)
choice_of w = Nothing

-- ---- the entry that comes next, with a choice
pub cpu_of_place : Place → ℕ
cpu_of_place (AwakeAt cpu) = cpu
cpu_of_place (AsleepAt cpu) = cpu
cpu_of_place (GoneAt cpu) = cpu
cpu_of_place (HandOf lane) = 0

pub task_cpu : Option ℕ → MachineState → ℕ
task_cpu None m = 0
task_cpu (Some t) m = cpu_of_place (place_at m t)

abbrev pub cpu_else : Form → MachineState → Course → ℕ
cpu_else Rest m c = unwrap_or (first_pending m) 0
cpu_else f m c = task_cpu (task_of c.command) m

-- the CPU whose queue draws next
abbrev pub cpu_next : Form → MachineState → Course → ℕ
cpu_next f m c = unwrap_or (queue_due f c) (cpu_else f m c)

abbrev pub queue_next : Form → MachineState → Course → QueueState
queue_next f m c = queue_at m.queues (cpu_next f m c)

abbrev pub owner_next : What → ℕ → ℕ → Owner
owner_next (Row n at command) lane cpu = Lane lane
owner_next (Adopt v k u) lane cpu = Lane lane
owner_next (Look p x fs d) lane cpu = Lane lane
owner_next (Scan fs t) lane cpu = Lane lane
owner_next (End u) lane cpu = Lane lane
owner_next (Pub v) lane cpu = Publisher
owner_next w lane cpu = Queue cpu

abbrev pub out_of : Option Leaving → What
out_of None = Over
out_of (Some l) = Out l.cause l.to (ids l.hand)

abbrev pub version_of : Choice → ℕ
version_of (ItsVersion v) = v
version_of none = 0

abbrev pub numbers_of : Choice → List ℕ
numbers_of (ItsFigures ns) = ns
numbers_of none = []

abbrev pub named_by : List ℕ → List ℕ → List FigName
named_by (k ∷ ks) (n ∷ ns) = record { cpu = k; n = n } ∷ named_by ks ns
named_by ks ns = []

-- what a step reads, without what is named
abbrev pub bare : MachineState → Course → QueueState → Sight
bare m c q = record { header = m.header; course = c; queue = q; count = 0; masks = []; figs = [] }

abbrev pub look_of : Form → MachineState → Course → List ℕ → What
look_of f m c ns =
    let names : List FigName = named_by (members (figures_due f (bare m c (queue_next f m c)))) ns in
    Look c.position c.excluded names
    (decision (turn_domain m.header c).shape (turn_domain m.header c).groups
    (by_cpu (figures_named m.figures names)) c.cpu (turn_kind c) c.excluded)

abbrev pub scan_of : Form → MachineState → Course → List ℕ → What
scan_of f m c ns =
    let names : List FigName = named_by (members (figures_due f (bare m c (queue_next f m c)))) ns in
    Scan names (least (tickless_in (figures_named m.figures names)))

abbrev pub close_of : MachineState → Course → QueueState → What
close_of m c q =
    let s : Sight = bare m c q in
    Close c.position (word_of (outcome_of m.header c)) (closed_counters s).interval (closed_counters s).failures

abbrev pub row_or : Choice → ℕ → What → What
row_or (ItsRow at command) n w = Row n at command
row_or other n w = w

abbrev pub what_next : Form → MachineState → Course → QueueState → Choice → What
what_next Rest m c q chosen = row_or chosen (c.rows + 1)
    (cond (is_some (first_pending m)) (out_of (out_by Rest m.header c q)) (End (unserved m)))
what_next Asked m c q chosen =
    cond (is_rebuild c.command) (Pub (length m.versions - 1 + 2))
    (cond (leaves_instead c.command q) (out_of (out_by Asked m.header c q)) (Did (answer_to c.command c.at q).0))
what_next Flight m c q chosen = Landed (ids c.hand)
what_next Serving m c q chosen = cond (has_owed q || push_is_due c q) (out_of (out_by Serving m.header c q))
    (Adopt (version_of chosen) TickTurn (unwrap_or (ticked_cpu c.command) 0))
what_next Due m c q chosen = Adopt (version_of chosen) (turn_kind c) c.cpu
what_next Used m c q chosen = cond (is_some q.open_turn) Shut (Turn (positions_due (bare m c q)))
what_next Position m c q chosen = look_of Position m c (numbers_of chosen)
what_next Looked m c q chosen = cond (is_pull c.decision) (out_of (out_by Looked m.header c q)) (close_of m c q)
what_next LandedForm m c q chosen = cond (looks_again m.header c) (look_of LandedForm m c (numbers_of chosen)) (close_of m c q)
what_next Closed m c q chosen = Ask (ask_active q c.at c.cpu).0
what_next Done m c q chosen = Over
what_next ScanDue m c q chosen = scan_of ScanDue m c (numbers_of chosen)
what_next Kicking m c q chosen = Kick (kick q c.at).0
what_next Ended m c q chosen = Over

record IsNext (f : Form) (m : MachineState) (lane : ℕ) (c : Course) (o : Owner) (w : What) : Type 0 where
  owner : o ≡ owner_next w lane (cpu_next f m c)
  what : w ≡ what_next f m c (queue_next f m c) (choice_of w)

-- ---- what is known of an entry that may be added
abbrev sight_of : MachineState → Course → Owner → What → Sight
sight_of m c o w =
    record {
      header = m.header;
      course = c;
      queue = owned_queue o m;
      count = owned_count o m;
      masks = masks_for w m;
      figs = figs_for w m;
    }

abbrev names_wrong : Form → Sight → What → Bool
names_wrong f s (Look p x names d) = not (same_numbers (map (λ n. n.cpu) names) (members (figures_due f s)))
names_wrong f s (Scan names t) = not (same_numbers (map (λ n. n.cpu) names) (members (figures_due f s)))
names_wrong f s w = false

abbrev pick_wrong : Form → Sight → What → Bool
pick_wrong f s (Out cause to tasks) = is_other_out (out_by f s.header s.course s.queue) cause to tasks
pick_wrong f s w = false

record Facts (f : Form) (m : MachineState) (lane : ℕ) (c : Course) (o : Owner) (w : What) : Type 0 where
  owner : is_owner w lane (queue_due f c) o ≡ true
  drawn : draws f m.header c (owned_queue o m) lane w ≡ true
  at_rest : stage_at_rest f m o w ≡ false
  used : stage_of_use m c w ≡ false
  row : breaks_row (sight_of m c o w) w ≡ false
  place : answered_elsewhere f c m o w ≡ false
  reply : breaks_reply (sight_of m c o w) w ≡ false
  names : names_wrong f (sight_of m c o w) w ≡ false
  decided : breaks_decision (sight_of m c o w) w ≡ false
  pick : pick_wrong f (sight_of m c o w) w ≡ false
  flight : breaks_flight (sight_of m c o w) w ≡ false
  counters : breaks_counters (sight_of m c o w) w ≡ false
  owed : owed_elsewhere m w ≡ false
  ends : end_is_wrong m w ≡ false

-- ---- owners
due_queue : (d : Option ℕ) (o : Owner) (e : ℕ) → is_some d ≡ true → is_queue o d ≡ true → o ≡ Queue (unwrap_or d e)
due_queue None o e h k = absurd (let y : ⊥ = cc in y)
due_queue (Some cpu) (Queue u) e h k = ap Queue (eqb-true u cpu k)
due_queue (Some cpu) o e h k = absurd (let y : ⊥ = cc in y)

first_queue : (p : Option ℕ) (o : Owner) → is_first_pending p o ≡ true → o ≡ Queue (unwrap_or p 0)
first_queue None o h = absurd (let y : ⊥ = cc in y)
first_queue (Some cpu) o h = queue_is o cpu h

place_queue : (p : Place) (o : Owner) → is_at p o ≡ true → o ≡ Queue (cpu_of_place p)
unfolding cpu_of_place
place_queue (AwakeAt cpu) o h = queue_is o cpu h
place_queue (AsleepAt cpu) o h = queue_is o cpu h
place_queue (GoneAt cpu) o h = queue_is o cpu h
place_queue (HandOf lane) o h = absurd (let y : ⊥ = cc in y)

asked_queue : (command : Option Command) (m : MachineState) (o : Owner)
    → (is_some command && not (is_rebuild command)) ≡ true → is_queue o (ticked_cpu command) ≡ true
    → task_elsewhere (task_of command) m o ≡ false →
    o ≡ Queue (unwrap_or (ticked_cpu command) (task_cpu (task_of command) m))
unfolding task_cpu
asked_queue None m o d q h = absurd (let y : ⊥ = cc in y)
asked_queue (Some (Wake t)) m o d q h = place_queue (place_at m t) o (not-false _ h)
asked_queue (Some (Sleep t)) m o d q h = place_queue (place_at m t) o (not-false _ h)
asked_queue (Some (Exit t)) m o d q h = place_queue (place_at m t) o (not-false _ h)
asked_queue (Some (SetMask t v)) m o d q h = place_queue (place_at m t) o (not-false _ h)
asked_queue (Some (Nice t n)) m o d q h = place_queue (place_at m t) o (not-false _ h)
asked_queue (Some (Tick cpu)) m o d q h = due_queue (Some cpu) o 0 refl q
asked_queue (Some (Rebuild parts)) m o d q h = absurd (let y : ⊥ = cc in y)

wake_asks : (command : Option Command) → is_wake command ≡ true → (is_some command && not (is_rebuild command)) ≡ true
wake_asks (Some (Wake t)) h = refl
wake_asks command h = absurd (let y : ⊥ = cc in y)

-- ---- outs
out_is : (o : Option Leaving) (cause : OutCause) (to : ℕ) (tasks : List ℕ) → is_other_out o cause to tasks ≡ false
    → Out cause to tasks ≡ out_of o
out_is None cause to tasks h = absurd (let y : ⊥ = cc in y)
out_is (Some l) cause to tasks h =
    let p = or_parts _ _ h in
    let r = or_parts _ _ p.0 in
    let a = cause_is cause l.cause (not-false _ r.0) in
    let b = eqb-true to l.to (not-false _ r.1) in
    let c = numbers_same tasks (ids l.hand) (not-false _ p.1) in
    rw (a, b, c) refl

is_out_due : (o : Option Leaving) (cause : OutCause) (to : ℕ) (tasks : List ℕ) → is_other_out o cause to tasks ≡ false
    → is_some o ≡ true
is_out_due None cause to tasks h = absurd (let y : ⊥ = cc in y)
is_out_due (Some l) cause to tasks h = refl

away_leaves : (d : Option ℕ) (at t : ℕ) (q : QueueState) → is_some (wake_to d at t q) ≡ true → is_some d ≡ true
away_leaves None at t q h = absurd (let y : ⊥ = cc in y)
away_leaves (Some to) at t q h = refl

wake_leaves : (command : Option Command) (at : ℕ) (q : QueueState) → is_some (wake_out command at q) ≡ true
    → leaves_instead command q ≡ true
wake_leaves (Some (Wake t)) at q h = away_leaves (away q t) at t q h
wake_leaves command at q h = absurd (let y : ⊥ = cc in y)

asks_no_rebuild : (command : Option Command) → (is_some command && not (is_rebuild command)) ≡ true → is_rebuild command ≡ false
asks_no_rebuild command h = not-true _ ((and_parts (is_some command) _ h).1)

-- ---- names of figures
names_are : (names : List FigName) → names ≡ named_by (map (λ n. n.cpu) names) (map (λ n. n.n) names)
names_are [] = refl
names_are (n ∷ ns) = ap (λ (x : List FigName). n ∷ x) (names_are ns)

names_next : (names : List FigName) (cpus : List ℕ) → not (same_numbers (map (λ n. n.cpu) names) cpus) ≡ false
    → names ≡ named_by cpus (map (λ n. n.n) names)
names_next names cpus h =
    let e : map (λ n. n.cpu) names ≡ cpus = numbers_same _ cpus (not-false _ h) in
    names_are names ∙ ap (λ (x : List ℕ). named_by x (map (λ n. n.n) names)) e

-- ---- by form
abbrev Next : Form → Type 0
Next f = (m : MachineState) (lane : ℕ) (c : Course) (o : Owner) (w : What) → Facts f m lane c o w → IsNext f m lane c o w

row_number : (n r : ℕ) (b : Bool) → (not (eqb n r) || b) ≡ false → n ≡ r
row_number n r b h = eqb-true n r (not-false _ (or_parts (not (eqb n r)) b h).0)

queue_of : (m : MachineState) (o : Owner) (cpu : ℕ) → o ≡ Queue cpu → owned_queue o m ≡ queue_at m.queues cpu
queue_of m o cpu e = ap (λ (x : Owner). owned_queue x m) e

some_first : (p : Option ℕ) (o : Owner) → is_first_pending p o ≡ true → is_some p ≡ true
some_first None o h = absurd (let y : ⊥ = cc in y)
some_first (Some cpu) o h = refl

-- the `use` of a tick comes where nothing is left to serve
tick_waits : (m : MachineState) (c : Course) (kind : Kind) (cpu v : ℕ) → kind ≡ TickTurn → ticked_cpu c.command ≡ Some cpu →
    waits_for_push kind c (queue_at m.queues cpu) ≡ false → waits_for_stop kind (queue_at m.queues cpu) ≡ false →
    Adopt v kind cpu ≡ what_next Serving m c (queue_next Serving m c) (ItsVersion v)
tick_waits m c kind cpu v a t p s =
    let p' : push_is_due c (queue_at m.queues cpu) ≡ false = ap
    (λ (x : Kind). waits_for_push x c (queue_at m.queues cpu)) (sym a) ∙ p in
    let s' : has_owed (queue_at m.queues cpu) ≡ false = ap (λ (x : Kind). waits_for_stop x (queue_at m.queues cpu)) (sym a) ∙ s in
    rw (t, a, s', p') refl

shut_next : {A : Type 0} (o : Option A) (w : What) → is_none o ≡ false → Shut ≡ cond (is_some o) Shut w
shut_next None w h = absurd (let y : ⊥ = cc in y)
shut_next (Some x) w h = refl

rest_next : Next Rest
unfolding draws
rest_next m lane c o (Row n at command) k = record {
  owner = lane_is o lane k.owner;
  what = let e = row_number n (c.rows + 1) _ k.row in ap (λ (x : ℕ). Row x at command) e;
}
rest_next m lane c o (Out cause to tasks) k =
    let f = not-false _ (or_parts (not (all_rest m)) _ k.at_rest).1 in
    let e = first_queue (first_pending m) o f in
    let there : is_some (first_pending m) ≡ true = some_first (first_pending m) o f in
    record { owner = e; what = rw (there, ← queue_of m o _ e) (out_is _ cause to tasks k.pick) }
rest_next m lane c o (End cpus) k = record {
  owner = lane_is o lane k.owner;
  what = let none : is_some (first_pending m) ≡ false = k.owed in let e =
      mask_is cpus (unserved m) (not-false _ k.ends) in rw (none, e) refl;
}
rest_next m lane c o w k = absurd (let d = k.drawn in let y : ⊥ = cc in y)

asked_next : Next Asked
unfolding draws
asked_next m lane c o (Did r) k =
    let e = asked_queue c.command m o k.drawn k.owner k.place in
    let p = or_parts _ _ k.reply in
    let p' = or_parts (leaves_instead c.command (owned_queue o m)) _ p.0 in
    let r' = reply_is r (answer_to c.command c.at (owned_queue o m)).0 (not-false _ p.1) in
    let b = asks_no_rebuild c.command k.drawn in
    record { owner = e; what = rw (b, ← queue_of m o _ e, p'.0, r') refl }
asked_next m lane c o (Out cause to tasks) k =
    let a = wake_asks c.command k.drawn in
    let e = asked_queue c.command m o a k.owner k.place in
    let b = asks_no_rebuild c.command a in
    let l = wake_leaves c.command c.at (owned_queue o m) (is_out_due _ cause to tasks k.pick) in
    record { owner = e; what = rw (b, ← queue_of m o _ e, l) (out_is _ cause to tasks k.pick) }
asked_next m lane c o (Pub v) k =
    let e = publisher_is o k.owner in
    let n : v ≡ length m.versions - 1 + 2 = eqb-true v _
    (ap (λ (x : Owner). eqb v (owned_count x m + 2)) (sym e) ∙ not-false _ k.reply) in
    record { owner = e; what = let b = k.drawn in rw (b, n) refl }
asked_next m lane c o w k = absurd (let d = k.drawn in let y : ⊥ = cc in y)

flight_next : Next Flight
unfolding draws
flight_next m lane c o (Landed tasks) k = record {
  owner = due_queue (Some c.to) o 0 refl k.owner;
  what = ap Landed (numbers_same tasks (ids c.hand) (not-false _ k.flight));
}
flight_next m lane c o w k = absurd (let d = k.drawn in let y : ⊥ = cc in y)

serving_next : Next Serving
unfolding draws
serving_next m lane c o (Out cause to tasks) k =
    let d = and_parts (is_tick c.command) _ k.drawn in
    let e = due_queue (ticked_cpu c.command) o (cpu_else Serving m c) d.0 k.owner in
    record { owner = e; what = rw (← queue_of m o _ e, d.1) (out_is _ cause to tasks k.pick) }
serving_next m lane c o (Adopt v kind cpu) k =
    let d = and_parts (same_kind kind TickTurn) _ k.drawn in
    let a = kind_is kind TickTurn d.0 in
    let t = number_is (ticked_cpu c.command) (Some cpu) d.1 in
    record { owner = lane_is o lane k.owner; what = tick_waits m c kind cpu v a t k.used k.owed }
serving_next m lane c o w k = absurd (let d = k.drawn in let y : ⊥ = cc in y)

due_next : Next Due
unfolding draws
due_next m lane c o (Adopt v kind cpu) k =
    let d = and_parts (same_kind kind (turn_kind c)) (eqb cpu c.cpu) k.drawn in
    let a = kind_is kind (turn_kind c) d.0 in
    let b = eqb-true cpu c.cpu d.1 in
    record { owner = lane_is o lane k.owner; what = rw (a, b) refl }
due_next m lane c o w k = absurd (let d = k.drawn in let y : ⊥ = cc in y)

used_next : Next Used
unfolding draws
used_next m lane c o (Turn ps) k =
    let e = due_queue (Some c.cpu) o 0 refl k.owner in
    let p = mask_is ps (positions_due (sight_of m c o (Turn ps))) (not-false _ k.counters) in
    record { owner = e; what = rw (← queue_of m o _ e, k.reply, p) refl }
used_next m lane c o Shut k =
    let e = due_queue (Some c.cpu) o 0 refl k.owner in
    record { owner = e; what = rw (← queue_of m o _ e) (shut_next (owned_queue o m).open_turn _ k.reply) }
used_next m lane c o w k = absurd (let d = k.drawn in let y : ⊥ = cc in y)

-- looks, closes and scans
look_parts : (f : Form) (m : MachineState) (c : Course) (o : Owner) (p : ℕ) (x : Mask) (names : List FigName)
    (d : Decision) (cpus : List ℕ) → members (figures_due f (bare m c (queue_next f m c))) ≡ cpus →
    not (same_numbers (map (λ n. n.cpu) names) cpus) ≡ false
    → breaks_decision (sight_of m c o (Look p x names d)) (Look p x names d) ≡ false
    → Look p x names d ≡ look_of f m c (map (λ n. n.n) names)
look_parts f m c o p x names d cpus due n h =
    let e : names ≡ named_by (members (figures_due f (bare m c (queue_next f m c)))) (map (λ n. n.n) names) =
    names_next names cpus n ∙ ap (λ (ks : List ℕ). named_by ks (map (λ n. n.n) names)) (sym due) in
    let q = or_parts _ _ h in
    let r = or_parts _ _ q.0 in
    let a = eqb-true p c.position (not-false _ r.0) in
    let b = mask_is x c.excluded (not-false _ r.1) in
    let v = decision_is d _ (not-false _ q.1) in
    rw (a, b, v) (ap (λ (l : List FigName). Look c.position c.excluded l
    (decision (turn_domain m.header c).shape (turn_domain m.header c).groups
    (by_cpu (figures_named m.figures l)) c.cpu (turn_kind c) c.excluded)) e)

scan_parts : (f : Form) (m : MachineState) (c : Course) (o : Owner) (names : List FigName) (t : Option ℕ) (cpus : List ℕ)
    → members (figures_due f (bare m c (queue_next f m c))) ≡ cpus →
    not (same_numbers (map (λ n. n.cpu) names) cpus) ≡ false
    → breaks_decision (sight_of m c o (Scan names t)) (Scan names t) ≡ false → Scan names t ≡ scan_of f m c (map (λ n. n.n) names)
scan_parts f m c o names t cpus due n h =
    let e : names ≡ named_by (members (figures_due f (bare m c (queue_next f m c)))) (map (λ n. n.n) names) =
    names_next names cpus n ∙ ap (λ (ks : List ℕ). named_by ks (map (λ n. n.n) names)) (sym due) in
    let v = number_is t _ (not-false _ h) in
    rw v (ap (λ (l : List FigName). Scan l (least (tickless_in (figures_named m.figures l)))) e)

close_parts : (m : MachineState) (c : Course) (o : Owner) (cpu p : ℕ) (word : OutcomeWord) (i f : ℕ) → o ≡ Queue cpu →
    breaks_decision (sight_of m c o (Close p word i f)) (Close p word i f) ≡ false
    → breaks_counters (sight_of m c o (Close p word i f)) (Close p word i f) ≡ false →
    Close p word i f ≡ close_of m c (queue_at m.queues cpu)
unfolding closed_counters
close_parts m c o cpu p word i f e h k =
    let a = eqb-true p c.position (not-false _ h) in
    let q = or_parts _ _ k in
    let r = or_parts _ _ q.0 in
    let w = word_is word (word_of (outcome_of m.header c)) (not-false _ r.0) in
    let x = eqb-true i _ (not-false _ r.1) in
    let y = eqb-true f _ (not-false _ q.1) in
    rw (← queue_of m o cpu e, a, w, x, y) refl

position_next : Next Position
unfolding draws
position_next m lane c o (Look p x names d) k = record {
  owner = lane_is o lane k.owner;
  what = look_parts Position m c o p x names d _ refl k.names k.decided;
}
position_next m lane c o w k = absurd (let d = k.drawn in let y : ⊥ = cc in y)

due_from : (b : Bool) (o : Owner) (s cpu : ℕ) → is_queue o (Some (if b then s else cpu)) ≡ true → o ≡ Queue (if b then s else cpu)
due_from b o s cpu h = due_queue (Some (if b then s else cpu)) o 0 refl h

settled_no_pull : (d : Option Decision) → is_settled d ≡ true → is_pull d ≡ false
settled_no_pull d h = not-true _ ((and_parts (is_some d) _ h).1)

looked_next : Next Looked
unfolding draws
looked_next m lane c o (Out cause to tasks) k =
    let e = due_from (is_pull c.decision) o _ c.cpu k.owner in
    record { owner = e; what = rw (← queue_of m o _ e, k.drawn) (out_is _ cause to tasks k.pick) }
looked_next m lane c o (Close p word i f) k =
    let e = due_from (is_pull c.decision) o _ c.cpu k.owner in
    let n = settled_no_pull c.decision k.drawn in
    record {
      owner = e;
      what = close_parts m c o _ p word i f e k.decided k.counters
          ∙ ap (λ (b : Bool). cond b (out_of (out_by Looked m.header c (queue_next Looked m c)))
          (close_of m c (queue_next Looked m c))) (sym n);
    }
looked_next m lane c o w k = absurd (let d = k.drawn in let y : ⊥ = cc in y)

landed_next : Next LandedForm
unfolding draws
landed_next m lane c o (Look p x names d) k = record {
  owner = lane_is o lane k.owner;
  what =
      look_parts LandedForm m c o p x names d _ refl k.names k.decided
      ∙ ap (λ (b : Bool). cond b (look_of LandedForm m c (map (λ n. n.n) names))
      (close_of m c (queue_next LandedForm m c))) (sym k.drawn);
}
landed_next m lane c o (Close p word i f) k =
    let e = due_queue (Some c.cpu) o 0 refl k.owner in
    record {
      owner = e;
      what = close_parts m c o _ p word i f e k.decided k.counters
          ∙ ap (λ (b : Bool). cond b (look_of LandedForm m c []) (close_of m c (queue_next LandedForm m c)))
          (sym (not-true _ k.drawn));
    }
landed_next m lane c o w k = absurd (let d = k.drawn in let y : ⊥ = cc in y)

closed_next : Next Closed
unfolding draws
closed_next m lane c o (Ask r) k =
    let e = due_queue (queue_due Closed c) o 0 refl k.owner in
    record {
      owner = e;
      what = rw (← queue_of m o _ e)
          (ap Ask (ask_is r (ask_active (owned_queue o m) c.at c.cpu).0 (not-false _ k.reply)));
    }
closed_next m lane c o w k = absurd (let d = k.drawn in let y : ⊥ = cc in y)

done_next : Next Done
unfolding draws
done_next m lane c o Over k = record { owner = due_queue (Some c.cpu) o 0 refl k.owner; what = refl }
done_next m lane c o w k = absurd (let d = k.drawn in let y : ⊥ = cc in y)

scan_next : Next ScanDue
unfolding draws
scan_next m lane c o (Scan names t) k = record {
  owner = lane_is o lane k.owner;
  what = scan_parts ScanDue m c o names t _ refl k.names k.decided;
}
scan_next m lane c o w k = absurd (let d = k.drawn in let y : ⊥ = cc in y)

kicking_next : Next Kicking
unfolding draws
kicking_next m lane c o (Kick r) k =
    let e = due_queue (target_of c) o (cpu_else Kicking m c) k.drawn k.owner in
    record {
      owner = e;
      what = rw (← queue_of m o _ e)
          (ap Kick (ask_is r (kick (owned_queue o m) c.at).0 (not-false _ k.reply)));
    }
kicking_next m lane c o w k = absurd (let d = k.drawn in let y : ⊥ = cc in y)

ended_next : Next Ended
unfolding draws
ended_next m lane c o w k = absurd (let d = k.drawn in let y : ⊥ = cc in y)

each_next : (f : Form) → Next f
each_next Rest = rest_next
each_next Asked = asked_next
each_next Flight = flight_next
each_next Serving = serving_next
each_next Due = due_next
each_next Used = used_next
each_next Position = position_next
each_next Looked = looked_next
each_next LandedForm = landed_next
each_next Closed = closed_next
each_next Done = done_next
each_next ScanDue = scan_next
each_next Kicking = kicking_next
each_next Ended = ended_next

-- ---- an entry that may be added is the next one with its choice
names_not_wrong : (m : MachineState) (e : Entry) (w : What) → breaks_figure (sight m e) w ≡ false
    → names_wrong (course_at m.courses e.lane).form (sight_of m (course_at m.courses e.lane) e.owner e.what) w ≡ false
unfolding sight
names_not_wrong m e (Look p x names d) h = (or_parts _ _ h).0
names_not_wrong m e (Scan names t) h = (or_parts _ _ h).0
names_not_wrong m e w h = refl

pick_not_wrong : (m : MachineState) (e : Entry) (w : What) → breaks_pick (sight m e) w ≡ false
    → pick_wrong (course_at m.courses e.lane).form (sight_of m (course_at m.courses e.lane) e.owner e.what) w ≡ false
unfolding sight leaving
pick_not_wrong m e (Out cause to tasks) h = h
pick_not_wrong m e w h = refl

facts : (m : MachineState) (e : Entry) → MayBeAdded m e
    → Facts (course_at m.courses e.lane).form m e.lane (course_at m.courses e.lane) e.owner e.what
unfolding sight stage_allows
facts m e h =
    let c = course_at m.courses e.lane in
    let stage = and_parts _ _ (not-false (stage_allows (sight m e) e) (unbroken_here m e h Stage)) in
    let away = or_parts _ _ (unbroken_elsewhere m e h Stage) in
    record {
      owner = stage.0;
      drawn = stage.1;
      at_rest = (or_parts _ _ away.0).1;
      used = away.1;
      row = unbroken_here m e h RowRule;
      place = unbroken_elsewhere m e h PlaceRule;
      reply = unbroken_here m e h ReplyRule;
      names = names_not_wrong m e e.what (unbroken_here m e h Figure);
      decided = unbroken_here m e h DecisionRule;
      pick = pick_not_wrong m e e.what (unbroken_here m e h Pick);
      flight = unbroken_here m e h FlightRule;
      counters = unbroken_here m e h CountersRule;
      owed = unbroken_elsewhere m e h Owed;
      ends = (or_parts _ _ (unbroken_elsewhere m e h EndRule)).1;
    }

-- what and whose the next entry is, by the form of the course
pub chosen : (m : MachineState) (e : Entry) → MayBeAdded m e →
    (e.what ≡ what_next (course_at m.courses e.lane).form m (course_at m.courses e.lane)
    (queue_next (course_at m.courses e.lane).form m (course_at m.courses e.lane)) (choice_of e.what))
    × (e.owner ≡ owner_next e.what e.lane (cpu_next (course_at m.courses e.lane).form m (course_at m.courses e.lane)))
chosen m e h = let n = each_next (course_at m.courses e.lane).form m e.lane
    (course_at m.courses e.lane) e.owner e.what (facts m e h) in (n.what, n.owner)
