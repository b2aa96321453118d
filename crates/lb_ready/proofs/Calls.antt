-- What the calls of a queue ask holds in every ready machine.
-- For the law `calls_may_be_made`.
use Rattle.std.proofs.Common.{arith, ◌≡◌, ℕ, ℤ, pos, negsuc, ◌≤ℤ◌, zero, suc, ◌<◌, ◌≤◌, Bool, true, false, cond, ◌==◌, ◌&&◌, ◌||◌, List, [], ◌∷◌, length, map, find, ltb, get_or, Option, Some, None, is_some, refl, sym, ◌∙◌, ap, subst, slice_get, not, ◌-◌}
use Rattle.std.specs.Prelude.{IfSome, MatchOption}
use Rattle.std.proofs.lemmas.Bool.{and_parts, or_parts, eqb-true, eq-eqb, leb-true, not-true, not-false}
use Rattle.std.proofs.lemmas.Int.{ints}
use Rattle.std.proofs.lemmas.List.{length-map}
use Rattle.std.specs.List.{list_all}
use Rattle.std.proofs.lemmas.List.FromFn.{length-map-range_with_len}
use Rattle.lb_base.specs.declared.mask.Mask.{Mask}
use Rattle.lb_base.specs.declared.figure.Fig.{Fig}
use Rattle.lb_base.specs.Mask.{has, without, no_cpus, members}
use Rattle.lb_base.specs.Figures.{fig_at, no_fig}
use Rattle.lb_base.proofs.Sets.{all_members_at}
use Rattle.lb_interval.specs.declared.Counters.{Counters}
use Rattle.lb_imbalance.specs.declared.decision.Decision.{Decision}
use Rattle.lb_imbalance.proofs.Groups.{left_has}
use Rattle.lb_levels.specs.declared.cpu_row.CpuRow.{CpuRow}
use Rattle.lb_levels.specs.Rows.{nodes_in_range}
use Rattle.lb_domain.specs.declared.domain.Domain.{Domain}
use Rattle.lb_domain.specs.Domains.{domains_of}
use Rattle.lb_domain.proofs.Sizes.{groups_few}
use Rattle.lb_trace.specs.declared.trace.Command.{Command}
use Rattle.lb_trace.specs.declared.trace.Command.TheVariants.{Wake, Nice, Tick}
use Rattle.lb_trace.specs.declared.trace.Header.{Header}
use Rattle.lb_trace.specs.Accepted.{is_nice_value, is_cpu, IsHeader}
use Rattle.lb_queue.specs.declared.record.TaskRecord.{TaskRecord}
use Rattle.lb_queue.specs.declared.awake.Awake.{Awake}
use Rattle.lb_queue.specs.declared.answers.Reply.TheVariants.{NotHere}
use Rattle.lb_queue.specs.Tasks.{ids, awake_ids, occurs, awake_with, task_with}
use Rattle.lb_queue.specs.Queue.{QueueState, away}
use Rattle.lb_queue.specs.Requests.{has_owed}
use Rattle.lb_queue.specs.Turns.{IsOpenAt, FitCounters}
use Rattle.lb_queue.specs.Laws.{NextMayBeTaken}
use Rattle.lb_queue.proofs.Counts.{found}
use Rattle.lb_queue.proofs.Search.{there_at}
use Rattle.lb_queue.proofs.Every.{all_weaker}
use Rattle.lb_core.specs.declared.course.Course.{Course}
use Rattle.lb_core.specs.declared.course.Form.{Form}
use Rattle.lb_core.specs.declared.course.Form.TheVariants.{Flight, Used, Position, Looked, Landed as LandedForm, Done, ScanDue}
use Rattle.lb_core.specs.declared.entry.Owner.{Owner}
use Rattle.lb_core.specs.declared.entry.Owner.TheVariants.{Publisher, Lane, Queue}
use Rattle.lb_core.specs.declared.entry.What.{What}
use Rattle.lb_core.specs.declared.entry.What.TheVariants.{Row, Adopt, Look, Scan, End, Did, Out, Landed, Turn, Shut, Close, Ask, Kick, Over, Pub}
use Rattle.lb_core.specs.declared.place.Place.{Place}
use Rattle.lb_core.specs.declared.place.Place.TheVariants.{Awake as AwakeAt, Asleep as AsleepAt, Gone as GoneAt, Hand as HandOf}
use Rattle.lb_core.specs.declared.rule.Rule.TheVariants.{Stage, Reply as ReplyRule, Owed as OwedRule, Figure}
use Rattle.lb_core.specs.declared.entry.FigName.{FigName}
use Rattle.lb_core.specs.Same.{same_place, same_reply, same_numbers}
use Rattle.lb_core.specs.Course.{is_tick, is_pull, no_domain, shapes_of, turn_domains, turn_domain, widest_span}
use Rattle.lb_core.specs.Leaving.{Leaving, leaving, out_by}
use Rattle.lb_core.specs.Rules.{breaks_here, leaves_instead, figures_due}
use Rattle.lb_core.specs.Step.{breaks}
use Rattle.lb_core.specs.Sight.{Sight, fig_or_none, by_cpu}
use Rattle.lb_core.specs.Stage.{draws, queue_due, is_queue, is_owner}
use Rattle.lb_core.specs.Machine.{no_queue, MachineState, queue_at, course_at, place_at, owned_queue, sight, figures_named, figures_at, masks_at}
use Rattle.lb_core.specs.Placed.{standing, is_its_place, times, IsPlaced}
use Rattle.lb_core.specs.Legal.{MayBeAdded}
use Rattle.lb_core.specs.OpenTurns.{IsVersion, IsAtPosition, TurnIn}
use Rattle.lb_core.specs.TurnCounters.{FitsDomains, domains_in_version}
use Rattle.lb_core.proofs.Equality.{numbers_same}
use Rattle.lb_core.proofs.Placing.{is_no_queue, entry}
use Rattle.lb_core.proofs.Unbroken.{unbroken, unbroken_here}
use Rattle.lb_ready.specs.Ready.{IsSmall, SparesLocal, Spares, is_mask_in, is_task_in, Names, IsReady, unnamed, FitsForm}
use Rattle.lb_core.specs.Asks.{CommandAsks}
use Rattle.lb_ready.specs.Calls.{IsOnAt, LookAsks, LeavingAsks, LandedAsks, TurnAsks, TrialAsks, QueueAsks, IsNamed}
use Rattle.lb_ready.specs.Laws.{CallsMayBeTried, CallsMayBeMade, LooksMayBeDecided, StopsMayBeTaken, TasksStand}
use Rattle.lb_ready.proofs.Staging.{staged, staged_cpu}
use Rattle.lb_ready.proofs.Steps.{of_out}
use Rattle.lb_ready.proofs.Keeping.{parted, look_inside, DomainLaws, can_be_read}
use Rattle.lb_ready.proofs.Figures.{by_cpu_at, named_small, small_sum}
use Rattle.lb_ready.proofs.Due.{or_none}
use Rattle.lb_ready.proofs.Going.{stands, somewhere, cpu_inside}
use Rattle.lb_ready.proofs.Fitting.{none_excluded}
use Rattle.lb_ready.proofs.Requests.{stands_once, distinct}

-- ---- stops
pub stops_may_be_taken : NextMayBeTaken → StopsMayBeTaken
stops_may_be_taken taken m cpu k lt owed =
    taken (queue_at m.queues cpu) (distinct m cpu k.placed)
    (all_weaker (λ (a : Awake). is_task_in (length m.header.cpus) a.task) _
    (λ a h. (and_parts _ _ ((and_parts (is_mask_in (length m.header.cpus) a.task.mask) _ h).0)).1)
    (queue_at m.queues cpu).awake (k.queues cpu lt).awake) owed

-- ---- commands
none_if : {A : Type 0} (o : Option A) → is_some o ≡ false → o ≡ None
none_if None h = refl
none_if (Some x) h = absurd (let y : ⊥ = cc in y)

nice_bounds : (nice : ℤ) → is_nice_value nice ≡ true → (negsuc 19 ≤ℤ nice) × (nice ≤ℤ pos 19)
nice_bounds (pos n) h = let le : n ≤ 19 = leb-true n 19 h in (omega (arith, ints, le), omega (arith, ints, le))
nice_bounds (negsuc n) h = let le : n ≤ 19 = leb-true n 19 h in (omega (arith, ints, le), omega (arith, ints, le))

command_asks : (h : Header) (command : Option Command) (q : QueueState) → leaves_instead command q ≡ false
    → Names h command → (is_tick command && has_owed q) ≡ false → CommandAsks command q
command_asks h (Some (Wake t)) q l n o = none_if (away q t) l
command_asks h (Some (Nice t nice)) q l n o = nice_bounds nice n.1
command_asks h (Some (Tick cpu)) q l n o = o
command_asks h command q l n o = tt

-- ---- tasks that leave
if_each : {X : Type 0} (o : Option X) (P : X → Type 0) → ((x : X) → o ≡ Some x → P x) → IfSome o P
if_each None P f = tt
if_each (Some x) P f = f x refl

leaves_rightly : (f : Form) (h : Header) (c : Course) (q : QueueState) → IfSome (out_by f h c q)
    (λ l. LeavingAsks l.cause c.command l.to q)
leaves_rightly f h c q = if_each (out_by f h c q) (λ l. LeavingAsks l.cause c.command l.to q)
    (λ l e. of_out (λ (l : Leaving). LeavingAsks l.cause c.command l.to q) f h c q l (record {
      wake = λ t to i j a. rw j a;
      stop = λ s owed i n. tt;
      push = λ to i n a. a;
      pulls = λ env i n. tt;
    }) e)

-- ---- where tasks are not
and_false : (b : Bool) → (b && false) ≡ false
and_false true = refl
and_false false = refl

-- a task in a hand stands on no queue
elsewhere : (m : MachineState) (t lane : ℕ) (p : Place) → IsPlaced m
    → 1 ≤ occurs t (ids (course_at m.courses lane).hand) → same_place p (HandOf lane) ≡ false → occurs t (standing m p) ≡ 0
elsewhere m t lane p placed h n = by_test (is_its_place m (HandOf lane) t) refl (placed.once (HandOf lane) t)
  where
    other : (p q : Place) → same_place (HandOf lane) q ≡ true → same_place p (HandOf lane) ≡ false → same_place p q ≡ false
    other p (HandOf l) s n = let e = eqb-true lane l s in subst (λ (x : ℕ). same_place p (HandOf x) ≡ false) e n
    other p q s n = absurd (let y : ⊥ = cc in y)

    by_test : (b : Bool) → is_its_place m (HandOf lane) t ≡ b
        → times m (HandOf lane) t ≡ cond {A = ℕ} (is_its_place m (HandOf lane) t) 1 0 → occurs t (standing m p) ≡ 0
    by_test true e o =
        let a = and_parts (ltb t (length m.places)) _ e in
        let f : is_its_place m p t ≡ false = rw (other p (place_at m t) a.1 n) (and_false (ltb t (length m.places))) in
        placed.once p t ∙ rw f refl
    by_test false e o = let z : times m (HandOf lane) t ≡ 0 = o ∙ rw e refl in absurd (omega arith)

nowhere : {X : Type 0} (f : X → ℕ) (t : ℕ) (xs : List X) → occurs t (map f xs) ≡ 0 → is_some (find (λ x. f x == t) xs) ≡ false
nowhere f t xs z = by_test (find (λ x. f x == t) xs) refl
  where
    by_test : (o : Option _) → find (λ x. f x == t) xs ≡ o → is_some o ≡ false
    by_test None e = refl
    by_test (Some x) e =
        let k = found (λ x. f x == t) f xs x e in
        let n = eqb-true (f x) t k.passes in
        let h : 1 ≤ occurs t (map f xs) = rw n at k.there in
        absurd (omega arith)

-- ---- where a task is
nowhere_else : (m : MachineState) (t : ℕ) (p : Place) → IsPlaced m → same_place p (place_at m t) ≡ false
    → occurs t (standing m p) ≡ 0
nowhere_else m t p placed n = placed.once p t ∙ rw (n, and_false (ltb t (length m.places))) refl

pub tasks_stand : TasksStand
tasks_stand m t k lt = by_place (place_at m t) refl
  where
    awake : (cpu : ℕ) → same_place (AwakeAt cpu) (place_at m t) ≡ false
        → is_some (awake_with t (queue_at m.queues cpu).awake) ≡ false
    awake cpu n = nowhere (λ (a : Awake). a.task.id) t (queue_at m.queues cpu).awake (nowhere_else m t (AwakeAt cpu) k.placed n)

    asleep : (cpu : ℕ) → same_place (AsleepAt cpu) (place_at m t) ≡ false
        → is_some (task_with t (queue_at m.queues cpu).asleep) ≡ false
    asleep cpu n = nowhere (λ (x : TaskRecord). x.id) t (queue_at m.queues cpu).asleep
        (nowhere_else m t (AsleepAt cpu) k.placed n)

    gone : (cpu : ℕ) → same_place (GoneAt cpu) (place_at m t) ≡ false → is_some (task_with t (queue_at m.queues cpu).gone) ≡ false
    gone cpu n = nowhere (λ (x : TaskRecord). x.id) t (queue_at m.queues cpu).gone (nowhere_else m t (GoneAt cpu) k.placed n)

    by_place : (p : Place) → place_at m t ≡ p → IsOnAt m t p
    by_place (AwakeAt cpu) e =
        let o = stands m t (AwakeAt cpu) k.placed lt e in (
          cpu_inside m cpu k.sizes (λ n. let z : 1 ≤ occurs t (awake_ids no_queue.awake) = rw n at o in absurd (omega arith)),
          record {
            awake = somewhere (λ (a : Awake). a.task.id) t (queue_at m.queues cpu).awake o;
            asleep = asleep cpu (rw e refl);
            gone = gone cpu (rw e refl);
          },
        )
    by_place (AsleepAt cpu) e =
        let o = stands m t (AsleepAt cpu) k.placed lt e in (
          cpu_inside m cpu k.sizes (λ n. let z : 1 ≤ occurs t (ids no_queue.asleep) = rw n at o in absurd (omega arith)),
          record {
            awake = awake cpu (rw e refl);
            asleep = somewhere (λ (x : TaskRecord). x.id) t (queue_at m.queues cpu).asleep o;
            gone = gone cpu (rw e refl);
          },
        )
    by_place (GoneAt cpu) e =
        let o = stands m t (GoneAt cpu) k.placed lt e in (
          cpu_inside m cpu k.sizes (λ n. let z : 1 ≤ occurs t (ids no_queue.gone) = rw n at o in absurd (omega arith)),
          record {
            awake = awake cpu (rw e refl);
            asleep = asleep cpu (rw e refl);
            gone = somewhere (λ (x : TaskRecord). x.id) t (queue_at m.queues cpu).gone o;
          },
        )
    by_place (HandOf lane) e = tt

-- ---- landings
landing_asks : (m : MachineState) (lane cpu : ℕ) → IsReady m → cpu < length m.header.cpus
    → cpu ≡ (course_at m.courses lane).to → LandedAsks (course_at m.courses lane) (queue_at m.queues cpu)
landing_asks m lane cpu k lt e = record {
  permitted = λ i d inside. subst (λ (x : ℕ). has (get_or (course_at m.courses lane).hand i d).mask x ≡ true)
      (sym e ∙ sym (k.queues cpu lt).own) (k.permitted.in_hands lane i d inside);
  landing = record {
    to = sym e ∙ sym (k.queues cpu lt).own;
    differ = λ id. stands_once m k.placed (HandOf lane) id;
    unknown = λ i d inside.
        let t = get_or (course_at m.courses lane).hand i d in
        let h = there_at (λ (x : TaskRecord). x.id) (course_at m.courses lane).hand i d inside in
        or_none _ _ (or_none _ _ (nowhere (λ (a : Awake). a.task.id) t.id (queue_at m.queues cpu).awake
        (elsewhere m t.id lane (AwakeAt cpu) k.placed h refl))
        (nowhere (λ (x : TaskRecord). x.id) t.id (queue_at m.queues cpu).asleep
        (elsewhere m t.id lane (AsleepAt cpu) k.placed h refl)))
        (nowhere (λ (x : TaskRecord). x.id) t.id (queue_at m.queues cpu).gone
        (elsewhere m t.id lane (GoneAt cpu) k.placed h refl));
  };
}

-- ---- turns
-- where a turn opens, the queue is that of the course's CPU
abbrev AtTurn : MachineState → ℕ → ℕ → Type 0
AtTurn m lane cpu = (cpu ≡ (course_at m.courses lane).cpu) × IsVersion m (course_at m.courses lane).version
    (course_at m.courses lane).masks

fit_of : (m : MachineState) (cpu : ℕ) (q : QueueState) (version : ℕ) (masks : List Mask)
    → FitsDomains (length m.versions) (domains_in_version m q.version cpu) q → IsVersion m version masks
    → FitCounters q version (shapes_of (domains_of m.header.cpus m.header.distances masks cpu))
fit_of m cpu q version masks k v e = by_counters q.counters k.counters
  where
    by_counters : (o : Option (List Counters)) → IfSome o (λ cs. length cs ≡ domains_in_version m q.version cpu)
        → MatchOption o (Unit {0}) (λ cs. length (shapes_of (domains_of m.header.cpus m.header.distances masks cpu)) ≡ length cs)
    by_counters None c = tt
    by_counters (Some cs) c =
        let same : masks ≡ masks_at m q.version = v.masks_are ∙ ap (masks_at m) e in
        length-map (domains_of m.header.cpus m.header.distances masks cpu) (λ d. d.shape)
        ∙ ap (λ (x : List Mask). length (domains_of m.header.cpus m.header.distances x cpu)) same ∙ sym c

fits_here : (m : MachineState) (lane cpu : ℕ) → AtTurn m lane cpu → IsReady m
    → FitCounters (queue_at m.queues cpu) (course_at m.courses lane).version
    (shapes_of (turn_domains m.header (course_at m.courses lane)))
fits_here m lane cpu t k =
    let c = course_at m.courses lane in
    subst (λ (u : ℕ). FitCounters (queue_at m.queues cpu) c.version
    (shapes_of (domains_of m.header.cpus m.header.distances c.masks u))) t.0
    (fit_of m cpu (queue_at m.queues cpu) c.version c.masks (k.counts cpu) t.1)

in_order : (ds : List Domain) (at : ℕ → ℕ) → ((p : ℕ) → p < length ds → (get_or ds p no_domain).shape.position ≡ at p)
    → (i : ℕ) → IfSome (slice_get (shapes_of ds) i) (λ s. s.position ≡ at i)
in_order [] at h i = tt
in_order (d ∷ ds) at h zero = h 0 (omega arith)
in_order (d ∷ ds) at h (suc i) = in_order ds (λ p. at (suc p)) (λ p lt. h (suc p) (omega arith)) i

nodes_few : (cpus : List CpuRow) → list_all is_cpu cpus ≡ true → nodes_in_range cpus ≡ true
nodes_few cpus h = all_weaker is_cpu _ (λ row k. (and_parts _ _ k).1) cpus h

pub few_domains : DomainLaws → (h : Header) (masks : List Mask) (cpu : ℕ) → IsHeader h
    → length (domains_of h.cpus h.distances masks cpu) ≤ 18
few_domains laws h masks cpu accepted = laws.few h.cpus h.distances masks cpu (can_be_read h accepted)
    (nodes_few h.cpus accepted.cpus)

turn_asks : DomainLaws → (m : MachineState) (lane cpu : ℕ) → IsReady m → cpu < length m.header.cpus
    → AtTurn m lane cpu → (s : Sight) → s.header ≡ m.header → s.course ≡ course_at m.courses lane
    → s.queue ≡ queue_at m.queues cpu → TurnAsks s
turn_asks laws m lane cpu k lt t s h c q = rw (h, c, q) (record {
  few =
      let d = course_at m.courses lane in
      let most = few_domains laws m.header d.masks d.cpu k.accepted in
      let l = length-map (turn_domains m.header d) (λ d. d.shape) in
      omega arith;
  in_order = let d = course_at m.courses lane in
      in_order (turn_domains m.header d) (λ i. i) (λ p lt. laws.order m.header.cpus m.header.distances d.masks d.cpu p lt);
  fit = fits_here m lane cpu t k;
})

-- ---- by the form of the lane's course
place_asks : DomainLaws → (m : MachineState) (lane cpu : ℕ) → cpu ≡ (course_at m.courses lane).cpu
    → IsAtPosition m lane (course_at m.courses lane)
    → IsOpenAt (queue_at m.queues cpu).open_turn (turn_domain m.header (course_at m.courses lane)).shape.position
place_asks laws m lane cpu e k =
    let c = course_at m.courses lane in
    let p = laws.order m.header.cpus m.header.distances c.masks c.cpu c.position (k.0.inside c.position k.1) in
    rw (e, k.0.opened, p) k.1

form_asks : DomainLaws → (f : Form) (m : MachineState) (lane cpu : ℕ) (w : What) → (course_at m.courses lane).form ≡ f
    → IsReady m → cpu < length m.header.cpus → TurnIn f m lane (course_at m.courses lane)
    → draws f m.header (course_at m.courses lane) (queue_at m.queues cpu) lane w ≡ true
    → is_owner w lane (queue_due f (course_at m.courses lane)) (Queue cpu) ≡ true →
    (s : Sight) → s.header ≡ m.header → s.course ≡ course_at m.courses lane → s.queue ≡ queue_at m.queues cpu → TrialAsks w s
unfolding draws leaving
form_asks laws f m lane cpu (Did r) e k lt t d o s h c q = tt
form_asks laws f m lane cpu (Out cause to ids) e k lt t d o s h c q = leaves_rightly s.course.form s.header s.course s.queue
form_asks laws Flight m lane cpu (Landed ids) e k lt t d o s h c q =
    rw (c, q) (landing_asks m lane cpu k lt (eqb-true cpu (course_at m.courses lane).to o))
form_asks laws Used m lane cpu (Turn ps) e k lt t d o s h c q =
    turn_asks laws m lane cpu k lt (eqb-true cpu (course_at m.courses lane).cpu o, t) s h c q
form_asks laws Used m lane cpu Shut e k lt t d o s h c q =
    turn_asks laws m lane cpu k lt (eqb-true cpu (course_at m.courses lane).cpu o, t) s h c q
form_asks laws Looked m lane cpu (Close p w i n) e k lt t d o s h c q =
    let x : is_pull (course_at m.courses lane).decision ≡ false =
    not-true _ ((and_parts (is_some (course_at m.courses lane).decision) _ d).1) in
    rw (h, c, q) (place_asks laws m lane cpu (eqb-true cpu (course_at m.courses lane).cpu (rw x at o)) t)
form_asks laws LandedForm m lane cpu (Close p w i n) e k lt t d o s h c q =
    rw (h, c, q) (place_asks laws m lane cpu (eqb-true cpu (course_at m.courses lane).cpu o) t)
form_asks laws f m lane cpu (Ask r) e k lt t d o s h c q = tt
form_asks laws f m lane cpu (Kick r) e k lt t d o s h c q = tt
form_asks laws Done m lane cpu Over e k lt t d o s h c q = let x = eqb-true cpu (course_at m.courses lane).cpu o in rw
    (q, x, t.opened) refl
form_asks laws f m lane cpu w e k lt t d o s h c q = absurd (let y : ⊥ = cc in y)

no_queue_is : (o : Owner) (due : Option ℕ) → is_no_queue o ≡ true → is_queue o due ≡ true → ⊥
no_queue_is (Queue cpu) due n q = let y : ⊥ = cc in y
no_queue_is Publisher due n q = let y : ⊥ = cc in y
no_queue_is (Lane l) due n q = let y : ⊥ = cc in y

not_queue : (o : Owner) (due : Option ℕ) (lane : ℕ) (w : What) (s : Sight) → is_no_queue o ≡ true
    → is_owner w lane due o ≡ true → TrialAsks w s
not_queue o due lane (Row a at command) s n q = tt
not_queue o due lane (Adopt v k cpu) s n q = tt
not_queue o due lane (Look p x fs d) s n q = tt
not_queue o due lane (Scan fs t) s n q = tt
not_queue o due lane (End cpus) s n q = tt
not_queue o due lane (Pub v) s n q = tt
not_queue o due lane w s n q = absurd (no_queue_is o due n q)

pub calls_may_be_tried : DomainLaws → CallsMayBeTried
unfolding sight
calls_may_be_tried laws m e k h = by_owner e.owner e.lane e.prev e.what h
  where
    by_owner : (o : Owner) (lane prev : ℕ) (w : What) → breaks m (entry o lane prev w) Stage ≡ false
        → TrialAsks w (sight m (entry o lane prev w))
    by_owner (Queue cpu) lane prev w h =
        let lets = staged m (entry (Queue cpu) lane prev w) h in
        let lt : cpu < length m.header.cpus = let z = k.sizes.queues in let y = staged_cpu m cpu lane prev w h in omega arith in
        form_asks laws (course_at m.courses lane).form m lane cpu w refl k lt (k.turns lane) lets.drawn lets.owner
        (sight m (entry (Queue cpu) lane prev w)) refl refl refl
    by_owner o lane prev w h = not_queue o
        (queue_due (course_at m.courses lane).form (course_at m.courses lane)) lane w
        (sight m (entry o lane prev w)) refl (staged m (entry o lane prev w) h).owner

pub calls_may_be_made : DomainLaws → CallsMayBeMade
unfolding sight
calls_may_be_made laws m e k h = by_what e.owner e.lane e.prev e.what h (calls_may_be_tried laws m e k (unbroken m e h Stage))
  where
    by_what : (o : Owner) (lane prev : ℕ) (w : What) → MayBeAdded m (entry o lane prev w)
        → TrialAsks w (sight m (entry o lane prev w)) → QueueAsks w (sight m (entry o lane prev w))
    by_what o lane prev (Did r) h t =
        let d = entry o lane prev (Did r) in
        let p = or_parts (leaves_instead (course_at m.courses lane).command (owned_queue o m) || same_reply r NotHere)
        _ (unbroken_here m d h ReplyRule) in
        command_asks m.header (course_at m.courses lane).command (owned_queue o m)
        ((or_parts (leaves_instead (course_at m.courses lane).command (owned_queue o m)) _ p.0).0)
        (k.fits lane).says.names (unbroken_here m d h OwedRule)
    by_what o lane prev w h t = t

-- ---- decisions
-- a span has no CPU past the greatest that there can be
span_below : DomainLaws → (m : MachineState) (c : Course) (p : ℕ) → IsReady m → p < length (turn_domains m.header c)
    → (k : ℕ) → has (get_or (turn_domains m.header c) p no_domain).shape.span k ≡ true → k < 64
span_below laws m c p r lt k y = let a =
    (laws.inside m.header.cpus m.header.distances c.masks c.cpu p lt).in_machine k y in let b = r.accepted.most_cpus in
    omega arith

spares_in : (f : Form) (h : Header) (c : Course) (q : QueueState) (lane p : ℕ) (x : Mask) (names : List FigName)
    (d : Decision) → draws f h c q lane (Look p x names d) ≡ true → Spares f h (unnamed c) → SparesLocal h c
unfolding draws
spares_in Position h c q lane p x names d y k = k
spares_in LandedForm h c q lane p x names d y k = k
spares_in f h c q lane p x names d y k = absurd (let z : ⊥ = cc in z)

looked_small : (m : MachineState) (names : List FigName) → IsReady m → (k : ℕ) → k < 64
    → IsSmall (fig_at (by_cpu (figures_named m.figures names)) k)
looked_small m names k j lt = rw (by_cpu_at (figures_named m.figures names) j lt) (named_small m.figures names j k.small)

-- a CPU whose figure is due is named
none_named : (figures : List (List Fig)) (k : ℕ) (names : List FigName)
    → is_some (find (λ f. f.cpu == k) (figures_named figures names)) ≡ false
    → list_all (λ c. not (c == k)) (map (λ (f : FigName). f.cpu) names) ≡ true
none_named figures k [] h = refl
none_named figures k (f ∷ names) h = by_test (f.cpu == k) refl h (none_named figures k names)
  where
    by_test : (b : Bool) → (f.cpu == k) ≡ b
        → is_some (cond b (Some (record { cpu = f.cpu; fig = get_or (figures_at figures f.cpu) f.n no_fig }))
        (find (λ f. f.cpu == k) (figures_named figures names))) ≡ false
        → (is_some (find (λ f. f.cpu == k) (figures_named figures names)) ≡ false
        → list_all (λ c. not (c == k)) (map (λ (f : FigName). f.cpu) names) ≡ true) →
        (not (f.cpu == k) && list_all (λ c. not (c == k)) (map (λ (f : FigName). f.cpu) names)) ≡ true
    by_test true e h go = absurd (let y : ⊥ = cc in y)
    by_test false e h go = rw e (go h)

named_each : (m : MachineState) (mask : Mask) (names : List FigName) (k : ℕ)
    → map (λ (f : FigName). f.cpu) names ≡ members mask → k < 64 → has mask k ≡ true
    → is_some (find (λ f. f.cpu == k) (figures_named m.figures names)) ≡ true
named_each m mask names k e lt there = by_test (is_some (find (λ f. f.cpu == k) (figures_named m.figures names))) refl
  where
    by_test : (b : Bool) → is_some (find (λ f. f.cpu == k) (figures_named m.figures names)) ≡ b → b ≡ true
    by_test true h = refl
    by_test false h =
        let others : list_all (λ c. not (c == k)) (members mask) ≡ true = rw (← e) (none_named m.figures k names h) in
        let n = all_members_at (λ c. not (c == k)) mask others k lt there in
        absurd (let w : not (k == k) ≡ false = rw (eq-eqb k k refl) refl in let y : ⊥ = cc in y)

pub look_due : (f : Form) (s : Sight) (lane p : ℕ) (x : Mask) (names : List FigName) (d : Decision)
    → draws f s.header s.course s.queue lane (Look p x names d) ≡ true
    → figures_due f s ≡ without (turn_domain s.header s.course).shape.span s.course.excluded
unfolding draws
look_due Position s lane p x names d y = refl
look_due LandedForm s lane p x names d y = refl
look_due f s lane p x names d y = absurd (let z : ⊥ = cc in z)

pub scan_due : (f : Form) (e : Bool) (s : Sight) (lane : ℕ) (names : List FigName) (t : Option ℕ)
    → draws f s.header s.course s.queue lane (Scan names t) ≡ true → FitsForm e s.header f (unnamed s.course) →
    (figures_due f s ≡ without (widest_span s.header s.course) s.course.excluded) × (s.course.excluded ≡ no_cpus)
    × (0 < length (turn_domains s.header s.course))
unfolding draws
scan_due ScanDue e s lane names t y w = (refl, w.0, w.1)
scan_due f e s lane names t y w = absurd (let z : ⊥ = cc in z)

pub looks_may_be_decided : DomainLaws → LooksMayBeDecided
unfolding sight by_cpu
looks_may_be_decided laws m e k h n = by_what e.owner e.lane e.prev e.what h n
  where
    -- the CPUs of the span that are not excluded are named
    named_by : (o : Owner) (lane prev : ℕ) (w : What) (names : List FigName) (span : Mask)
        → (same_numbers (map (λ f. f.cpu) names) (members
        (figures_due (course_at m.courses lane).form (sight m (entry o lane prev w)))) ≡ true) →
        figures_due (course_at m.courses lane).form (sight m (entry o lane prev w)) ≡ without span
        (course_at m.courses lane).excluded → (j : ℕ) → j < 64 → has span j ≡ true
        → has (course_at m.courses lane).excluded j ≡ false → IsNamed (figures_named m.figures names) j
    named_by o lane prev w names span same due j lt y n =
        named_each m (without span (course_at m.courses lane).excluded) names j
        (numbers_same _ _ same ∙ ap members due) lt
        (left_has span (course_at m.courses lane).excluded j (k.fits lane).says.narrow lt y n)

    by_what : (o : Owner) (lane prev : ℕ) (w : What) → breaks m (entry o lane prev w) Stage ≡ false
        → breaks m (entry o lane prev w) Figure ≡ false → LookAsks w (sight m (entry o lane prev w))
    by_what o lane prev (Look p x names d) h n =
        let e = entry o lane prev (Look p x names d) in
        let c = course_at m.courses lane in
        let figs = by_cpu (figures_named m.figures names) in
        let lets = staged m e h in
        let inside = look_inside c.form m lane p x names d (sight m e).queue lets.drawn (k.turns lane) in
        let parts = parted laws m lane k inside in
        let small = λ (j : ℕ) (lt : j < 64). looked_small m names k j lt in
        let narrow = span_below laws m c c.position k inside in
        let wrong = or_parts _ _ (or_parts (breaks_here Figure (sight m e) e) _ n).0 in
        record {
          count = groups_few m.header.cpus m.header.distances c.masks c.cpu c.position inside;
          union = parts.whole;
          local = parts.own;
          kept = spares_in c.form m.header c (sight m e).queue lane p x names d lets.drawn (k.spares lane);
          figures = λ j y. let lt = narrow j y in let l =
              length-map-range_with_len (λ cpu. fig_or_none (find (λ f. f.cpu == cpu) (figures_named m.figures names)))
              0 64 in omega arith;
          named = λ j y n. named_by o lane prev (Look p x names d) names (turn_domain m.header c).shape.span
              (not-false _ wrong.0) (look_due c.form (sight m e) lane p x names d lets.drawn) j (narrow j y) y n;
          sums = record {
            nr = small_sum (λ g. g.nr) figs c.excluded (turn_domain m.header c).groups parts.apart (λ j lt. (small j lt).nr);
            load = small_sum (λ g. g.load) figs c.excluded (turn_domain m.header c).groups parts.apart
                (λ j lt. (small j lt).load);
            util = small_sum (λ g. g.util) figs c.excluded (turn_domain m.header c).groups parts.apart
                (λ j lt. (small j lt).util);
            runnable = small_sum (λ g. g.runnable) figs c.excluded (turn_domain m.header c).groups parts.apart
                (λ j lt. (small j lt).runnable);
          };
        }
    by_what o lane prev (Scan names t) h n =
        let e = entry o lane prev (Scan names t) in
        let c = course_at m.courses lane in
        let due = scan_due c.form m.ended (sight m e) lane names t (staged m e h).drawn (k.fits lane).form in
        let last = length (turn_domains m.header c) - 1 in
        let some = due.2 in
        let narrow = span_below laws m c last k (omega arith) in
        let wrong = or_parts _ _ (or_parts (breaks_here Figure (sight m e) e) _ n).0 in
        record {
          figures = λ j y. let lt = narrow j y in let l =
              length-map-range_with_len (λ cpu. fig_or_none (find (λ f. f.cpu == cpu) (figures_named m.figures names)))
              0 64 in omega arith;
          named = λ j y. named_by o lane prev (Scan names t) names (widest_span m.header c)
              (not-false _ wrong.0) due.0 j (narrow j y) y (ap (λ (x : Mask). has x j) due.1 ∙ none_excluded j);
        }
    by_what o lane prev w h n = tt
