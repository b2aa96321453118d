-- What an entry says that may be added to a ready machine is in the ranges of its text. The figures that
-- it names are of rising CPUs, and there is one at least.
-- For the laws `entries_fit` and `ready`.
use Rattle.std.proofs.Common.{arith, ◌≡◌, ℕ, zero, suc, ◌+◌, ◌<◌, ◌≤◌, Bool, true, false, ltb, List, [], ◌∷◌, map, filter, Option, Some, None, refl, sym, ◌∙◌, ap, ◌-◌, ◌^◌, cond, not, ◌==◌, ◌&&◌, ◌||◌, length, get_or, subst}
use Rattle.std.specs.List.{range_with_len, list_any, list_all}
use Rattle.std.proofs.lemmas.Bool.{and_from, and_parts, or_parts, lt-ltb, le-leb, eqb-true, eq-eqb, ltb-true, not-false}
use Rattle.lb_base.specs.declared.mask.Mask.{Mask}
use Rattle.lb_base.specs.declared.shape.Kind.{Kind}
use Rattle.lb_base.specs.declared.shape.Kind.TheVariants.{Tick as TickTurn, Idle, Nohz}
use Rattle.lb_base.specs.Mask.{has, members, members_below, without, no_cpus}
use Rattle.lb_base.specs.Sets.{least}
use Rattle.lb_base.proofs.Sets.{all_members, all_members_at}
use Rattle.lb_interval.specs.declared.Counters.{Counters}
use Rattle.lb_imbalance.specs.declared.decision.Decision.{Decision}
use Rattle.lb_imbalance.specs.declared.decision.Decision.TheVariants.{NotMine, Balanced, Pull}
use Rattle.lb_imbalance.specs.Decision.{decision}
use Rattle.lb_imbalance.proofs.Groups.{left_has, some_group, group_in_span, all_have_small_sums}
use Rattle.lb_imbalance.proofs.Statistics.{all_in_range}
use Rattle.lb_trace.specs.declared.trace.Command.{Command}
use Rattle.lb_trace.specs.declared.trace.Command.TheVariants.{Wake, Sleep, Exit, SetMask, Nice, Tick, Rebuild}
use Rattle.lb_trace.specs.declared.trace.Header.{Header}
use Rattle.lb_trace.specs.Accepted.{is_mask, is_command, is_row, IsHeader}
use Rattle.lb_queue.specs.declared.answers.Reply.{Reply}
use Rattle.lb_queue.specs.declared.answers.Reply.TheVariants.{NotHere}
use Rattle.lb_queue.specs.Tasks.{occurs, ids}
use Rattle.lb_queue.specs.Queue.{QueueState, nobody, clock_at, milliseconds}
use Rattle.lb_queue.specs.Turns.{counters_found, counters_closed, due_positions, positions_by, positions_found}
use Rattle.lb_core.specs.declared.history.TheConstants.{MAX_TICKET}
use Rattle.lb_core.specs.declared.entry.FigName.{FigName}
use Rattle.lb_core.specs.declared.course.Course.{Course}
use Rattle.lb_core.specs.declared.course.Form.{Form}
use Rattle.lb_core.specs.declared.course.Form.TheVariants.{Looked, Landed as LandedForm}
use Rattle.lb_core.specs.declared.entry.OutcomeWord.{OutcomeWord}
use Rattle.lb_core.specs.declared.entry.Owner.{Owner}
use Rattle.lb_core.specs.declared.entry.Owner.TheVariants.{Publisher, Lane, Queue}
use Rattle.lb_core.specs.declared.entry.What.{What}
use Rattle.lb_core.specs.declared.entry.What.TheVariants.{Row, Adopt, Look, Scan, End, Did, Out, Landed, Turn, Shut, Close, Ask, Kick, Over, Pub}
use Rattle.lb_core.specs.declared.entry.Entry.{Entry}
use Rattle.lb_core.specs.declared.place.Place.TheVariants.{Hand as HandOf}
use Rattle.lb_core.specs.declared.rule.Rule.TheVariants.{Prev, Stage, Reply as ReplyRule, Version, Figure, Decision as DecisionRule, Pick, Flight, Counters as CountersRule, End as EndRule}
use Rattle.lb_core.specs.Same.{same_numbers, same_number, same_reply}
use Rattle.lb_core.specs.Course.{turn_kind, turn_domains, turn_domain, shapes_of, domain_at, outcome_of, flag_of, source_of}
use Rattle.lb_core.specs.Sight.{Sight, by_cpu, tickless_in}
use Rattle.lb_core.specs.Stage.{draws, is_owner}
use Rattle.lb_core.specs.Leaving.{Leaving, leaving, out_by}
use Rattle.lb_core.specs.Rules.{figures_due, is_other_out, closed_counters, positions_due}
use Rattle.lb_core.specs.CourseAfter.{takes_off, course_by, drew, cpu_of, course_after}
use Rattle.lb_core.specs.QueueAfter.{queue_after}
use Rattle.lb_core.specs.Machine.{MachineState, queue_at, course_at, entries_at, sight}
use Rattle.lb_core.specs.Elsewhere.{unserved}
use Rattle.lb_core.specs.Step.{after}
use Rattle.lb_core.specs.Legal.{MayBeAdded}
use Rattle.lb_core.specs.OfTrace.{row_of}
use Rattle.lb_core.specs.Placed.{times, is_its_place}
use Rattle.lb_core.specs.Ranges.{is_short, is_any, is_figure, comes_after, rise_after, are_figures, is_long, is_target, is_told, command_fits, decision_fits, what_fits, owner_fits, entry_fits}
use Rattle.lb_core.specs.OpenTurns.{TurnIn}
use Rattle.lb_core.proofs.Unbroken.{unbroken, unbroken_here, unbroken_elsewhere}
use Rattle.lb_core.proofs.Equality.{mask_is, decision_is, numbers_same}
use Rattle.lb_core.proofs.Placing.{entry, form_lets, lane_there, cpu_there}
use Rattle.lb_ready.specs.Ready.{Fits, IsReady, nice_fits, IsInRange}
use Rattle.lb_ready.specs.Laws.{StaysReady, LooksMayBeDecided}
use Rattle.lb_ready.proofs.Names.{unpublished}
use Rattle.lb_ready.proofs.Calls.{look_due, scan_due, few_domains}
use Rattle.lb_ready.proofs.Changes.{course_of_lane, course_left}
use Rattle.lb_ready.proofs.Counting.{least_found, where_narrow, cond_by}
use Rattle.lb_ready.proofs.Keeping.{InWork, look_inside, row_next, DomainLaws, can_be_read}
use Rattle.lb_ready.proofs.Courses.{drew_by}
use Rattle.lb_ready.proofs.Counters.{closed_in}
use Rattle.lb_ready.proofs.Decisions.{AmountIn, amount_in}
use Rattle.lb_ready.proofs.Fitting.{none_excluded, none_wide}

-- ---- figures that are named
rises : (p : ℕ → Bool) (a n : ℕ) (names : List FigName) (last : Option ℕ)
    → ((c : ℕ) → a ≤ c → comes_after last c ≡ true)
    → map (λ (f : FigName). f.cpu) names ≡ filter p (range_with_len a n) → rise_after last names ≡ true
rises p a zero [] last after e = refl
rises p a zero (f ∷ fs) last after e = absurd (let z : ⊥ = cc in z)
rises p a (suc n) names last after e = by_test (λ fs l. rises p (a + 1) n fs l) (p a) refl
  where
    Later : Type 0
    Later = (fs : List FigName) (l : Option ℕ) → ((c : ℕ) → a + 1 ≤ c → comes_after l c ≡ true)
        → map (λ (f : FigName). f.cpu) fs ≡ filter p (range_with_len (a + 1) n) → rise_after l fs ≡ true

    first : Later → (names : List FigName)
        → map (λ (f : FigName). f.cpu) names ≡ a ∷ filter p (range_with_len (a + 1) n) → rise_after last names ≡ true
    first go [] e = absurd (let z : ⊥ = cc in z)
    first go (f ∷ fs) e =
        let here : f.cpu ≡ a = cc in
        let more : map (λ (f : FigName). f.cpu) fs ≡ filter p (range_with_len (a + 1) n) = cc in
        and_from (comes_after last f.cpu) _ (after f.cpu (omega (arith, here)))
        (go fs (Some f.cpu) (λ c le. lt-ltb f.cpu c (omega (arith, here, le))) more)

    by_test : Later → (b : Bool) → p a ≡ b → rise_after last names ≡ true
    by_test go true y = first go names (rw y at e)
    by_test go false y = go names last (λ c le. after c (omega (arith, le))) (rw y at e)

each_figure : (names : List FigName) (drawn : ℕ → ℕ) → list_all is_short (map (λ (f : FigName). f.cpu) names) ≡ true
    → list_any (λ (f : FigName). ltb (drawn f.cpu) f.n) names ≡ false → ((cpu : ℕ) → drawn cpu ≤ 18446744073709551615)
    → list_all is_figure names ≡ true
each_figure [] drawn short published few = refl
each_figure (f ∷ fs) drawn short published few =
    let s = and_parts (is_short f.cpu) _ short in
    let p = or_parts (ltb (drawn f.cpu) f.n) _ published in
    let n : f.n ≤ 18446744073709551615 = let le = unpublished (drawn f.cpu) f.n p.0 in let most = few f.cpu in omega
    (arith, le, most) in
    and_from (is_figure f) _ (and_from (is_short f.cpu) _ s.0 (le-leb f.n 18446744073709551615 n))
    (each_figure fs drawn s.1 p.1 few)

some_named : (mask : Mask) (k : ℕ) (names : List FigName) → map (λ (f : FigName). f.cpu) names ≡ members mask → k < 64
    → has mask k ≡ true → is_any names ≡ true
some_named mask k [] e lt there = absurd
    (let z : false ≡ true = all_members_at (λ k. false) mask (ap (list_all (λ k. false)) (sym e)) k lt there in cc)
some_named mask k (f ∷ fs) e lt there = refl

-- figures of the CPUs of a mask, in their order
pub figures_fit : (mask : Mask) (k : ℕ) (names : List FigName) (drawn : ℕ → ℕ)
    → map (λ (f : FigName). f.cpu) names ≡ members mask → k < 64 → has mask k ≡ true
    → list_any (λ (f : FigName). ltb (drawn f.cpu) f.n) names ≡ false →
    ((cpu : ℕ) → drawn cpu ≤ 18446744073709551615) → are_figures names ≡ true
unfolding members members_below
figures_fit mask k names drawn e lt there published few =
    let short : list_all is_short (map (λ (f : FigName). f.cpu) names) ≡ true =
    ap (list_all is_short) e ∙ all_members is_short mask (λ c le y. le-leb c 4294967295 (omega (arith, le))) in
    and_from _ _ (and_from _ _ (some_named mask k names e lt there) (each_figure names drawn short published few))
    (rises (has mask) 0 64 names None (λ c le. refl) e)

-- ---- laws
-- what the laws before say, of ready machines and of domains
pub record ReadyLaws : Type 0 where
  pub stays : StaysReady
  pub looks : LooksMayBeDecided
  pub domains : DomainLaws

-- ---- numbers and masks
short : (n most : ℕ) → n < most → most ≤ 4096 → is_short n ≡ true
short n most lt le = le-leb n 4294967295 (omega (arith, lt, le))

long : (n : ℕ) → n ≤ 2 ^ 62 → is_long n ≡ true
long n le = le-leb n 18446744073709551615 (omega (arith, le))

cpu_below : (h : Header) (cpu : ℕ) → IsHeader h → cpu < length h.cpus → cpu < 64
cpu_below h cpu a lt = let most = a.most_cpus in omega arith

row_long : (n ticket : ℕ) → n ≤ ticket + 1 → ticket < MAX_TICKET → is_long n ≡ true
row_long n ticket le few = long n (omega arith)

interval_long : (i : ℕ) (c : Counters) → i ≡ c.interval → IsInRange c → is_long i ≡ true
interval_long i c e k = let most = k.interval in long i (omega arith)

mask_ok : (m : Mask) → m.bits < 2 ^ 64 → is_mask m ≡ true
mask_ok m lt = lt-ltb m.bits (2 ^ 64) lt

few_cpus : (h : Header) → IsHeader h → length h.cpus ≤ 4096
few_cpus h a = let n = a.most_cpus in omega (arith, n)

-- ---- rows
pub command_in : (h : Header) (c : Command) → IsHeader h → is_command h c ≡ true → command_fits c ≡ true
unfolding command_fits
command_in h (Wake t) a y = short t (length h.tasks) (ltb-true t (length h.tasks) y) a.most_tasks
command_in h (Sleep t) a y = short t (length h.tasks) (ltb-true t (length h.tasks) y) a.most_tasks
command_in h (Exit t) a y = short t (length h.tasks) (ltb-true t (length h.tasks) y) a.most_tasks
command_in h (SetMask t mask) a y = let p = and_parts (ltb t (length h.tasks)) _ y in
    and_from _ _ (short t (length h.tasks) (ltb-true t (length h.tasks) p.0) a.most_tasks) p.1
command_in h (Nice t nice) a y = let p = and_parts (ltb t (length h.tasks)) _ y in
    and_from _ _ (short t (length h.tasks) (ltb-true t (length h.tasks) p.0) a.most_tasks) p.1
command_in h (Tick cpu) a y = short cpu (length h.cpus) (ltb-true cpu (length h.cpus) y) (few_cpus h a)
command_in h (Rebuild []) a y = absurd (let z : ⊥ = cc in z)
command_in h (Rebuild (m ∷ ms)) a y = (and_parts _ _ (and_parts _ _ y).0).1

-- the row that an entry takes up is accepted
abbrev pub RowFits : Header → What → ℕ → Type 0
RowFits h w lane = list_all (is_row h) (row_of w lane) ≡ true

pub row_in_range : (h : Header) (w : What) (lane : ℕ) → RowFits h w lane → nice_fits w ≡ true
row_in_range h (Row n at (Nice t nice)) lane r = (and_parts _ _ (and_parts _ _ (and_parts _ _ r).0).1).1
row_in_range h (Row n at command) lane r = refl
row_in_range h w lane r = refl

pub fits_in_range : (w : What) → what_fits w ≡ true → nice_fits w ≡ true
unfolding what_fits command_fits
fits_in_range (Row n at (Nice t nice)) f = (and_parts _ _ (and_parts _ _ f).1).1
fits_in_range (Row n at command) f = refl
fits_in_range w f = refl

-- ---- tasks in hands
all_that_occur : (p : ℕ → Bool) (xs : List ℕ) → ((t : ℕ) → 1 ≤ occurs t xs → p t ≡ true) → list_all p xs ≡ true
all_that_occur p [] each = refl
all_that_occur p (x ∷ xs) each =
    let one : (x == x) ≡ true = eq-eqb x x refl in
    let here : 1 ≤ occurs x (x ∷ xs) = rw one (omega arith) in
    and_from (p x) _ (each x here) (all_that_occur p xs (λ t le. each t (omega (arith, le))))

hand_short : (m : MachineState) (lane : ℕ) → IsReady m → list_all is_short (ids (course_at m.courses lane).hand) ≡ true
hand_short m lane k = all_that_occur is_short (ids (course_at m.courses lane).hand)
    (λ t le. by_test t (is_its_place m (HandOf lane) t) refl (k.placed.once (HandOf lane) t) le)
  where
    by_test : (t : ℕ) (b : Bool) → is_its_place m (HandOf lane) t ≡ b
        → times m (HandOf lane) t ≡ cond {A = ℕ} (is_its_place m (HandOf lane) t) 1 0 → 1 ≤ times m (HandOf lane) t
        → is_short t ≡ true
    by_test t true e o le = short t (length m.header.tasks)
        (let lt = ltb-true t (length m.places) (and_parts (ltb t (length m.places)) _ e).0 in
        let z = k.placed.mapped in omega (arith, lt, z)) k.accepted.most_tasks
    by_test t false e o le = let z : times m (HandOf lane) t ≡ 0 = o ∙ rw e refl in absurd (omega (arith, z, le))

-- ---- the state after the entry
-- the lane's course after it is of the machine
record NextCourse (m : MachineState) (lane : ℕ) (c : Course) : Type 0 where
  ended : Bool
  fits : Fits ended m.header (m.ticket + 1) c
  hand : list_all is_short (ids c.hand) ≡ true

next_course : ReadyLaws → (m : MachineState) (o : Owner) (lane prev : ℕ) (w : What) → IsReady m
    → MayBeAdded m (entry o lane prev w) → nice_fits w ≡ true → NextCourse m lane (course_left m (entry o lane prev w))
unfolding after
next_course laws m o lane prev w k h r =
    let e = entry o lane prev w in
    let n = laws.stays m e k h r in
    let same = course_of_lane m e h in
    record {
      ended = (after m e).ended;
      fits = subst
          (λ (c : Course). Fits (after m e).ended m.header (m.ticket + 1) c) same (n.fits lane);
      hand =
          subst (λ (c : Course). list_all is_short (ids c.hand) ≡ true) same (hand_short (after m e) lane n);
    }

drew_cpu : (o : Owner) (n : ℕ) (c : Course) → (drew o n c).cpu ≡ c.cpu
drew_cpu o n c = drew_by (λ d. d.cpu ≡ c.cpu) o n c refl (λ u. refl)

drew_decision : (o : Owner) (n : ℕ) (c : Course) → (drew o n c).decision ≡ c.decision
drew_decision o n c = drew_by (λ d. d.decision ≡ c.decision) o n c refl (λ u. refl)

-- ---- looks and scans
decision_ok : (h : Header) (d : Decision) → IsHeader h → source_of (Some d) < length h.cpus → AmountIn d → decision_fits d ≡ true
unfolding decision_fits
decision_ok h NotMine a s i = refl
decision_ok h Balanced a s i = refl
decision_ok h (Pull source kind imbalance) a s i = and_from _ _ (short source (length h.cpus) s (few_cpus h a)) (long imbalance i)

-- the figures that an entry names, of the CPUs of a mask that has one
named_fit : (m : MachineState) (f : Form) (s : Sight) (names : List FigName) (mask : Mask) (cpu : ℕ) → IsReady m
    → m.ticket < MAX_TICKET → figures_due f s ≡ mask → cpu < 64 → has mask cpu ≡ true →
    same_numbers (map (λ n. n.cpu) names) (members (figures_due f s)) ≡ true
    → list_any (λ (n : FigName). ltb (entries_at m n.cpu) n.n) names ≡ false → are_figures names ≡ true
named_fit m f s names mask cpu k few e lt there same published =
    figures_fit mask cpu names (entries_at m) (numbers_same _ _ same ∙ ap members e) lt there published
    (λ u. let d = k.sizes.drawn u in omega (arith, d, few))

target_ok : (t : Option ℕ) (x : Mask) → same_number t (least x) ≡ true → is_target t ≡ true
target_ok None x h = refl
target_ok (Some cpu) x h = by_least (least x) refl h
  where
    by_least : (o : Option ℕ) → least x ≡ o → same_number (Some cpu) o ≡ true → is_short cpu ≡ true
    by_least None e y = absurd (let z : ⊥ = cc in z)
    by_least (Some c) e y = let i = eqb-true cpu c y in let lt = (least_found x c e).1 in le-leb cpu 4294967295
        (omega (arith, i, lt))

in_work_short : DomainLaws → (m : MachineState) (c : Course) → IsReady m → InWork m c → is_short c.position ≡ true
in_work_short laws m c k inside =
    let few = few_domains laws m.header c.masks c.cpu k.accepted in
    le-leb c.position 4294967295 (omega (arith, inside, few))

close_inside : (f : Form) (m : MachineState) (lane p : ℕ) (w : OutcomeWord) (i n : ℕ) (q : QueueState)
    → draws f m.header (course_at m.courses lane) q lane (Close p w i n) ≡ true
    → TurnIn f m lane (course_at m.courses lane) → InWork m (course_at m.courses lane)
unfolding draws
close_inside Looked m lane p w i n q y t = t.0.inside (course_at m.courses lane).position t.1
close_inside LandedForm m lane p w i n q y t = t.0.inside (course_at m.courses lane).position t.1
close_inside f m lane p w i n q y t = absurd (let z : ⊥ = cc in z)

-- ---- turns
positions_fit : (kind : Kind) (q : QueueState) (cs : _) (shapes : _) (now : ℕ) → (positions_by kind q cs shapes now).bits < 2 ^ 64
unfolding due_positions
positions_fit TickTurn q cs shapes now = where_narrow _
positions_fit Idle q cs shapes now = cond_by (λ x. x.bits < 2 ^ 64) (nobody q.awake) _ no_cpus (where_narrow _) none_wide
positions_fit Nohz q cs shapes now = cond_by (λ x. x.bits < 2 ^ 64) (nobody q.awake && q.tickless) _ no_cpus
    (where_narrow _) none_wide

found_fit : (q : QueueState) (at : ℕ) (kind : Kind) (version : ℕ) (shapes : _)
    → (positions_found q at kind version shapes).bits < 2 ^ 64
unfolding positions_found
found_fit q at kind version shapes = positions_fit kind q (counters_found q at version shapes) shapes
    (milliseconds (clock_at q at))

-- ---- tasks that leave
out_is : (o : Option Leaving) (cause : _) (to : ℕ) (tasks : List ℕ) → is_other_out o cause to tasks ≡ false
    → (l : Leaving) × (o ≡ Some l) × (to ≡ l.to) × (tasks ≡ ids l.hand)
out_is None cause to tasks h = absurd (let z : ⊥ = cc in z)
out_is (Some l) cause to tasks h =
    let p = or_parts _ _ h in
    let q = or_parts _ (not (to == l.to)) p.0 in (
      l,
      refl,
      eqb-true to l.to (not-false (to == l.to) q.1),
      numbers_same tasks (ids l.hand)
          (not-false (same_numbers tasks (ids l.hand)) p.1),
    )

told : (b c : Bool) (r : Reply) → ((b || same_reply r NotHere) || c) ≡ false → is_told r ≡ true
told b c NotHere h = absurd (let p = (or_parts b true (or_parts (b || true) c h).0).1 in let z : ⊥ = cc in z)
told b c r h = refl

-- ---- what an entry says
-- what is known of the machine and the entry
pub record Known (m : MachineState) (o : Owner) (lane prev : ℕ) (w : What) : Type 0 where
  pub ready : IsReady m
  pub few : m.ticket < MAX_TICKET
  pub may : MayBeAdded m (entry o lane prev w)
  pub row : RowFits m.header w lane

row_in : (m : MachineState) (o : Owner) (lane prev n at : ℕ) (command : Command)
    → Known m o lane prev (Row n at command) → what_fits (Row n at command) ≡ true
unfolding what_fits
row_in m o lane prev n at command k =
    let p = and_parts _ _ (and_parts _ true k.row).0 in
    let number = row_next m o lane prev n at command k.may (k.ready.fits lane).says.counted in
    let few = k.few in
    and_from _ _ (and_from _ _ (row_long n m.ticket number few) (and_parts _ _ p.0).1)
    (command_in m.header command k.ready.accepted p.1)

look_in : ReadyLaws → (m : MachineState) (o : Owner) (lane prev p : ℕ) (x : Mask) (names : List FigName)
    (d : Decision) → Known m o lane prev (Look p x names d) → what_fits (Look p x names d) ≡ true
unfolding what_fits sight course_after
look_in laws m o lane prev p x names d k =
    let e = entry o lane prev (Look p x names d) in
    let s = sight m e in
    let c = course_at m.courses lane in
    let domain = turn_domain m.header c in
    let lets = form_lets m e k.may in
    let inside = look_inside c.form m lane p x names d s.queue lets.1 (k.ready.turns lane) in
    let asks = laws.looks m e k.ready (unbroken m e k.may Stage) (unbroken m e k.may Figure) in
    let rule = or_parts _ _ (or_parts _ _ (unbroken_here m e k.may DecisionRule)).0 in
    let said = or_parts _ _ (unbroken_here m e k.may DecisionRule) in
    let place : p ≡ c.position = eqb-true p c.position (not-false (p == c.position) rule.0) in
    let mask : x ≡ c.excluded = mask_is x c.excluded (not-false _ rule.1) in
    let decided = decision_is d (decision domain.shape domain.groups (by_cpu s.figs) c.cpu (turn_kind c) c.excluded)
    (not-false _ said.1) in
    let fits = (k.ready.fits lane).says.narrow in
    let cpu = cpu_below m.header c.cpu k.ready.accepted (k.ready.fits lane).says.turned in
    let there = left_has domain.shape.span c.excluded c.cpu fits cpu
    (group_in_span domain.shape.span domain.groups asks.union 0
    (some_group domain.groups c.cpu asks.local) c.cpu asks.local) (asks.kept c.cpu asks.local) in
    let wrong = or_parts _ _ (unbroken_here m e k.may Figure) in
    let figures = named_fit m c.form s names (without domain.shape.span c.excluded) c.cpu k.ready k.few
    (look_due c.form s lane p x names d lets.1) cpu there (not-false _ wrong.0) (unbroken_elsewhere m e k.may Figure) in
    let next = next_course laws m o lane prev (Look p x names d) k.ready k.may refl in
    let source : source_of (Some d) < length m.header.cpus =
    subst (λ (y : Option Decision). source_of y < length m.header.cpus)
    (drew_decision o (s.count + 1) (course_by (Look p x names d) s (cpu_of o) (queue_after s e))) next.fits.says.pulled in
    let amount = amount_in domain.shape domain.groups (by_cpu s.figs) c.cpu (turn_kind c) c.excluded d decided
    (all_in_range domain.shape domain.groups (by_cpu s.figs) c.excluded
    (all_have_small_sums (by_cpu s.figs) c.excluded domain.groups asks.sums)) in
    and_from (is_short p && is_mask x && are_figures names) (decision_fits d)
    (and_from (is_short p && is_mask x) (are_figures names)
    (and_from (is_short p) (is_mask x) (rw place (in_work_short laws.domains m c k.ready inside))
    (rw mask (mask_ok c.excluded fits))) figures) (decision_ok m.header d k.ready.accepted source amount)

scan_in : ReadyLaws → (m : MachineState) (o : Owner) (lane prev : ℕ) (names : List FigName) (t : Option ℕ)
    → Known m o lane prev (Scan names t) → what_fits (Scan names t) ≡ true
unfolding what_fits sight
scan_in laws m o lane prev names t k =
    let e = entry o lane prev (Scan names t) in
    let s = sight m e in
    let c = course_at m.courses lane in
    let h = m.header in
    let lets = form_lets m e k.may in
    let due = scan_due c.form m.ended s lane names t lets.1 (k.ready.fits lane).form in
    let turned = (k.ready.fits lane).says.turned in
    let cpu = cpu_below m.header c.cpu k.ready.accepted turned in
    let last = length (turn_domains h c) - 1 in
    let some = due.2 in
    let domain = domain_at (turn_domains h c) last in
    let parted = laws.domains.part h.cpus h.distances c.masks (can_be_read h k.ready.accepted) c.cpu turned last
    (omega (arith, some)) in
    let fits = (k.ready.fits lane).says.narrow in
    let none : has c.excluded c.cpu ≡ false = ap (λ (y : Mask). has y c.cpu) due.1 ∙ none_excluded c.cpu in
    let there = left_has domain.shape.span c.excluded c.cpu fits cpu
    (group_in_span domain.shape.span domain.groups parted.whole 0 (some_group domain.groups c.cpu parted.own) c.cpu
    parted.own) none in
    let wrong = or_parts _ _ (unbroken_here m e k.may Figure) in
    let figures = named_fit m c.form s names
    (without domain.shape.span c.excluded) c.cpu k.ready k.few due.0 cpu there (not-false _ wrong.0)
    (unbroken_elsewhere m e k.may Figure) in
    and_from _ _ figures (target_ok t (tickless_in s.figs) (not-false _ (unbroken_here m e k.may DecisionRule)))

out_in : ReadyLaws → (m : MachineState) (cpu lane prev : ℕ) (cause : _) (to : ℕ) (tasks : List ℕ)
    → Known m (Queue cpu) lane prev (Out cause to tasks) → what_fits (Out cause to tasks) ≡ true
unfolding what_fits sight course_after leaving
out_in laws m cpu lane prev cause to tasks k =
    let e = entry (Queue cpu) lane prev (Out cause to tasks) in
    let c = course_at m.courses lane in
    let q = queue_at m.queues cpu in
    let found = out_is (out_by c.form m.header c q) cause to tasks (unbroken_here m e k.may Pick) in
    let l : Leaving = found.0 in
    let is : out_by c.form m.header c q ≡ Some l = found.1 in
    let n = (sight m e).count + 1 in
    let next = subst (λ (o : Option Leaving). NextCourse m lane (drew (Queue cpu) n (takes_off o c))) is
    (next_course laws m (Queue cpu) lane prev (Out cause to tasks) k.ready k.may refl) in
    let there : l.to < length m.header.cpus = next.fits.form in
    and_from (is_short to) (list_all is_short tasks)
    (rw found.2 (short l.to (length m.header.cpus) there (few_cpus m.header k.ready.accepted))) (rw found.3 next.hand)

close_in : ReadyLaws → (m : MachineState) (cpu lane prev p : ℕ) (w : OutcomeWord) (i f : ℕ)
    → Known m (Queue cpu) lane prev (Close p w i f) → what_fits (Close p w i f) ≡ true
unfolding what_fits sight closed_counters
close_in laws m cpu lane prev p w i f k =
    let e = entry (Queue cpu) lane prev (Close p w i f) in
    let s = sight m e in
    let c = course_at m.courses lane in
    let lets = form_lets m e k.may in
    let inside = close_inside c.form m lane p w i f s.queue lets.1 (k.ready.turns lane) in
    let place : p ≡ c.position = eqb-true p c.position (not-false (p == c.position) (unbroken_here m e k.may DecisionRule)) in
    let rule = or_parts _ _ (unbroken_here m e k.may CountersRule) in
    let counters = closed_in (queue_at m.queues cpu) c.at (turn_domain m.header c).shape (outcome_of m.header c)
    (flag_of c.taken) (k.ready.counters_in_range cpu) in
    let x : Counters = counters_closed (queue_at m.queues cpu) c.at (turn_domain m.header c).shape
    (outcome_of m.header c) (flag_of c.taken) in
    let interval = eqb-true i x.interval (not-false (i == x.interval) (or_parts _ _ rule.0).1) in
    let failures = eqb-true f x.failures (not-false (f == x.failures) rule.1) in
    and_from _ _ (and_from _ _ (rw place (in_work_short laws.domains m c k.ready inside))
    (interval_long i x interval counters)) (rw failures (le-leb x.failures 4294967295 counters.failures))

pub what_in : ReadyLaws → (m : MachineState) (o : Owner) (lane prev : ℕ) (w : What) → Known m o lane prev w → what_fits w ≡ true
unfolding what_fits sight course_after unserved
what_in laws m o lane prev (Row n at command) k = row_in m o lane prev n at command k
what_in laws m o lane prev (Adopt v kind cpu) k =
    let e = entry o lane prev (Adopt v kind cpu) in
    let s = sight m e in
    let version = unpublished (length m.versions) v (unbroken_elsewhere m e k.may Version) in
    let most = k.ready.sizes.few_versions in
    let few = k.few in
    let next = next_course laws m o lane prev (Adopt v kind cpu) k.ready k.may refl in
    let there : cpu < length m.header.cpus =
    subst (λ (y : ℕ). y < length m.header.cpus)
    (drew_cpu o (s.count + 1) (course_by (Adopt v kind cpu) s (cpu_of o) (queue_after s e))) next.fits.says.turned in
    and_from _ _ (long v (omega (arith, version, most, few)))
    (short cpu (length m.header.cpus) there (few_cpus m.header k.ready.accepted))
what_in laws m o lane prev (Look p x names d) k = look_in laws m o lane prev p x names d k
what_in laws m o lane prev (Scan names t) k = scan_in laws m o lane prev names t k
what_in laws m o lane prev (End cpus) k =
    let e = entry o lane prev (End cpus) in
    let same = mask_is cpus (unserved m) (not-false _ (or_parts _ _ (unbroken_elsewhere m e k.may EndRule)).1) in
    rw same (mask_ok _ (where_narrow _))
what_in laws m o lane prev (Did r) k = told _ _ r (unbroken_here m (entry o lane prev (Did r)) k.may ReplyRule)
what_in laws m (Queue cpu) lane prev (Out cause to tasks) k = out_in laws m cpu lane prev cause to tasks k
what_in laws m o lane prev (Out cause to tasks) k =
    absurd (let y = (form_lets m (entry o lane prev (Out cause to tasks)) k.may).0 in let z : ⊥ = cc in z)
what_in laws m o lane prev (Landed tasks) k =
    let same = numbers_same tasks (ids (course_at m.courses lane).hand)
    (not-false _ (unbroken_here m (entry o lane prev (Landed tasks)) k.may Flight)) in
    rw same (hand_short m lane k.ready)
what_in laws m o lane prev (Turn ps) k =
    let e = entry o lane prev (Turn ps) in
    let same = mask_is ps (positions_due (sight m e)) (not-false _ (unbroken_here m e k.may CountersRule)) in
    let c = course_at m.courses lane in
    rw same (mask_ok _ (found_fit (sight m e).queue c.at (turn_kind c) c.version (shapes_of (turn_domains m.header c))))
what_in laws m o lane prev Shut k = refl
what_in laws m (Queue cpu) lane prev (Close p w i f) k = close_in laws m cpu lane prev p w i f k
what_in laws m o lane prev (Close p w i f) k =
    absurd (let y = (form_lets m (entry o lane prev (Close p w i f)) k.may).0 in let z : ⊥ = cc in z)
what_in laws m o lane prev (Ask r) k = refl
what_in laws m o lane prev (Kick r) k = refl
what_in laws m o lane prev Over k = refl
what_in laws m Publisher lane prev (Pub v) k =
    let e = entry Publisher lane prev (Pub v) in
    let version = eqb-true v (length m.versions - 1 + 2) (not-false _ (unbroken_here m e k.may ReplyRule)) in
    let most = k.ready.sizes.few_versions in
    let few = k.few in
    long v (omega (arith, version, most, few))
what_in laws m o lane prev (Pub v) k = absurd (let y = (form_lets m (entry o lane prev (Pub v)) k.may).0 in let z : ⊥ = cc in z)

-- ---- whose it is
lane_own : (w : What) (lane number : ℕ) (due : Option ℕ) → is_owner w lane due (Lane number) ≡ true → (number == lane) ≡ true
lane_own (Row n at command) lane number due y = y
lane_own (Adopt v kind cpu) lane number due y = y
lane_own (Look p x names d) lane number due y = y
lane_own (Scan names t) lane number due y = y
lane_own (End cpus) lane number due y = y
lane_own w lane number due y = absurd (let z : ⊥ = cc in z)

owner_in : (m : MachineState) (o : Owner) (lane prev : ℕ) (w : What) → IsReady m → MayBeAdded m (entry o lane prev w)
    → owner_fits o lane ≡ true
unfolding owner_fits
owner_in m o lane prev w k h = by_owner o h
  where
    of_lane : (o : Owner) → MayBeAdded m (entry o lane prev w) → is_short lane ≡ true
    of_lane o h = let lt = lane_there m (entry o lane prev w) h in let z = k.sizes.courses in let few =
        k.accepted.most_lanes in le-leb lane 4294967295 (omega (arith, lt, z, few))

    by_owner : (o : Owner) → MayBeAdded m (entry o lane prev w) → owner_fits o lane ≡ true
    by_owner Publisher h = of_lane Publisher h
    by_owner (Lane number) h = and_from _ _ (of_lane (Lane number) h)
        (lane_own w lane number _ (form_lets m (entry (Lane number) lane prev w) h).0)
    by_owner (Queue cpu) h =
        let lt = cpu_there m cpu lane prev w h in
        let z = k.sizes.queues in
        and_from _ _ (short cpu (length m.header.cpus) (omega (arith, lt, z)) (few_cpus m.header k.accepted))
        (of_lane (Queue cpu) h)

-- the whole entry, at the next ticket
pub entry_in : ReadyLaws → (m : MachineState) (e : Entry) → IsReady m → m.ticket < MAX_TICKET → MayBeAdded m e
    → RowFits m.header e.what e.lane → entry_fits (m.ticket + 1) e ≡ true
unfolding entry_fits
entry_in laws m e k few h r =
    let prev = eqb-true e.prev (get_or m.last e.lane 0) (not-false _ (unbroken_elsewhere m e h Prev)) in
    let last = k.sizes.last e.lane in
    and_from _ _ (and_from _ _ (and_from _ _ (long (m.ticket + 1) (omega (arith, few)))
    (owner_in m e.owner e.lane e.prev e.what k h)) (long e.prev (omega (arith, prev, last, few))))
    (what_in laws m e.owner e.lane e.prev e.what (record { ready = k; few = few; may = h; row = r }))
