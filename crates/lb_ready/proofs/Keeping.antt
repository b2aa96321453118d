-- The opening machine of an accepted header is ready, and every entry that may be added, and is in range,
-- keeps the machine ready.
-- For the laws `calls_may_be_made` and `ready`.
use Rattle.std.proofs.Common.{◌≤◌, map, arith, ◌≡◌, ℕ, ◌+◌, ◌<◌, Bool, true, false, cond, ◌==◌, List, [], ◌∷◌, length, replicate, get_or, None, refl, ap, inl, inr, ◌∙◌, not, Option, Some, sym, subst, ltb, ◌++◌}
use Rattle.std.proofs.lemmas.List.{get_or-replicate, length-replicate, get_or_past}
use Rattle.std.specs.List.{list_all, range_with_len}
use Rattle.std.proofs.lemmas.Bool.{and_parts, and_from, cases_lt, or_parts, eqb-true, ltb-true, not-false}
use Rattle.std.proofs.lemmas.List.FromFn.{get_or-map-range_with_len, length-map-range_with_len}
use Rattle.lb_base.specs.declared.figure.Fig.{Fig}
use Rattle.lb_base.specs.declared.mask.Mask.{Mask}
use Rattle.lb_base.specs.declared.shape.Shape.{Shape}
use Rattle.lb_base.specs.declared.shape.Kind.{Kind}
use Rattle.lb_base.specs.Sets.{is_below, are_disjoint}
use Rattle.lb_base.specs.Figures.{no_fig}
use Rattle.lb_base.specs.Mask.{has}
use Rattle.lb_pelt.specs.Signal.{zero_signal}
use Rattle.lb_imbalance.specs.declared.decision.Decision.{Decision}
use Rattle.lb_imbalance.specs.declared.decision.Decision.TheVariants.{NotMine, Balanced, Pull}
use Rattle.lb_imbalance.specs.Decision.{decision, group_at}
use Rattle.lb_levels.specs.Faults.{CanBeRead}
use Rattle.lb_domain.specs.Parted.{IsParted}
use Rattle.lb_domain.specs.Laws.{AreFew, StandInOrder, LieInside, GroupsPart}
use Rattle.lb_trace.specs.declared.trace.Header.{Header}
use Rattle.lb_trace.specs.declared.trace.TaskRow.{TaskRow}
use Rattle.lb_trace.specs.declared.trace.Command.{Command}
use Rattle.lb_trace.specs.declared.trace.Command.TheVariants.{Wake, Sleep, Exit, SetMask, Nice, Tick, Rebuild}
use Rattle.lb_trace.specs.Accepted.{is_task, IsHeader}
use Rattle.lb_queue.specs.declared.answers.OutCause.TheVariants.{Pull as PullOut}
use Rattle.lb_queue.specs.declared.answers.OutCause.{OutCause}
use Rattle.lb_queue.specs.Queue.{QueueState}
use Rattle.lb_queue.specs.Figures.{figure}
use Rattle.lb_queue.specs.Requests.{has_owed}
use Rattle.lb_core.specs.declared.course.Form.{Form}
use Rattle.lb_core.specs.declared.course.Form.TheVariants.{Position, Looked, Landed as LandedForm}
use Rattle.lb_core.specs.declared.course.Course.{Course}
use Rattle.lb_core.specs.declared.entry.FigName.{FigName}
use Rattle.lb_core.specs.declared.entry.Owner.{Owner}
use Rattle.lb_core.specs.declared.entry.Owner.TheVariants.{Publisher, Lane, Queue}
use Rattle.lb_core.specs.declared.entry.What.{What}
use Rattle.lb_core.specs.declared.entry.What.TheVariants.{Row, Look, Scan, Did, Out}
use Rattle.lb_core.specs.declared.entry.Entry.{Entry}
use Rattle.lb_core.specs.declared.rule.Rule.TheVariants.{Row as RowRule, Decision as DecisionRule, Pick, End as EndRule}
use Rattle.lb_core.specs.Course.{opening_course, source_of, turn_kind, is_pull, turn_domain, turn_domains}
use Rattle.lb_core.specs.Machine.{MachineState, queue_at, course_at, no_course, tasks_at, opening_queue, start, figures_at, figures_named, sight, owned_queue}
use Rattle.lb_core.specs.Placed.{IsPlaced, PlacedOpens, PlacedStays}
use Rattle.lb_core.specs.Stage.{draws}
use Rattle.lb_core.specs.Sight.{by_cpu}
use Rattle.lb_core.specs.Leaving.{Leaving, leaving, out_by}
use Rattle.lb_core.specs.Rules.{is_undeclared}
use Rattle.lb_core.specs.QueueAfter.{rest_of, queue_after}
use Rattle.lb_core.specs.CourseAfter.{takes_off, cpu_of, course_after, drew}
use Rattle.lb_core.specs.Step.{after, ended_after}
use Rattle.lb_core.specs.Legal.{MayBeAdded, MayFollow, run}
use Rattle.lb_core.specs.Permitted.{PermittedAlways, IsPermitted}
use Rattle.lb_core.specs.OpenTurns.{TurnsStayOpen, KeepsTurn, TurnIn}
use Rattle.lb_core.specs.TurnCounters.{TurnsFitAlways, FitsDomains, domains_in_version}
use Rattle.lb_core.proofs.Opening.{opening_at}
use Rattle.lb_core.proofs.Unbroken.{unbroken_here, unbroken_elsewhere}
use Rattle.lb_core.proofs.EmptyHands.{is_out}
use Rattle.lb_core.proofs.Equality.{decision_is, number_is}
use Rattle.lb_core.proofs.Placing.{cpu_there, form_lets, leaving_is, entry}
use Rattle.lb_core.proofs.Next.{run-append}
use Rattle.lb_ready.specs.Ready.{ScansVersion, IsSmall, is_mask_in, is_task_in, Fits, IsQueueOf, NamesPublished, HasSizes, IsReady, PullsSparing, Spares, is_pulling, nice_fits, Names, Speaks, unnamed, KeepsLocal, IsReached, AreInRange}
use Rattle.lb_ready.proofs.Queues.{queue_fits, out_goes}
use Rattle.lb_ready.proofs.Figures.{figure_small, lens, snoc_small, none_tickless, tickless_inside, source_inside, small_kept}
use Rattle.lb_ready.proofs.Decisions.{source_found}
use Rattle.lb_ready.proofs.Scans.{scans_stay, scans_kept}
use Rattle.lb_ready.proofs.Changes.{course_now, queue_now, sizes_kept, course_left, queue_left}
use Rattle.lb_ready.proofs.Fitting.{Brings, course_fits, drew_fits, later_fits, look_spares, off_spares, spares_after, source_apart, later}
use Rattle.lb_ready.proofs.Names.{names_kept, names_stay}
use Rattle.lb_ready.proofs.Steps.{of_cause, QueueLaws}
use Rattle.lb_ready.proofs.Work.{out_says}
use Rattle.lb_ready.proofs.Owed.{owed_kept}
use Rattle.lb_ready.proofs.Courses.{drew_by}
use Rattle.lb_ready.proofs.Counters.{none_in, counters_in}

-- ---- courses
opening_fits : (h : Header) (n : ℕ) → 0 < length h.cpus → Fits false h 0 (opening_course n)
opening_fits h n some = record {
  says = record {
    counted = omega arith;
    turned = some;
    pulled = some;
    tickless = λ k y. absurd (none_tickless k y);
    names = tt;
    masks = refl;
    narrow = omega arith;
  };
  form = tt;
}

-- each lane has such a course
pub opening_course_at : (h : Header) (lane : ℕ) → (n : ℕ) × (course_at (start h).courses lane ≡ opening_course n)
unfolding start
opening_course_at h lane = elim (cases_lt lane h.lanes) [
  | inl lt ↦ (length h.cpus, get_or-replicate h.lanes lane (opening_course (length h.cpus)) no_course lt)
  | inr ge ↦ (
    0,
    get_or_past (replicate h.lanes (opening_course (length h.cpus))) lane no_course
        (let e = length-replicate h.lanes (opening_course (length h.cpus)) in omega arith),
  )
]

pub zero_at : (n k : ℕ) → get_or {A = ℕ} (replicate n 0) k 0 ≡ 0
zero_at n k = elim (cases_lt k n) [
  | inl lt ↦ get_or-replicate n k 0 0 lt
  | inr ge ↦ get_or_past (replicate n 0) k 0 (let e : length (replicate {A = ℕ} n 0) ≡ n = length-replicate n 0 in omega arith)
]

opening_named : (m : MachineState) (n : ℕ) → NamesPublished m (opening_course n)
opening_named m n = record { version = omega arith; figures = λ cpu. let e = zero_at n cpu in omega arith }

-- ---- queues
tasks_below : (n cpu id : ℕ) (rows : List TaskRow) → list_all (is_task n) rows ≡ true
    → list_all (λ t. is_task_in n t) (tasks_at cpu id rows) ≡ true
tasks_below n cpu id [] h = refl
tasks_below n cpu id (row ∷ rows) h =
    let p = and_parts (is_task n row) _ h in
    let q = and_parts _ _ ((and_parts _ _ p.0).0) in
    by_home (row.home == cpu) (and_from (is_below row.mask n) _ q.1 ((and_parts _ _ q.0).1)) (tasks_below n cpu (id + 1) rows p.1)
  where
    by_home : (b : Bool) → is_mask_in n row.mask ≡ true → list_all (λ t. is_task_in n t) (tasks_at cpu (id + 1) rows) ≡ true →
        list_all (λ t. is_task_in n t) (cond b
        (record { id = id; nice = row.nice; mask = row.mask; signal = zero_signal; put_down = None } ∷ tasks_at
        cpu (id + 1) rows) (tasks_at cpu (id + 1) rows)) ≡ true
    by_home true m k = and_from _ _ (and_from (is_mask_in n row.mask) _ m refl) k
    by_home false m k = k

opening_queue_of : (h : Header) (cpu : ℕ) → IsHeader h → IsQueueOf (length h.cpus) cpu (opening_queue h cpu)
unfolding opening_queue
opening_queue_of h cpu accepted = record {
  own = refl;
  machine = refl;
  awake = refl;
  asleep = tasks_below (length h.cpus) cpu 0 h.tasks accepted.tasks;
  gone = refl;
  active = λ to e. absurd (let y : ⊥ = cc in y);
}

opening_in_range : (h : Header) (cpu : ℕ) → AreInRange (queue_at (start h).queues cpu).counters
unfolding opening_queue
opening_in_range h cpu = elim (opening_at h cpu) [ inl a ↦ rw a.0 (λ p. none_in) | inr b ↦ rw b.0 (λ p. none_in) ]

nothing_owed : (h : Header) (cpu : ℕ) → has_owed (queue_at (start h).queues cpu) ≡ false
unfolding opening_queue has_owed
nothing_owed h cpu = elim (opening_at h cpu)
    [ inl a ↦ ap (λ (q : QueueState). has_owed q) a.0 | inr b ↦ ap (λ (q : QueueState). has_owed q) b.0 ]

queue_there : (h : Header) (cpu : ℕ) → cpu < length h.cpus → queue_at (start h).queues cpu ≡ opening_queue h cpu
queue_there h cpu lt = elim (opening_at h cpu) [ inl a ↦ a.0 | inr b ↦ absurd (omega arith) ]

-- ---- sizes
pub opening_figures : (h : Header) (cpu : ℕ) → cpu < length h.cpus
    → figures_at (start h).figures cpu ≡ figure (opening_queue h cpu) 0 0 ∷ []
unfolding start
opening_figures h cpu lt = get_or-map-range_with_len (λ cpu. figure (opening_queue h cpu) 0 0 ∷ []) 0
    (length h.cpus) cpu cpu [] lt (omega arith)

pub no_figures : (h : Header) (cpu : ℕ) → length h.cpus ≤ cpu → figures_at (start h).figures cpu ≡ []
unfolding start
no_figures h cpu ge = get_or_past (map (λ cpu. figure (opening_queue h cpu) 0 0 ∷ [])
    (range_with_len 0 (length h.cpus))) cpu [] (let e =
    length-map-range_with_len (λ cpu. figure (opening_queue h cpu) 0 0 ∷ []) 0 (length h.cpus) in omega arith)

opening_sizes : (h : Header) → HasSizes (start h)
unfolding start
opening_sizes h = record {
  queues = length-map-range_with_len (opening_queue h) 0 (length h.cpus);
  figures = length-map-range_with_len (λ cpu. figure (opening_queue h cpu) 0 0 ∷ []) 0 (length h.cpus);
  courses = length-replicate h.lanes (opening_course (length h.cpus));
  lasts = length-replicate h.lanes 0;
  ticks = length-replicate (length h.cpus) (let none : Option ℕ = None in none);
  versions = omega arith;
  few_versions = omega arith;
  drawn = λ cpu. elim (cases_lt cpu (length h.cpus)) [
    | inl lt ↦ let e = ap (λ (fs : List Fig). length fs) (opening_figures h cpu lt) in omega arith
    | inr ge ↦ let e = ap (λ (fs : List Fig). length fs) (no_figures h cpu ge) in omega arith
  ];
  last = λ lane. let z = zero_at h.lanes lane in omega arith;
  published = λ cpu lt. let e = ap (λ (fs : List Fig). length fs)
      (get_or-map-range_with_len (λ cpu. figure (opening_queue h cpu) 0 0 ∷ []) 0 (length h.cpus) cpu cpu [] lt
      (omega arith)) in omega arith;
}

none_small : (n : ℕ) → IsSmall (get_or [] n no_fig)
none_small n = record { nr = omega arith; load = omega arith; util = omega arith; runnable = omega arith }

opening_small : (laws : QueueLaws) → (h : Header) → IsHeader h → IsPlaced (start h) → (cpu n : ℕ)
    → IsSmall (get_or (figures_at (start h).figures cpu) n no_fig)
unfolding start
opening_small laws h accepted placed cpu n = elim (cases_lt cpu (length h.cpus)) [
  | inl lt ↦
      let l = lens (start h) cpu placed accepted.most_tasks in
      let q = queue_there h cpu lt in
      let a : length (opening_queue h cpu).awake ≤ 4096 = rw q at l.0 in
      let b : length (opening_queue h cpu).asleep ≤ 4096 = rw q at l.1 in
      let f = figure_small laws (length h.cpus) cpu 0 0 (opening_queue h cpu) (opening_queue_of h cpu accepted) a b in
      rw (opening_figures h cpu lt) (snoc_small [] (figure (opening_queue h cpu) 0 0) n none_small f)
  | inr ge ↦ rw (no_figures h cpu ge) (none_small n)
]

-- ---- what an entry brings
there : (n t : ℕ) → not (ltb t n) ≡ false → t < n
there n t h = ltb-true t n (not-false _ h)

row_names : (h : Header) (n at : ℕ) (command : Command) → is_undeclared h command ≡ false
    → nice_fits (Row n at command) ≡ true → Names h (Some command)
row_names h n at (Wake t) d r = there (length h.tasks) t d
row_names h n at (Sleep t) d r = there (length h.tasks) t d
row_names h n at (Exit t) d r = there (length h.tasks) t d
row_names h n at (SetMask t mask) d r = there (length h.tasks) t d
row_names h n at (Nice t nice) d r = (there (length h.tasks) t d, r)
row_names h n at (Tick cpu) d r = there (length h.cpus) cpu d
row_names h n at (Rebuild parts) d r = tt

source_brought : (m : MachineState) (names : List FigName) (shape : Shape) (groups : List Mask) (cpu : ℕ)
    (kind : Kind) (excluded : Mask) (d : Decision) → HasSizes m → 0 < length m.header.cpus →
    d ≡ decision shape groups (by_cpu (figures_named m.figures names)) cpu kind excluded → source_of (Some d) < length
    m.header.cpus
source_brought m names shape groups cpu kind excluded NotMine sizes some e = some
source_brought m names shape groups cpu kind excluded Balanced sizes some e = some
source_brought m names shape groups cpu kind excluded (Pull s k i) sizes some e =
    let f = source_found shape groups (by_cpu (figures_named m.figures names)) cpu kind excluded s k i e in
    let lt = source_inside m.figures names s f.numbered f.awake in
    let z = sizes.figures in
    omega arith

owner_there : (m : MachineState) (o : Owner) (lane prev : ℕ) (w : What) → MayBeAdded m (entry o lane prev w)
    → 0 < length m.queues → cpu_of o < length m.queues
owner_there m (Queue cpu) lane prev w h some = cpu_there m cpu lane prev w h
owner_there m Publisher lane prev w h some = some
owner_there m (Lane l) lane prev w h some = some

-- the number of a row is the next of its lane
pub row_next : (m : MachineState) (o : Owner) (lane prev n at : ℕ) (command : Command)
    → MayBeAdded m (entry o lane prev (Row n at command)) → (course_at m.courses lane).rows ≤ m.ticket → n ≤ m.ticket + 1
unfolding sight
row_next m o lane prev n at command h less =
    let rows = (course_at m.courses lane).rows + 1 in
    let e = eqb-true n rows (not-false (n == rows)
    (or_parts (not (n == rows)) _ (unbroken_here m (entry o lane prev (Row n at command)) h RowRule)).0) in
    omega arith

brings : (m : MachineState) (o : Owner) (lane prev : ℕ) (w : What) → HasSizes m → 0 < length m.header.cpus
    → MayBeAdded m (entry o lane prev w) → nice_fits w ≡ true → (course_at m.courses lane).rows ≤ m.ticket
    → Brings m.header (m.ticket + 1) (sight m (entry o lane prev w)) (cpu_of o) w
unfolding sight
brings m o lane prev (Row n at command) sizes some h r less =
    let said = or_parts (not (n == (course_at m.courses lane).rows + 1)) _
    (unbroken_here m (entry o lane prev (Row n at command)) h RowRule) in
    (row_next m o lane prev n at command h less, row_names m.header n at command said.1 r)
brings m o lane prev (Look p x names d) sizes some h r less =
    source_brought m names _ _ _ _ _ d sizes some
    (decision_is d _ (not-false _ ((or_parts _ _ (unbroken_here m (entry o lane prev (Look p x names d)) h DecisionRule)).1)))
brings m o lane prev (Scan names t) sizes some h r less = (
  λ k y. let lt = tickless_inside m.figures names k y in let z = sizes.figures in omega arith,
  number_is t _ (not-false _ (unbroken_here m (entry o lane prev (Scan names t)) h DecisionRule)),
)
brings m o lane prev (Did reply) sizes some h r less = let z = sizes.queues in let k =
    owner_there m o lane prev (Did reply) h (omega arith) in omega arith
brings m o lane prev w sizes some h r less = tt

-- ---- tasks that leave
-- the course and the queue after an `out`
pub record OutFits (m : MachineState) (cpu : ℕ) (c : Course) (q : QueueState) : Type 0 where
  pub course : Fits false m.header (m.ticket + 1) c
  pub queue : IsQueueOf (length m.header.cpus) cpu q

live : (m : MachineState) (e : Entry) → MayBeAdded m e → m.ended ≡ false
live m e h = (or_parts m.ended _ (unbroken_elsewhere m e h EndRule)).0

off_fits : (h : Header) (n : ℕ) (o : Option Leaving) (l : Leaving) (c : Course) → o ≡ Some l → l.to < length h.cpus
    → list_all (λ t. is_task_in (length h.cpus) t) l.hand ≡ true → Speaks h n c → Fits false h n (takes_off o c)
off_fits h n o l c e to hand k = rw e (record {
  says =
      record {
        counted = k.counted;
        turned = k.turned;
        pulled = k.pulled;
        tickless = k.tickless;
        names = k.names;
        masks = hand;
        narrow = k.narrow;
      };
  form = to;
})

out_fits : (laws : QueueLaws) → (m : MachineState) (cpu lane prev : ℕ) (cause : OutCause) (to : ℕ) (ids : List ℕ)
    → IsReady m → MayBeAdded m (entry (Queue cpu) lane prev (Out cause to ids)) →
    OutFits m cpu (course_left m (entry (Queue cpu) lane prev (Out cause to ids)))
    (queue_left m (entry (Queue cpu) lane prev (Out cause to ids)))
unfolding course_after leaving queue_after sight
out_fits laws m cpu lane prev cause to ids k h =
    let e = entry (Queue cpu) lane prev (Out cause to ids) in
    let c = course_at m.courses lane in
    let q = queue_at m.queues cpu in
    let n = length m.header.cpus in
    let lt : cpu < n = let z = k.sizes.queues in let y = cpu_there m cpu lane prev (Out cause to ids) h in omega arith in
    let found = leaving_is (out_by c.form m.header c q) cause to ids (unbroken_here m e h Pick) in
    let l : Leaving = found.0 in
    let is : out_by c.form m.header c q ≡ Some l = found.1 in
    let says = (k.fits lane).says in
    let g = out_goes laws n cpu c.form m.header c q l says.turned (k.queues cpu lt) is in
    record {
      course = drew_fits false m.header (m.ticket + 1) (Queue cpu) ((sight m e).count + 1) _
          (off_fits m.header (m.ticket + 1) (out_by c.form m.header c q) l c is g.to g.hand (later m.header m.ticket c says));
      queue = let r : rest_of (out_by c.form m.header c q) q ≡ l.rest = ap (λ (x : Option Leaving). rest_of x q) is in
          rw r g.rest;
    }

-- ---- courses
course_kept : (m : MachineState) (o : Owner) (lane prev : ℕ) (w : What) → IsReady m
    → MayBeAdded m (entry o lane prev w) → nice_fits w ≡ true → is_out w ≡ false →
    Fits (ended_after w false) m.header (m.ticket + 1) (course_left m (entry o lane prev w))
unfolding course_after sight
course_kept m o lane prev w k h r n =
    let e = entry o lane prev w in
    let s = sight m e in
    let says = (k.fits lane).says in
    let some : 0 < length m.header.cpus = let t = says.turned in omega arith in
    drew_fits _ m.header (m.ticket + 1) o (s.count + 1) _
    (course_fits m.header (m.ticket + 1) s lane (cpu_of o) (queue_after s e) w k.accepted.most_cpus refl
    (form_lets m e h).1 n (brings m o lane prev w k.sizes some h r says.counted) (later m.header m.ticket s.course says))

courses_kept : (m : MachineState) (o : Owner) (lane prev : ℕ) (w : What) → IsReady m
    → MayBeAdded m (entry o lane prev w) → Fits (ended_after w false) m.header (m.ticket + 1)
    (course_left m (entry o lane prev w)) →
    (l : ℕ) → Fits (ended_after w m.ended) m.header (m.ticket + 1) (course_at (after m (entry o lane prev w)).courses l)
courses_kept m o lane prev w k h new =
    let e = entry o lane prev w in
    let alive = live m e h in
    subst (λ (b : Bool). (l : ℕ) → Fits (ended_after w b) m.header (m.ticket + 1) (course_at (after m e).courses l)) (sym alive)
    (course_now m e h (λ l c. Fits (ended_after w false) m.header (m.ticket + 1) c)
    (λ l. later_fits w m.header m.ticket (course_at m.courses l)
    (subst (λ (b : Bool). Fits b m.header m.ticket (course_at m.courses l)) alive (k.fits l))) new)

new_course : (laws : QueueLaws) → (m : MachineState) (o : Owner) (lane prev : ℕ) (w : What) → IsReady m
    → MayBeAdded m (entry o lane prev w) → nice_fits w ≡ true
    → Fits (ended_after w false) m.header (m.ticket + 1) (course_left m (entry o lane prev w))
new_course laws m (Queue cpu) lane prev (Out cause to ids) k h r = (out_fits laws m cpu lane prev cause to ids k h).course
new_course laws m o lane prev (Out cause to ids) k h r =
    absurd (let y = (form_lets m (entry o lane prev (Out cause to ids)) h).0 in let z : ⊥ = cc in z)
new_course laws m o lane prev w k h r = course_kept m o lane prev w k h r refl

-- ---- queues
new_queue : (laws : QueueLaws) → (m : MachineState) (cpu lane prev : ℕ) (w : What) → IsReady m
    → MayBeAdded m (entry (Queue cpu) lane prev w) → IsQueueOf (length m.header.cpus) cpu
    (queue_left m (entry (Queue cpu) lane prev w))
unfolding queue_after sight
new_queue laws m cpu lane prev (Out cause to ids) k h = (out_fits laws m cpu lane prev cause to ids k h).queue
new_queue laws m cpu lane prev w k h =
    let lt : cpu < length m.header.cpus = let z = k.sizes.queues in let y = cpu_there m cpu lane prev w h in omega arith in
    let says = (k.fits lane).says in
    queue_fits laws (length m.header.cpus) cpu
    (sight m (entry (Queue cpu) lane prev w)) w lane refl says.turned says.masks (k.queues cpu lt)

queue_of : (laws : QueueLaws) → (m : MachineState) (o : Owner) (lane prev : ℕ) (w : What) → IsReady m
    → MayBeAdded m (entry o lane prev w) → (cpu : ℕ) → o ≡ Queue cpu
    → IsQueueOf (length m.header.cpus) cpu (queue_left m (entry o lane prev w))
queue_of laws m o lane prev w k h cpu e =
    subst (λ (x : Owner). MayBeAdded m (entry x lane prev w)
    → IsQueueOf (length m.header.cpus) cpu (queue_left m (entry x lane prev w))) (sym e) (new_queue laws m cpu lane prev w k) h

-- ---- excluded CPUs
-- what the laws of domains say
pub record DomainLaws : Type 0 where
  pub few : AreFew
  pub order : StandInOrder
  pub inside : LieInside
  pub part : GroupsPart

pub can_be_read : (h : Header) → IsHeader h → CanBeRead h.cpus h.distances
can_be_read h accepted = record {
  some = let s = accepted.some_cpu in omega arith;
  few = accepted.most_cpus;
  good =
      accepted.machine;
}

-- the domain of the position in work
abbrev pub InWork : MachineState → Course → Type 0
InWork m c = c.position < length (turn_domains m.header c)

pub parted : DomainLaws → (m : MachineState) (lane : ℕ) → IsReady m → InWork m (course_at m.courses lane)
    → IsParted (course_at m.courses lane).cpu (turn_domain m.header (course_at m.courses lane))
parted laws m lane k lt = let c = course_at m.courses lane in
    laws.part m.header.cpus m.header.distances c.masks (can_be_read m.header k.accepted) c.cpu (k.fits lane).says.turned
    c.position lt

pub look_inside : (f : Form) (m : MachineState) (lane p : ℕ) (x : Mask) (names : List FigName) (d : Decision)
    (q : QueueState) → draws f m.header (course_at m.courses lane) q lane (Look p x names d) ≡ true
    → TurnIn f m lane (course_at m.courses lane) → InWork m (course_at m.courses lane)
unfolding draws
look_inside Position m lane p x names d q y t = t.0.inside (course_at m.courses lane).position t.1
look_inside LandedForm m lane p x names d q y t = t.0.inside (course_at m.courses lane).position t.1
look_inside f m lane p x names d q y t = absurd (let z : ⊥ = cc in z)

source_spared : (groups : List Mask) (shape : Shape) (figs : List Fig) (cpu : ℕ) (kind : Kind) (excluded : Mask)
    (d : Decision) → are_disjoint groups ≡ true → d ≡ decision shape groups figs cpu kind excluded
    → is_pull (Some d) ≡ true → has (group_at groups 0) (source_of (Some d)) ≡ false
source_spared groups shape figs cpu kind excluded (Pull s k i) a e p = let f =
    source_found shape groups figs cpu kind excluded s k i e in source_apart groups f.group s a f.after_local f.numbered f.member
source_spared groups shape figs cpu kind excluded d a e p = absurd (let z : ⊥ = cc in z)

pulls_spare : (o : OutCause) (h : Header) (c : Course) → is_pulling o ≡ false → PullsSparing o h c
pulls_spare PullOut h c n = absurd (let z : ⊥ = cc in z)
pulls_spare o h c n = tt

looked_spares : (o : OutCause) (h : Header) (c : Course) → is_pull c.decision ≡ true → Spares Looked h c → PullsSparing o h c
looked_spares PullOut h c p k = (k.0, k.1 p)
looked_spares o h c p k = tt

drew_local : (h : Header) (o : Owner) (n : ℕ) (c : Course) → KeepsLocal h c → KeepsLocal h (drew o n c)
drew_local h o n c k = drew_by (KeepsLocal h) o n c k (λ u. k)

new_spares : DomainLaws → (m : MachineState) (o : Owner) (lane prev : ℕ) (w : What) → IsReady m
    → MayBeAdded m (entry o lane prev w) → KeepsLocal m.header (course_left m (entry o lane prev w))
unfolding course_after sight leaving
new_spares laws m o lane prev (Look p x names d) k h =
    let e = entry o lane prev (Look p x names d) in
    let c = course_at m.courses lane in
    let lets = form_lets m e h in
    let domain = turn_domain m.header c in
    let inside = look_inside c.form m lane p x names d (sight m e).queue lets.1 (k.turns lane) in
    let right = decision_is d (decision domain.shape domain.groups (by_cpu (figures_named m.figures names)) c.cpu
    (turn_kind c) c.excluded) (not-false _ ((or_parts _ _ (unbroken_here m e h DecisionRule)).1)) in
    let apart = source_spared domain.groups domain.shape (by_cpu (figures_named m.figures names)) c.cpu
    (turn_kind c) c.excluded d (parted laws m lane k inside).apart right in
    drew_local m.header o ((sight m e).count + 1) _
    (look_spares c.form m.header (sight m e) lane (cpu_of o) (queue_left m e) p x names d lets.1 apart (k.spares lane))
new_spares laws m o lane prev (Out cause to ids) k h =
    let e = entry o lane prev (Out cause to ids) in
    let c = course_at m.courses lane in
    let q = owned_queue o m in
    let lets = form_lets m e h in
    drew_local m.header o ((sight m e).count + 1) _ (off_spares m.header (out_by c.form m.header c q) c
    (λ l is. of_cause (λ x. PullsSparing x m.header (unnamed c)) c.form m.header c q l
    (λ x n. pulls_spare x m.header (unnamed c) n)
    (λ f x. looked_spares x m.header (unnamed c) ((out_says c.form m.header c q lane cause to ids lets.1).1 f)
    (subst (λ (g : Form). Spares g m.header (unnamed c)) f (k.spares lane))) is) (k.spares lane))
new_spares laws m o lane prev w k h =
    let e = entry o lane prev w in
    drew_local m.header o ((sight m e).count + 1) _
    (spares_after (course_at m.courses lane).form m.header (sight m e) lane (cpu_of o) (queue_left m e) w refl
    (form_lets m e h).1 refl refl (k.spares lane))

counters_now : (laws : QueueLaws) (m : MachineState) (o : Owner) (lane prev : ℕ) (w : What) (cpu : ℕ) → o ≡ Queue cpu
    → AreInRange (queue_at m.queues cpu).counters → AreInRange (queue_left m (entry o lane prev w)).counters
unfolding queue_after sight
counters_now laws m (Queue u) lane prev w cpu i a = let e : u ≡ cpu = cc in
    counters_in laws (sight m (entry (Queue u) lane prev w)) lane w
    (subst (λ (x : ℕ). AreInRange (queue_at m.queues x).counters) (sym e) a)
counters_now laws m o lane prev w cpu i a = absurd (let y : ⊥ = cc in y)

-- ---- ready machines
-- what the laws of the crates below say
pub record LawsBelow : Type 0 where
  pub queues : QueueLaws
  pub domains : DomainLaws
  pub opens : PlacedOpens
  pub stays : PlacedStays
  pub permitted : PermittedAlways
  pub turns : TurnsStayOpen
  pub counts : TurnsFitAlways

-- what holds of every front
pub record AtFront (m : MachineState) : Type 0 where
  pub permitted : IsPermitted m
  pub turns : (lane : ℕ) → KeepsTurn m lane (course_at m.courses lane)
  pub counts : (cpu : ℕ) → (let q = queue_at m.queues cpu in FitsDomains (length m.versions)
      (domains_in_version m q.version cpu) q)

at_front : (laws : LawsBelow) (m : MachineState) → IsHeader m.header → IsReached m → AtFront m
at_front laws m accepted k = subst AtFront k.is (record {
  permitted = laws.permitted m.header k.front accepted k.legal;
  turns = λ lane. laws.turns m.header k.front lane k.legal;
  counts = λ cpu. laws.counts m.header k.front cpu k.legal;
})

-- one entry more
follow_more : (es : List Entry) (m : MachineState) (e : Entry) → MayFollow es m → MayBeAdded (run es m) e
    → MayFollow (es ++ e ∷ []) m
follow_more [] m e l h = (h, tt)
follow_more (x ∷ es) m e l h = (l.0, follow_more es (after m x) e l.1 h)

reached_after : (m : MachineState) (e : Entry) → IsReached m → MayBeAdded m e → IsReached (after m e)
unfolding after
reached_after m e k h = record {
  front = k.front ++ e ∷ [];
  legal = follow_more k.front (start m.header) e k.legal (subst (λ (x : MachineState). MayBeAdded x e) (sym k.is) h);
  is = run-append k.front (e ∷ []) (start m.header) ∙ ap (λ (x : MachineState). after x e) k.is;
}

pub ready_start : (laws : LawsBelow) (h : Header) → IsHeader h → IsReady (start h)
unfolding start
ready_start laws h accepted =
    let reached : IsReached (start h) = record { front = []; legal = tt; is = refl } in
    let facts = at_front laws (start h) accepted reached in
    let placed = laws.opens h accepted in
    record {
      reached = reached;
      accepted = accepted;
      sizes = opening_sizes h;
      placed = placed.0;
      permitted = facts.permitted;
      hands = placed.1;
      fits = λ lane. let c = opening_course_at h lane in rw c.1
          (opening_fits h c.0 (let some = accepted.some_cpu in omega arith));
      queues = λ cpu lt. rw (queue_there h cpu lt) (opening_queue_of h cpu accepted);
      owed = λ cpu y. let n = nothing_owed h cpu in absurd (let z : ⊥ = cc in z);
      named = λ lane. let c = opening_course_at h lane in rw c.1 (opening_named (start h) c.0);
      turns = facts.turns;
      scans = λ lane. let c = opening_course_at h lane in rw c.1 tt;
      spares = λ lane. let c = opening_course_at h lane in rw c.1 tt;
      small = opening_small laws.queues h accepted placed.0;
      counts = facts.counts;
      counters_in_range = opening_in_range h;
    }

pub ready_kept : (laws : LawsBelow) (m : MachineState) (o : Owner) (lane prev : ℕ) (w : What) → IsReady m
    → MayBeAdded m (entry o lane prev w) → nice_fits w ≡ true → IsReady (after m (entry o lane prev w))
unfolding after
ready_kept laws m o lane prev w k h r =
    let e = entry o lane prev w in
    let reached = reached_after m e k.reached h in
    let facts = at_front laws (after m e) k.accepted reached in
    let placed = laws.stays m e k.placed k.hands h in
    record {
      reached = reached;
      accepted = k.accepted;
      sizes = sizes_kept m o lane prev w k.sizes h;
      placed = placed.0;
      permitted = facts.permitted;
      hands = placed.1;
      fits = courses_kept m o lane prev w k h (new_course laws.queues m o lane prev w k h r);
      queues = queue_now m o lane prev w h
          (λ cpu q. cpu < length m.header.cpus → IsQueueOf (length m.header.cpus) cpu q) k.queues
          (λ cpu i lt there. queue_of laws.queues m o lane prev w k h cpu i);
      owed = owed_kept laws.queues m o lane prev w k.owed h;
      named = course_now m e h (λ l c. NamesPublished (after m e) c)
          (λ l. names_stay m o lane prev w (course_at m.courses l) k.sizes h (k.named l))
          (names_kept m o lane prev w k.sizes h (k.named lane));
      turns = facts.turns;
      scans = course_now m e h (λ l c. ScansVersion (after m e) c)
          (λ l. scans_stay m e (course_at m.courses l) (k.scans l)) (scans_kept m e h (k.turns lane) (k.scans lane));
      spares = course_now m e h (λ l c. KeepsLocal m.header c) k.spares (new_spares laws.domains m o lane prev w k h);
      small = small_kept laws.queues m o lane prev w h
          (k.sizes.queues ∙ sym k.sizes.figures) placed.0 k.accepted.most_tasks
          (λ cpu i. queue_of laws.queues m o lane prev w k h cpu i) k.small;
      counts = facts.counts;
      counters_in_range = queue_now m o lane prev w h (λ cpu q. AreInRange q.counters) k.counters_in_range
          (λ cpu i lt. counters_now laws.queues m o lane prev w cpu i (k.counters_in_range cpu));
    }
