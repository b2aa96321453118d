-- What an entry changes in the machine: one course, at most one queue with its figures, and the
-- published versions.
-- For the lemmas of `Figures`, `Keeping` and other files, and so for the laws `calls_may_be_made`, `ready` and
-- others.
use Rattle.std.proofs.Common.{arith, ◌≡◌, ℕ, ◌+◌, ◌-◌, ◌<◌, ◌≤◌, Bool, true, false, cond, ◌==◌, if◌then◌else◌, List, [], ◌∷◌, ◌++◌, length, set, Option, Some, refl, sym, ◌∙◌, ap, inl, inr, length-set, get_or-set_same, get_or-set_other, length-append, get_or}
use Rattle.std.proofs.lemmas.Bool.{cases_eq, eq-eqb, ne_eqb, cases_lt}
use Rattle.std.proofs.lemmas.List.{get_or_past}
use Rattle.lb_base.specs.declared.mask.Mask.{Mask}
use Rattle.lb_base.specs.declared.figure.Fig.{Fig}
use Rattle.lb_trace.specs.declared.trace.Command.{Command}
use Rattle.lb_trace.specs.declared.trace.Command.TheVariants.{Tick, Rebuild}
use Rattle.lb_queue.specs.Queue.{QueueState}
use Rattle.lb_queue.specs.Figures.{figure}
use Rattle.lb_core.specs.declared.course.Course.{Course}
use Rattle.lb_core.specs.declared.entry.Owner.{Owner}
use Rattle.lb_core.specs.declared.entry.Owner.TheVariants.{Publisher, Lane, Queue}
use Rattle.lb_core.specs.declared.entry.What.{What}
use Rattle.lb_core.specs.declared.entry.What.TheVariants.{Row, Pub}
use Rattle.lb_core.specs.declared.entry.Entry.{Entry}
use Rattle.lb_core.specs.Same.{same_owner}
use Rattle.lb_core.specs.QueueAfter.{queue_after}
use Rattle.lb_core.specs.CourseAfter.{course_after}
use Rattle.lb_core.specs.Machine.{MachineState, queue_at, course_at, figures_at, entries_at, no_queue, no_course, sight}
use Rattle.lb_core.specs.Step.{after, ticked_after, versions_after, figures_after, queues_after}
use Rattle.lb_core.specs.Legal.{MayBeAdded}
use Rattle.lb_core.proofs.Placing.{lane_there, cpu_there, entry}
use Rattle.lb_ready.specs.Ready.{HasSizes}

-- ---- what an entry leaves
-- the course of its lane, and the queue that draws it
abbrev pub course_left : MachineState → Entry → Course
course_left m e = course_after (sight m e) e

abbrev pub queue_left : MachineState → Entry → QueueState
queue_left m e = queue_after (sight m e) e

-- ---- courses
pub course_now : (m : MachineState) (e : Entry) → MayBeAdded m e → (P : ℕ → Course → Type 0)
    → ((l : ℕ) → P l (course_at m.courses l)) → P e.lane (course_left m e) → (l : ℕ) → P l (course_at (after m e).courses l)
unfolding after
course_now m e h P old new l = elim (cases_eq l e.lane) [
  | inl s ↦ let k : course_at (set m.courses e.lane (course_left m e)) l ≡ course_left m e =
      rw s (get_or-set_same m.courses e.lane _ no_course (lane_there m e h)) in rw (k, s) new
  | inr n ↦ rw (get_or-set_other m.courses e.lane l (course_left m e) no_course n) (old l)
]

pub course_of_lane : (m : MachineState) (e : Entry) → MayBeAdded m e → course_at (after m e).courses e.lane ≡ course_left m e
unfolding after
course_of_lane m e h = get_or-set_same m.courses e.lane _ no_course (lane_there m e h)

pub course_elsewhere : (m : MachineState) (e : Entry) (l : ℕ) → (l ≡ e.lane → ⊥) → course_at (after m e).courses
    l ≡ course_at m.courses l
unfolding after
course_elsewhere m e l n = get_or-set_other m.courses e.lane l (course_left m e) no_course n

-- ---- queues
pub queue_now : (m : MachineState) (o : Owner) (lane prev : ℕ) (w : What) → MayBeAdded m (entry o lane prev w)
    → (P : ℕ → QueueState → Type 0) → ((cpu : ℕ) → P cpu (queue_at m.queues cpu)) →
    ((cpu : ℕ) → o ≡ Queue cpu → cpu < length m.queues → P cpu (queue_left m (entry o lane prev w))) → (cpu : ℕ)
    → P cpu (queue_at (after m (entry o lane prev w)).queues cpu)
unfolding after
queue_now m (Queue own) lane prev w h P old new cpu = elim (cases_eq cpu own) [
  | inl s ↦
      let q = queue_left m (entry (Queue own) lane prev w) in
      let there = cpu_there m own lane prev w h in
      let k : queue_at (set m.queues own q) cpu ≡ q = rw s (get_or-set_same m.queues own q no_queue there) in
      rw (k, s) (new own refl there)
  | inr n ↦ rw (get_or-set_other m.queues own cpu (queue_left m (entry (Queue own) lane prev w)) no_queue n) (old cpu)
]
queue_now m o lane prev w h P old new cpu = old cpu

-- ---- figures
pub length-snoc : {A : Type 0} (xs : List A) (x : A) → length (xs ++ x ∷ []) ≡ length xs + 1
length-snoc xs x = length-append xs (x ∷ [])

-- a queue that draws has one figure more, and the others as many
pub figures_now : (m : MachineState) (o : Owner) (lane prev : ℕ) (w : What) (cpu : ℕ)
    → length m.queues ≡ length m.figures → MayBeAdded m (entry o lane prev w) →
    length (figures_at (after m (entry o lane prev w)).figures cpu) ≡
    (if same_owner o (Queue cpu) then length (figures_at m.figures cpu) + 1 else length (figures_at m.figures cpu))
unfolding after
figures_now m (Queue own) lane prev w cpu e h =
    let there = cpu_there m own lane prev w h in
    let f = figure (queue_left m (entry (Queue own) lane prev w)) (length (figures_at m.figures own)) (m.ticket + 1) in
    elim (cases_eq own cpu) [
      | inl s ↦
          let k = get_or-set_same m.figures own (figures_at m.figures own ++ f ∷ []) [] (omega arith) in
          let l = length-snoc (figures_at m.figures own) f in
          let c : (own == cpu) ≡ true = eq-eqb own cpu s in
          rw c (rw (← s) (ap length k ∙ l))
      | inr n ↦
          let k = get_or-set_other m.figures own cpu (figures_at m.figures own ++ f ∷ []) [] (λ e. n (sym e)) in
          rw (ne_eqb own cpu n) (ap length k)
    ]
figures_now m Publisher lane prev w cpu e h = refl
figures_now m (Lane l) lane prev w cpu e h = refl

-- so each has as many as before, or one more
pub drawn_more : (m : MachineState) (o : Owner) (lane prev : ℕ) (w : What) (cpu : ℕ)
    → length m.queues ≡ length m.figures → MayBeAdded m (entry o lane prev w) →
    (entries_at m cpu ≤ entries_at (after m (entry o lane prev w)) cpu)
    × (entries_at (after m (entry o lane prev w)) cpu ≤ entries_at m cpu + 1)
drawn_more m o lane prev w cpu e h = by_test (same_owner o (Queue cpu)) (figures_now m o lane prev w cpu e h)
  where
    by_test : {n : ℕ} (b : Bool) → n ≡ cond {A = ℕ} b (length (figures_at m.figures cpu) + 1)
        (length (figures_at m.figures cpu)) → (entries_at m cpu ≤ n - 1) × (n - 1 ≤ entries_at m cpu + 1)
    by_test true k = (omega arith, omega arith)
    by_test false k = (omega arith, omega arith)

-- ---- versions
pub versions_more : (w : What) (command : Option Command) (vs : List (List Mask))
    → (length vs ≤ length (versions_after w command vs)) × (length (versions_after w command vs) ≤ length vs + 1)
versions_more (Pub v) (Some (Rebuild parts)) vs = (omega (arith, length-snoc vs parts), omega (arith, length-snoc vs parts))
versions_more w command vs = (omega arith, omega arith)

-- ---- numbers of a list
-- each is at most its bound
abbrev pub Under : List ℕ → (ℕ → ℕ) → Type 0
Under numbers most = (i : ℕ) → get_or numbers i 0 ≤ most i

pub set_under : (numbers : List ℕ) (most : ℕ → ℕ) (u n : ℕ) → n ≤ most u → Under numbers most → Under (set numbers u n) most
set_under numbers most u n le h i = elim (cases_eq i u) [
  | inl e ↦ elim (cases_lt u (length numbers)) [
    | inl lt ↦ let k : get_or (set numbers u n) i 0 ≡ n = rw e (get_or-set_same numbers u n 0 lt) in
        let l : n ≤ most i = rw e le in omega arith
    | inr ge ↦ let k : get_or (set numbers u n) i 0 ≡ 0 =
        get_or_past (set numbers u n) i 0 (let s = length-set numbers u n in omega arith) in omega arith
  ]
  | inr d ↦ let k = get_or-set_other numbers u i n 0 d in let l = h i in omega arith
]

-- ---- sizes
queues_same : (o : Owner) (q : QueueState) (qs : List QueueState) → length (queues_after o q qs) ≡ length qs
queues_same (Queue cpu) q qs = length-set qs cpu q
queues_same Publisher q qs = refl
queues_same (Lane l) q qs = refl

figures_same : (o : Owner) (t : ℕ) (q : QueueState) (fs : List (List Fig)) → length (figures_after o t q fs) ≡ length fs
figures_same (Queue cpu) t q fs = length-set fs cpu _
figures_same Publisher t q fs = refl
figures_same (Lane l) t q fs = refl

ticks_same : (w : What) (lane : ℕ) (ticked : List (Option ℕ)) → length (ticked_after w lane ticked) ≡ length ticked
ticks_same (Row n at (Tick cpu)) lane ticked = length-set ticked cpu (Some lane)
ticks_same w lane ticked = refl

pub sizes_kept : (m : MachineState) (o : Owner) (lane prev : ℕ) (w : What) → HasSizes m
    → MayBeAdded m (entry o lane prev w) → HasSizes (after m (entry o lane prev w))
unfolding after
sizes_kept m o lane prev w k h =
    let e = entry o lane prev w in
    record {
      queues = queues_same o _ m.queues ∙ k.queues;
      figures = figures_same o _ _ m.figures ∙ k.figures;
      courses = length-set m.courses lane (course_left m e) ∙ k.courses;
      versions = let a = (versions_more w (sight m e).course.command m.versions).0 in let b = k.versions in omega arith;
      few_versions = let a = (versions_more w (sight m e).course.command m.versions).1 in let b = k.few_versions in omega arith;
      published = λ cpu lt. let b = k.published cpu lt in let c =
          figures_now m o lane prev w cpu (k.queues ∙ sym k.figures) h in by_test (same_owner o (Queue cpu)) cpu lt c;
      drawn = λ cpu. let a = (drawn_more m o lane prev w cpu (k.queues ∙ sym k.figures) h).1 in let b = k.drawn cpu in
          omega arith;
      lasts = length-set m.last lane (m.ticket + 1) ∙ k.lasts;
      ticks = ticks_same w lane m.ticked ∙ k.ticks;
      last = set_under m.last (λ l. m.ticket + 1) lane (m.ticket + 1) (omega arith) (λ l. let b = k.last l in omega arith);
    }
  where
    by_test : {n : ℕ} (b : Bool) (cpu : ℕ) → cpu < length m.header.cpus
        → n ≡ cond {A = ℕ} b (length (figures_at m.figures cpu) + 1) (length (figures_at m.figures cpu)) → 1 ≤ n
    by_test true cpu lt e = omega arith
    by_test false cpu lt e = let b = k.published cpu lt in omega arith
