-- Figures. A CPU past the machine has none, is no source and is not tickless. Each figure is small: a
-- queue has at most 4,096 tasks of each kind, and what each says is bounded; so over groups without a
-- CPU in common the sums are small too.
-- For the lemmas of `Calls`, `Fitting` and `Keeping`, and so for the laws `calls_may_be_made`, `ready` and others;
-- cited by `lb_service` too.
use Rattle.std.proofs.Common.{arith, ◌≡◌, ℕ, ◌<◌, ◌≤◌, Bool, true, false, cond, ◌==◌, ◌&&◌, List, [], ◌∷◌, length, find, get_or, Some, refl, sym, ◌∙◌, ap, ltb, inl, inr, zero, suc, ◌+◌, ◌*◌, ◌^◌, ◌||◌, ◌++◌, filter, sum_by, subst, set, get_or-set_same, get_or-set_other}
use Rattle.std.proofs.lemmas.Bool.{and_parts, eqb-true, ltb-true, cases_lt, cases_eq, le-ltb}
use Rattle.std.proofs.lemmas.List.FromFn.{get_or-map-range_with_len}
use Rattle.std.specs.List.{list_all, list_any, range_with_len}
use Rattle.std.proofs.lemmas.List.{length-map, get_or_past}
use Rattle.std.proofs.lemmas.List.Sums.{sum_by-le, sum_by-cons}
use Rattle.lb_base.specs.declared.figure.Fig.{Fig}
use Rattle.lb_base.specs.declared.mask.Mask.{Mask}
use Rattle.lb_base.specs.Mask.{has, first_cpus, members_below, members, without}
use Rattle.lb_base.specs.Figures.{no_fig, fig_at, total, is_tickless}
use Rattle.lb_base.specs.Sets.{are_apart, are_disjoint}
use Rattle.lb_base.specs.Weight.{weight_of}
use Rattle.lb_base.proofs.Sets.{mask_where_has, apart_at}
use Rattle.lb_pelt.specs.declared.signal.Run.{Run}
use Rattle.lb_pelt.specs.declared.signal.Run.TheVariants.{Asleep as AsleepRun}
use Rattle.lb_pelt.specs.Signal.{IsWithin, advanced}
use Rattle.lb_nohz.specs.Kick.{tickless_cpus}
use Rattle.lb_queue.specs.declared.record.TaskRecord.{TaskRecord}
use Rattle.lb_queue.specs.declared.awake.Awake.{Awake}
use Rattle.lb_queue.specs.Values.{run_of, value_of}
use Rattle.lb_queue.specs.Queue.{QueueState}
use Rattle.lb_queue.specs.Figures.{figure, awake_value, asleep_value}
use Rattle.lb_queue.specs.Tasks.{ids, awake_ids}
use Rattle.lb_queue.proofs.Weights.{weight_of_bound}
use Rattle.lb_queue.proofs.Counting.{length_below}
use Rattle.lb_core.specs.declared.entry.CpuFig.{CpuFig}
use Rattle.lb_core.specs.declared.entry.FigName.{FigName}
use Rattle.lb_core.specs.declared.place.Place.{Place}
use Rattle.lb_core.specs.declared.place.Place.TheVariants.{Awake as AwakeAt, Asleep as AsleepAt}
use Rattle.lb_core.specs.declared.entry.Owner.{Owner}
use Rattle.lb_core.specs.declared.entry.Owner.TheVariants.{Queue}
use Rattle.lb_core.specs.declared.entry.What.{What}
use Rattle.lb_core.specs.Sight.{fig_or_none, by_cpu, tickless_in}
use Rattle.lb_core.specs.Machine.{figures_at, figures_named, MachineState, queue_at, no_queue}
use Rattle.lb_core.specs.Step.{after}
use Rattle.lb_core.specs.Legal.{MayBeAdded}
use Rattle.lb_core.specs.Placed.{times, IsPlaced}
use Rattle.lb_core.proofs.Headers.{all_index}
use Rattle.lb_core.proofs.Placing.{cpu_there, entry}
use Rattle.lb_ready.specs.Ready.{is_mask_in, is_bounded, is_task_in, IsQueueOf, IsSmall}
use Rattle.lb_ready.proofs.Counting.{without_has}
use Rattle.lb_ready.proofs.Queues.{bounded_is}
use Rattle.lb_ready.proofs.Steps.{QueueLaws}
use Rattle.lb_ready.proofs.Requests.{stands_once}
use Rattle.lb_ready.proofs.Changes.{queue_left}

-- ---- one CPU
pub by_cpu_at : (figs : List CpuFig) (k : ℕ) → k < 64 → fig_at (by_cpu figs) k ≡ fig_or_none (find (λ f. f.cpu == k) figs)
unfolding by_cpu
by_cpu_at figs k lt = get_or-map-range_with_len (λ cpu. fig_or_none (find (λ f. f.cpu == cpu) figs)) 0 64 k k no_fig lt
    (omega arith)

-- no figure stands past the machine
no_fig_past : (figures : List (List Fig)) (names : List FigName) (k : ℕ) → length figures ≤ k
    → fig_or_none (find (λ f. f.cpu == k) (figures_named figures names)) ≡ no_fig
no_fig_past figures [] k le = refl
no_fig_past figures (f ∷ names) k le = by_test (f.cpu == k) refl (no_fig_past figures names k le)
  where
    by_test : (b : Bool) → (f.cpu == k) ≡ b → fig_or_none (find (λ f. f.cpu == k) (figures_named figures names)) ≡ no_fig →
        fig_or_none (cond b (Some (record { cpu = f.cpu; fig = get_or (figures_at figures f.cpu) f.n no_fig }))
        (find (λ f. f.cpu == k) (figures_named figures names))) ≡ no_fig
    by_test true e rest = let s = eqb-true f.cpu k e in let p : figures_at figures f.cpu ≡ [] =
        get_or_past figures f.cpu [] (omega arith) in ap (λ (xs : List Fig). get_or xs f.n no_fig) p
    by_test false e rest = rest

pub no_figure_past : (figures : List (List Fig)) (names : List FigName) (k : ℕ) → k < 64 → length figures ≤ k
    → fig_at (by_cpu (figures_named figures names)) k ≡ no_fig
no_figure_past figures names k lt le = by_cpu_at (figures_named figures names) k lt ∙ no_fig_past figures names k le

-- ---- tickless CPUs
pub tickless_at : (figs : List CpuFig) (k : ℕ) → has (tickless_in figs) k ≡ true
    → (k < 64) × (is_tickless (fig_at (by_cpu figs) k) ≡ true)
unfolding tickless_in tickless_cpus
tickless_at figs k h =
    let p = and_parts (ltb k 64) _ (sym (mask_where_has
    (λ cpu. has (first_cpus 64) cpu && is_tickless (fig_at (by_cpu figs) cpu)) k) ∙ h) in
    (ltb-true k 64 p.0, (and_parts (has (first_cpus 64) k) _ p.1).1)

none_is_tickless : (f : Fig) → f ≡ no_fig → is_tickless f ≡ true → ⊥
unfolding is_tickless
none_is_tickless f e h = let k = rw e at h in let y : ⊥ = cc in y

pub tickless_inside : (figures : List (List Fig)) (names : List FigName) (k : ℕ)
    → has (tickless_in (figures_named figures names)) k ≡ true → k < length figures
tickless_inside figures names k h = let t = tickless_at (figures_named figures names) k h in elim (cases_lt k (length figures)) [
  | inl lt ↦ lt
  | inr le ↦ absurd (none_is_tickless _ (no_figure_past figures names k t.0 le) t.1)
]

pub none_tickless : (k : ℕ) → has (tickless_in []) k ≡ true → ⊥
none_tickless k h = let t = tickless_at [] k h in none_is_tickless _ (by_cpu_at [] k t.0) t.1

-- ---- sources
pub source_inside : (figures : List (List Fig)) (names : List FigName) (k : ℕ) → k < 64
    → ltb 0 (fig_at (by_cpu (figures_named figures names)) k).nr ≡ true → k < length figures
source_inside figures names k lt h = elim (cases_lt k (length figures)) [
  | inl l ↦ l
  | inr le ↦ let e = ap (λ (f : Fig). ltb 0 f.nr) (no_figure_past figures names k lt le) in absurd (let y : ⊥ = cc in y)
]

-- ---- one figure
value_small : (laws : QueueLaws) → (n : ℕ) (run : Run) (now : ℕ) (t : TaskRecord) → is_task_in n t ≡ true
    → IsWithin (weight_of t.nice) (value_of run now t)
unfolding value_of
value_small laws n run now t h = laws.value_is (advanced t.signal run now) (weight_of t.nice)
    (laws.advanced_is t.signal run now (bounded_is t.signal ((and_parts (is_mask_in n t.mask) (is_bounded t.signal) h).1)))

said : {X : Type 0} (f : X → ℕ) (b : ℕ) (p : X → Bool) (xs : List X) → ((x : X) → p x ≡ true → f x ≤ b)
    → list_all p xs ≡ true → sum_by f xs ≤ length xs * b
said f b p xs g h = sum_by-le f b xs (λ k d lt. g (get_or xs k d) (all_index p xs h k d lt))

pub figure_small : (laws : QueueLaws) → (n cpu k ticket : ℕ) (q : QueueState) → IsQueueOf n cpu q
    → length q.awake ≤ 4096 → length q.asleep ≤ 4096 → IsSmall (figure q k ticket)
unfolding figure
figure_small laws n cpu k ticket q i a s = record {
  nr = omega arith;
  load = let x = said (λ a. (awake_value q.clock a).load) 88761 (λ a. is_task_in n a.task) q.awake
      (λ e y. let v = (up e y).load_small in let b = weight_of_bound e.task.nice in omega arith) i.awake in let z =
      said (λ t. (asleep_value q.clock t).load) 88761 (is_task_in n) q.asleep
      (λ t y. let v = (down t y).load_small in let b = weight_of_bound t.nice in omega arith) i.asleep in omega arith;
  util = let x = said (λ a. (awake_value q.clock a).util) 1025 (λ a. is_task_in n a.task) q.awake
      (λ e y. (up e y).util_small) i.awake in let z =
      said (λ t. (asleep_value q.clock t).util) 1025 (is_task_in n) q.asleep (λ t y. (down t y).util_small) i.asleep in
      omega arith;
  runnable = let x = said (λ a. (awake_value q.clock a).runnable) 1025 (λ a. is_task_in n a.task) q.awake
      (λ e y. (up e y).runnable_small) i.awake in omega arith;
}
  where
    up : (e : Awake) → is_task_in n e.task ≡ true → IsWithin (weight_of e.task.nice) (awake_value q.clock e)
    up e y = value_small laws n (run_of e.running) q.clock e.task y

    down : (t : TaskRecord) → is_task_in n t ≡ true → IsWithin (weight_of t.nice) (asleep_value q.clock t)
    down t y = value_small laws n AsleepRun q.clock t y

-- ---- how many tasks a queue has
pub lens : (m : MachineState) (cpu : ℕ) → IsPlaced m → length m.header.tasks ≤ 4096
    → (length (queue_at m.queues cpu).awake ≤ 4096) × (length (queue_at m.queues cpu).asleep ≤ 4096)
lens m cpu placed most =
    let a = length_below (length m.header.tasks) (awake_ids (queue_at m.queues cpu).awake)
    (λ u. stands_once m placed (AwakeAt cpu) u) (λ u ge. none u (AwakeAt cpu) ge) in
    let b = length_below (length m.header.tasks) (ids (queue_at m.queues cpu).asleep)
    (λ u. stands_once m placed (AsleepAt cpu) u) (λ u ge. none u (AsleepAt cpu) ge) in
    let x = length-map (queue_at m.queues cpu).awake (λ (a : Awake). a.task.id) in
    let y = length-map (queue_at m.queues cpu).asleep (λ (t : TaskRecord). t.id) in
    (omega arith, omega arith)
  where
    none : (u : ℕ) (p : Place) → length m.header.tasks ≤ u → times m p u ≡ 0
    none u p ge =
        let l = placed.mapped in
        let out : ltb u (length m.places) ≡ false = le-ltb u (length m.places) (omega arith) in
        placed.once p u ∙ rw out refl

-- ---- all figures
pub snoc_small : (xs : List Fig) (x : Fig) (n : ℕ) → ((k : ℕ) → IsSmall (get_or xs k no_fig)) → IsSmall x
    → IsSmall (get_or (xs ++ x ∷ []) n no_fig)
snoc_small [] x zero old k = k
snoc_small [] x (suc n) old k = old n
snoc_small (y ∷ ys) x zero old k = old 0
snoc_small (y ∷ ys) x (suc n) old k = snoc_small ys x n (λ j. old (suc j)) k

pub small_kept : (laws : QueueLaws) → (m : MachineState) (o : Owner) (lane prev : ℕ) (w : What)
    → MayBeAdded m (entry o lane prev w) → length m.queues ≡ length m.figures
    → IsPlaced (after m (entry o lane prev w)) → length m.header.tasks ≤ 4096 →
    ((cpu : ℕ) → o ≡ Queue cpu → IsQueueOf (length m.header.cpus) cpu (queue_left m (entry o lane prev w)))
    → ((cpu n : ℕ) → IsSmall (get_or (figures_at m.figures cpu) n no_fig)) → (cpu n : ℕ)
    → IsSmall (get_or (figures_at (after m (entry o lane prev w)).figures cpu) n no_fig)
unfolding after
small_kept laws m (Queue own) lane prev w h same placed most fits old cpu n =
    let e = entry (Queue own) lane prev w in
    let q = queue_left m e in
    let f = figure q (length (figures_at m.figures own)) (m.ticket + 1) in
    let there = cpu_there m own lane prev w h in
    let is : queue_at (set m.queues own q) own ≡ q = get_or-set_same m.queues own q no_queue there in
    let l = lens (after m e) own placed most in
    let a : length q.awake ≤ 4096 = rw is at l.0 in
    let b : length q.asleep ≤ 4096 = rw is at l.1 in
    let new = figure_small laws (length m.header.cpus) own (length (figures_at m.figures own)) (m.ticket + 1) q
    (fits own refl) a b in
    elim (cases_eq own cpu) [
      | inl i ↦ subst (λ (u : ℕ). IsSmall
          (get_or (figures_at (set m.figures own (figures_at m.figures own ++ f ∷ [])) u) n no_fig)) i
          (rw (get_or-set_same m.figures own (figures_at m.figures own ++ f ∷ []) [] (omega arith))
          (snoc_small (figures_at m.figures own) f n (old own) new))
      | inr i ↦ rw (get_or-set_other m.figures own cpu (figures_at m.figures own ++ f ∷ []) [] (λ e. i (sym e))) (old cpu n)
    ]
small_kept laws m o lane prev w h same placed most fits old cpu n = old cpu n

-- the figures that a look reads
pub named_small : (figures : List (List Fig)) (names : List FigName) (k : ℕ)
    → ((cpu n : ℕ) → IsSmall (get_or (figures_at figures cpu) n no_fig))
    → IsSmall (fig_or_none (find (λ f. f.cpu == k) (figures_named figures names)))
named_small figures [] k old = record { nr = omega arith; load = omega arith; util = omega arith; runnable = omega arith }
named_small figures (f ∷ names) k old = by_test (f.cpu == k) (named_small figures names k old)
  where
    by_test : (b : Bool) → IsSmall (fig_or_none (find (λ f. f.cpu == k) (figures_named figures names)))
        → IsSmall (fig_or_none (cond b (Some (record {
          cpu = f.cpu;
          fig = get_or (figures_at figures f.cpu) f.n no_fig;
        })) (find (λ f. f.cpu == k) (figures_named figures names))))
    by_test true r = old f.cpu f.n
    by_test false r = r

-- ---- sums over groups
abbrev with : (ℕ → Bool) → (ℕ → ℕ) → ℕ → ℕ
with p f k = cond {A = ℕ} (p k) (f k) 0

filtered : (f : ℕ → ℕ) (p : ℕ → Bool) (i n : ℕ) → sum_by f (filter p (range_with_len i n)) ≡ sum_by (with p f)
    (range_with_len i n)
filtered f p i zero = refl
filtered f p i (suc n) = by_test (p i) (filtered f p (i + 1) n) ∙ sym (sum_by-cons (with p f) i (range_with_len (i + 1) n))
  where
    by_test : (b : Bool) → sum_by f (filter p (range_with_len (i + 1) n)) ≡ sum_by (with p f)
        (range_with_len (i + 1) n) → sum_by f (cond b (i ∷ filter p (range_with_len (i + 1) n))
        (filter p (range_with_len (i + 1) n))) ≡ cond {A = ℕ} b (f i) 0 + sum_by (with p f) (range_with_len (i + 1) n)
    by_test true r = sum_by-cons f i (filter p (range_with_len (i + 1) n)) ∙ ap (λ (x : ℕ). f i + x) r
    by_test false r = let z : 0 + sum_by (with p f) (range_with_len (i + 1) n) ≡ sum_by (with p f)
        (range_with_len (i + 1) n) = omega arith in r ∙ sym z

together : (f : ℕ → ℕ) (p q r : ℕ → Bool) (i n : ℕ) → ((k : ℕ) → k < i + n → with p f k + with q f k ≤ with r f k)
    → sum_by (with p f) (range_with_len i n) + sum_by (with q f) (range_with_len i n) ≤ sum_by (with r f) (range_with_len i n)
together f p q r i zero h = omega arith
together f p q r i (suc n) h =
    let a = h i (omega arith) in
    let b = together f p q r (i + 1) n (λ k lt. h k (omega arith)) in
    omega (
      arith,
      sum_by-cons (with p f) i (range_with_len (i + 1) n),
      sum_by-cons (with q f) i
          (range_with_len (i + 1) n),
      sum_by-cons (with r f) i (range_with_len (i + 1) n),
    )

most_of : (f : ℕ → ℕ) (p : ℕ → Bool) (i n : ℕ) → ((k : ℕ) → k < i + n → f k ≤ 727130112)
    → sum_by (with p f) (range_with_len i n) ≤ n * 727130112
most_of f p i zero h = omega arith
most_of f p i (suc n) h =
    let a = by_test (p i) (h i (omega arith)) in
    let b = most_of f p (i + 1) n (λ k lt. h k (omega arith)) in
    omega (arith, sum_by-cons (with p f) i (range_with_len (i + 1) n))
  where
    by_test : (b : Bool) → f i ≤ 727130112 → cond {A = ℕ} b (f i) 0 ≤ 727130112
    by_test true l = l
    by_test false l = omega arith

in_none : (g : Mask) (gs : List Mask) (k : ℕ) → k < 64 → list_all (are_apart g) gs ≡ true → has g k ≡ true
    → list_any (λ h. has h k) gs ≡ false
in_none g [] k lt a y = refl
in_none g (x ∷ gs) k lt a y = let p = and_parts (are_apart g x) _ a in rw (apart_at g x p.0 k lt y) (in_none g gs k lt p.1 y)

groups_sum : (f : Fig → ℕ) (figs : List Fig) (x : Mask) (gs : List Mask) → are_disjoint gs ≡ true
    → sum_by (λ g. total f figs (without g x)) gs ≤ sum_by
    (with (λ k. list_any (λ h. has h k) gs) (λ k. f (fig_at figs k))) (range_with_len 0 64)
unfolding total members members_below
groups_sum f figs x [] a = omega arith
groups_sum f figs x (g ∷ gs) a =
    let F = λ (k : ℕ). f (fig_at figs k) in
    let p = and_parts (list_all (are_apart g) gs) _ a in
    let r = groups_sum f figs x gs p.1 in
    let e = filtered F (has (without g x)) 0 64 in
    let t = together F (has (without g x)) (λ k. list_any (λ h. has h k) gs)
    (λ k. list_any (λ h. has h k) (g ∷ gs)) 0 64 (λ k lt. by_group k (omega arith) (has (without g x) k) refl p.0) in
    omega (arith, sum_by-cons (λ g. total f figs (without g x)) g gs)
  where
    by_any : (b c : Bool) (n : ℕ) → cond {A = ℕ} c n 0 ≤ cond {A = ℕ} (b || c) n 0
    by_any true true n = omega arith
    by_any true false n = omega arith
    by_any false c n = omega arith

    by_group : (k : ℕ) → k < 64 → (b : Bool) → has (without g x) k ≡ b → list_all (are_apart g) gs ≡ true
        → cond {A = ℕ} (has (without g x) k) (f (fig_at figs k)) 0 + cond {A = ℕ} (list_any (λ h. has h k) gs)
        (f (fig_at figs k)) 0 ≤ cond {A = ℕ} (has g k || list_any (λ h. has h k) gs) (f (fig_at figs k)) 0
    by_group k lt true e a = let y = without_has g x k e in rw (e, y, in_none g gs k lt a y) (omega arith)
    by_group k lt false e a = let z = by_any (has g k) (list_any (λ h. has h k) gs) (f (fig_at figs k)) in rw e (omega arith)

pub small_sum : (f : Fig → ℕ) (figs : List Fig) (x : Mask) (gs : List Mask) → are_disjoint gs ≡ true
    → ((k : ℕ) → k < 64 → f (fig_at figs k) ≤ 727130112) → sum_by (λ g. total f figs (without g x)) gs < 2 ^ 40
small_sum f figs x gs a h =
    let s = groups_sum f figs x gs a in
    let m = most_of (λ k. f (fig_at figs k)) (λ k. list_any (λ h. has h k) gs) 0 64 (λ k lt. h k (omega arith)) in
    omega arith
