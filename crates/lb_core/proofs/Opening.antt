-- The opening state: each task sleeps at home. Ends the laws `placed` and `placed_stays`. For callers too: the
-- opening queue of a CPU (`opening_at`).
use Rattle.std.proofs.Common.{◌≡◌, ℕ, zero, suc, ◌⊎◌, ◌+◌, ◌-◌, ◌<◌, ◌≤◌, Bool, true, false, cond, ◌==◌, ◌&&◌, eqb, ltb, leb, List, [], ◌∷◌, length, map, get_or, replicate, All, refl, sym, ◌∙◌, ap, arith, inl, inr}
use Rattle.std.proofs.lemmas.Bool.{eq-eqb, ne_eqb, lt-ltb, le-ltb, cases_lt, cases_order, and_left, le-leb, lt-leb, and_right, cond-true, cond-false}
use Rattle.std.proofs.lemmas.List.{length-map, get_or-replicate, length-replicate}
use Rattle.std.proofs.lemmas.List.FromFn.{get_or-map-range_with_len, length-map-range_with_len}
use Rattle.std.proofs.lemmas.Bool.Decides.{nat_tests}
use Rattle.lb_queue.specs.declared.record.TaskRecord.{TaskRecord}
use Rattle.lb_queue.specs.Tasks.{occurs, ids, awake_ids}
use Rattle.lb_queue.specs.Queue.{QueueState, new_task}
use Rattle.lb_queue.specs.Laws.{CallsMove}
use Rattle.lb_trace.specs.declared.trace.Header.{Header}
use Rattle.lb_trace.specs.declared.trace.TaskRow.{TaskRow}
use Rattle.lb_core.specs.declared.place.Place.{Place}
use Rattle.lb_core.specs.declared.place.Place.TheVariants.{Awake as AwakeAt, Asleep as AsleepAt, Gone as GoneAt, Hand as HandOf}
use Rattle.lb_core.specs.declared.course.Course.{Course}
use Rattle.lb_core.specs.Same.{same_place}
use Rattle.lb_core.specs.Course.{opening_course}
use Rattle.lb_core.specs.Machine.{no_queue, no_course, queue_at, course_at, place_at, tasks_at, opening_queue, start}
use Rattle.lb_core.proofs.Headers.{homes_declared}
use Rattle.lb_core.specs.Placed.{times, is_its_place, PlacedAlways, PlacedOpens, PlacedStays}
use Rattle.lb_core.proofs.Placing.{Kept, step_kept, run_kept}

-- each task is at home at a CPU of the machine
abbrev pub HomesDeclared : Header → Type 0
HomesDeclared h = All (λ row. row.home < length h.cpus) h.tasks

-- who is at home at a CPU
is_home : ℕ → ℕ → List TaskRow → Place → ℕ → Bool
is_home cpu id rows d t = leb id t && (ltb (t - id) (length rows) && same_place (AsleepAt cpu)
    (get_or (map (λ row. AsleepAt row.home) rows) (t - id) d))

before : (cpu id t : ℕ) (rows : List TaskRow) (d : Place) → t < id → is_home cpu id rows d t ≡ false
unfolding is_home
before cpu id t rows d h = and_left (leb id t) _ (lt-leb id t h)

first_home : (cpu id t : ℕ) (row : TaskRow) (rows : List TaskRow) (d : Place) → t ≡ id → is_home cpu id (row ∷ rows) d
    t ≡ eqb cpu row.home
unfolding is_home
first_home cpu id t row rows d h =
    let z : t - id ≡ 0 = omega arith in
    let l : leb id t ≡ true = le-leb id t (omega arith) in
    rw (l, z) (ap (λ (b : Bool). b && eqb cpu row.home) (lt-ltb 0 (suc (length rows)) (omega arith)))

ltb_suc : (a b : ℕ) → ltb (suc a) (suc b) ≡ ltb a b
ltb_suc a b = grind (arith, nat_tests)

later_home : (cpu id t : ℕ) (row : TaskRow) (rows : List TaskRow) (d : Place) → id < t
    → is_home cpu id (row ∷ rows) d t ≡ is_home cpu (id + 1) rows d t
unfolding is_home
later_home cpu id t row rows d h =
    let z : t - id ≡ suc (t - (id + 1)) = omega arith in
    let l : leb id t ≡ true = le-leb id t (omega arith) in
    let k : leb (id + 1) t ≡ true = le-leb (id + 1) t (omega arith) in
    rw (l, k, z) (ap (λ (b : Bool). b && same_place (AsleepAt cpu)
    (get_or (map (λ (r : TaskRow). AsleepAt r.home) rows) (t - (id + 1)) d)) (ltb_suc (t - (id + 1)) (length rows)))

home_step : (cpu id t n : ℕ) (row : TaskRow) (b : Bool) → eqb row.home cpu ≡ b → (xs : List TaskRecord)
    → occurs t (ids xs) ≡ n → occurs t (ids (cond b (new_task id row.nice row.mask ∷ xs) xs)) ≡ cond b (cond (eqb id t) 1 0) 0 + n
home_step cpu id t n row true e xs h = rw h refl
home_step cpu id t n row false e xs h = rw h (omega arith)

nobody_home : (cpu id t : ℕ) (d : Place) → is_home cpu id [] d t ≡ false
unfolding is_home
nobody_home cpu id t d =
    let z : ltb (t - id) 0 ≡ false = le-ltb (t - id) 0 (omega arith) in
    and_right (leb id t) _ (and_left (ltb (t - id) 0) _ z)

eqb_sym : (a b : ℕ) → eqb a b ≡ eqb b a
eqb_sym a b = grind (arith, nat_tests)

cond_zero : (b : Bool) (n : ℕ) → n ≡ 0 → cond b n 0 ≡ 0
cond_zero true n z = z
cond_zero false n z = refl

cond_one : (b c : Bool) (n : ℕ) → n ≡ 1 → b ≡ c → cond b n 0 ≡ cond c 1 0
cond_one true c n z e = rw (z, ← e) refl
cond_one false c n z e = rw (← e) refl

at_home : (cpu id t : ℕ) (rows : List TaskRow) (d : Place) → occurs t (ids (tasks_at cpu id rows)) ≡ cond
    (is_home cpu id rows d t) 1 0
at_home cpu id t [] d = rw (nobody_home cpu id t d) refl
at_home cpu id t (row ∷ rows) d =
    let n = at_home cpu (id + 1) t rows d in
    let s = home_step cpu id t (cond (is_home cpu (id + 1) rows d t) 1 0) row (row.home == cpu) refl
    (tasks_at cpu (id + 1) rows) n in
    elim (cases_order t id) [
      | inl e ↦
          let f = first_home cpu id t row rows d e in
          let b : is_home cpu (id + 1) rows d t ≡ false = before cpu (id + 1) t rows d (omega arith) in
          let o : cond {A = ℕ} (eqb id t) 1 0 ≡ 1 = cond-true {A = ℕ} (eqb id t) 1 0 (eq-eqb id t (sym e)) in
          let c = cond_one (row.home == cpu) (is_home cpu id (row ∷ rows) d t) (cond (eqb id t) 1 0) o
          (eqb_sym row.home cpu ∙ sym f) in
          let k : cond {A = ℕ} (is_home cpu (id + 1) rows d t) 1 0 ≡ 0 = cond-false {A = ℕ}
          (is_home cpu (id + 1) rows d t) 1 0 b in
          omega arith
      | inr w ↦ elim w [
        | inl lt ↦
            let f : is_home cpu id (row ∷ rows) d t ≡ false = before cpu id t (row ∷ rows) d lt in
            let b : is_home cpu (id + 1) rows d t ≡ false = before cpu (id + 1) t rows d (omega arith) in
            let o : cond {A = ℕ} (eqb id t) 1 0 ≡ 0 = cond-false {A = ℕ} (eqb id t) 1 0 (ne_eqb id t (λ e. omega arith)) in
            let c = cond_zero (row.home == cpu) (cond (eqb id t) 1 0) o in
            let k : cond {A = ℕ} (is_home cpu (id + 1) rows d t) 1 0 ≡ 0 = cond-false {A = ℕ}
            (is_home cpu (id + 1) rows d t) 1 0 b in
            let l : cond {A = ℕ} (is_home cpu id (row ∷ rows) d t) 1 0 ≡ 0 = cond-false {A = ℕ}
            (is_home cpu id (row ∷ rows) d t) 1 0 f in
            omega arith
        | inr gt ↦
            let f : is_home cpu id (row ∷ rows) d t ≡ is_home cpu (id + 1) rows d t = later_home cpu id t row rows d gt in
            let o : cond {A = ℕ} (eqb id t) 1 0 ≡ 0 = cond-false {A = ℕ} (eqb id t) 1 0 (ne_eqb id t (λ e. omega arith)) in
            let c = cond_zero (row.home == cpu) (cond (eqb id t) 1 0) o in
            let l = ap (λ (b : Bool). cond {A = ℕ} b 1 0) f in
            omega arith
      ]
    ]

-- ---- the opening state
home_of : (rows : List TaskRow) (n t : ℕ) (d : Place) → t < length rows → All (λ row. row.home < n) rows
    → (c : ℕ) × (c < n) × (get_or (map (λ (r : TaskRow). AsleepAt r.home) rows) t d ≡ AsleepAt c)
home_of [] n t d lt all = absurd (omega arith)
home_of (row ∷ rows) n zero d lt all = (row.home, all 0 row (omega arith), refl)
home_of (row ∷ rows) n (suc t) d lt all = home_of rows n t d (omega arith) (λ k e l. all (suc k) e (omega arith))

pub past : {X : Type 0} (xs : List X) (i : ℕ) (d : X) → length xs ≤ i → get_or xs i d ≡ d
past [] i d h = refl
past (x ∷ xs) zero d h = absurd (omega arith)
past (x ∷ xs) (suc i) d h = past xs i d (omega arith)

pub opening_at : (h : Header) (cpu : ℕ) → (queue_at (start h).queues cpu ≡ opening_queue h cpu)
    × (cpu < length h.cpus) ⊎ (queue_at (start h).queues cpu ≡ no_queue) × (length h.cpus ≤ cpu)
unfolding start
opening_at h cpu = elim (cases_lt cpu (length h.cpus)) [
  | inl lt ↦ inl (get_or-map-range_with_len (opening_queue h) 0 (length h.cpus) cpu cpu no_queue lt (omega arith), lt)
  | inr ge ↦ inr (past _ cpu no_queue (let e = length-map-range_with_len (opening_queue h) 0 (length h.cpus) in omega arith), ge)
]

pub opening_hand : (h : Header) (lane : ℕ) → (course_at (start h).courses lane).hand ≡ []
unfolding start
opening_hand h lane =
    let c : Course = opening_course (length h.cpus) in
    elim (cases_lt lane h.lanes) [
      | inl lt ↦ ap (λ (x : Course). x.hand) (get_or-replicate h.lanes lane c no_course lt)
      | inr ge ↦ ap (λ (x : Course). x.hand)
          (past (replicate h.lanes c) lane no_course (let e = length-replicate h.lanes c in omega arith))
    ]

-- nobody stands anywhere but asleep
its_not : (h : Header) → HomesDeclared h → (p : Place) (t : ℕ)
    → ((c : ℕ) → c < length h.cpus → same_place p (AsleepAt c) ≡ false) → is_its_place (start h) p t ≡ false
unfolding start
its_not h homes p t n = elim (cases_lt t (length h.tasks)) [
  | inl lt ↦ let d = HandOf (length (start h).courses) in let o = home_of h.tasks (length h.cpus) t d lt homes in
      and_right _ (same_place p (place_at (start h) t)) (let g : place_at (start h) t ≡ AsleepAt o.0 = o.2 in rw g (n o.0 o.1))
  | inr ge ↦ and_left (ltb t (length (start h).places)) _
      (le-ltb t (length (start h).places) (let e = length-map h.tasks (λ (r : TaskRow). AsleepAt r.home) in omega arith))
]

zero_is : (n : ℕ) (b : Bool) → n ≡ 0 → b ≡ false → n ≡ cond {A = ℕ} b 1 0
zero_is n b z e = rw e z

asleep_once : (h : Header) → HomesDeclared h → (cpu t : ℕ)
    → times (start h) (AsleepAt cpu) t ≡ cond {A = ℕ} (is_its_place (start h) (AsleepAt cpu) t) 1 0
unfolding start opening_queue is_home
asleep_once h homes cpu t = elim (opening_at h cpu) [
  | inl a ↦
      let d = HandOf (length (start h).courses) in
      let q = ap (λ (x : QueueState). occurs t (ids x.asleep)) a.0 in
      let n = at_home cpu 0 t h.tasks d in
      let z : t - 0 ≡ t = omega arith in
      let l : leb 0 t ≡ true = le-leb 0 t (omega arith) in
      let e : is_home cpu 0 h.tasks d t ≡ is_its_place (start h) (AsleepAt cpu) t =
      rw (l, z, length-map h.tasks (λ (r : TaskRow). AsleepAt r.home)) refl in
      q ∙ n ∙ ap (λ (b : Bool). cond {A = ℕ} b 1 0) e
  | inr b ↦ zero_is _ _ (ap (λ (x : QueueState). occurs t (ids x.asleep)) b.0)
      (its_not h homes (AsleepAt cpu) t (λ c lt. ne_eqb cpu c (λ e. omega arith)))
]

start_once : (h : Header) → HomesDeclared h → (p : Place) (t : ℕ) → times (start h) p t ≡ cond {A = ℕ}
    (is_its_place (start h) p t) 1 0
unfolding opening_queue
start_once h homes (AwakeAt cpu) t = zero_is _ _
    (elim (opening_at h cpu) [
      | inl a ↦ ap (λ (x : QueueState). occurs t (awake_ids x.awake)) a.0
      | inr b ↦ ap
          (λ (x : QueueState). occurs t (awake_ids x.awake)) b.0
    ]) (its_not h homes (AwakeAt cpu) t (λ c lt. refl))
start_once h homes (AsleepAt cpu) t = asleep_once h homes cpu t
start_once h homes (GoneAt cpu) t = zero_is _ _
    (elim (opening_at h cpu) [
      | inl a ↦ ap (λ (x : QueueState). occurs t (ids x.gone)) a.0
      | inr b ↦ ap
          (λ (x : QueueState). occurs t (ids x.gone)) b.0
    ]) (its_not h homes (GoneAt cpu) t (λ c lt. refl))
start_once h homes (HandOf lane) t = zero_is _ _
    (ap (λ (x : List TaskRecord). occurs t (ids x)) (opening_hand h lane)) (its_not h homes (HandOf lane) t (λ c lt. refl))

pub start_kept : (h : Header) → HomesDeclared h → Kept (start h)
unfolding start
start_kept h homes = record {
  placed = record {
    mapped = length-map h.tasks (λ (r : TaskRow). AsleepAt r.home);
    once = start_once h homes;
  };
  hands = λ lane f. opening_hand h lane;
}

pub placed_always : CallsMove → PlacedAlways
placed_always law h es accepted legal = (run_kept law es (start h) (start_kept h (homes_declared h accepted)) legal).placed

pub placed_opens : PlacedOpens
placed_opens h accepted = let k = start_kept h (homes_declared h accepted) in (k.placed, k.hands)

pub placed_stays : CallsMove → PlacedStays
placed_stays law m e placed hands added = let k =
    step_kept law m e.owner e.lane e.prev e.what (record { placed = placed; hands = hands }) added in (k.placed, k.hands)
