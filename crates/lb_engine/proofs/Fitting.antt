-- Hands and bookings go with the machine after each step: where tasks left, where they landed, and where
-- neither did.
-- For the lemmas of `Beside`, `Ending` and `Taking`, and so for `Engine::take_beside`, `Engine::step` and others.
use Rattle.std.proofs.Common.{ℕ, ◌≡◌, ◌≢◌, ◌<◌, ◌≤◌, ◌+◌, ◌-◌, Bool, true, false, cond, Option, Some, None, IsSomeAnd, List, length, slice_set, inl, inr, refl, ap, sym, ◌∙◌, subst, arith}
use Rattle.std.proofs.Math.ListN.{length-set}
use Rattle.std.proofs.lemmas.Bool.{eq-eqb, ne_eqb, cases_eq}
use Rattle.std.proofs.lemmas.List.{get_or-set_same, get_or-set_other, set-get_or}
use Rattle.std.proofs.lemmas.List.Sums.{sum_by-set}
use Rattle.lb_queue.specs.Hands.{HandState}
use Rattle.lb_core.specs.declared.course.Course.{Course}
use Rattle.lb_core.specs.Machine.{course_at, no_course}
use Rattle.lb_core.specs.Placed.{is_flight}
use Rattle.lb_engine.specs.Held.{Held, HandsFit, Holds, IsInFlight, hand_at, booked_at, held_for, tasks_for}
use Rattle.lb_engine.specs.Leaves.{HasTakenOff, HasLanded}
use Rattle.lb_engine.specs.Takes.{StillHeld}

-- what a step leaves of a lane: another course, as many lanes and queues
pub record HasStepped (p p2 : Held) (lane : ℕ) (c2 : Course) : Type 0 where
  pub lane_is : lane < length p.machine.courses
  pub courses : p2.machine.courses ≡ slice_set p.machine.courses lane c2
  pub queues : length p2.machine.queues ≡ length p.machine.queues

held_at : (hands hands2 : List (Option HandState)) (courses courses2 : List Course) (lane : ℕ) (h2 : Option HandState)
    (c2 : Course)
    → lane < length hands → lane < length courses → ((l : ℕ) → Holds (hand_at hands l) (course_at courses l)) → Holds h2 c2
    → hands2 ≡ slice_set hands lane h2 → courses2 ≡ slice_set courses lane c2 → (l : ℕ)
    → Holds (hand_at hands2 l) (course_at courses2 l)
held_at hands hands2 courses courses2 lane h2 c2 inhands incourses holds here he ce l =
    let P : List (Option HandState) → List Course → Type 0 = λ hs cs. Holds (hand_at hs l) (course_at cs l) in
    let done : P (slice_set hands lane h2) (slice_set courses lane c2) = elim (cases_eq l lane) [
      | inl e ↦
          let h : hand_at (slice_set hands lane h2) l ≡ h2 =
          ap (λ (k : ℕ). hand_at (slice_set hands lane h2) k) e ∙ get_or-set_same hands lane h2 None inhands in
          let c : course_at (slice_set courses lane c2) l ≡ c2 =
          ap (λ (k : ℕ). course_at (slice_set courses lane c2) k) e ∙ get_or-set_same courses lane c2 no_course incourses in
          let Q : Option HandState → Type 0 = λ x. Holds x (course_at (slice_set courses lane c2) l) in
          let R : Course → Type 0 = λ x. Holds h2 x in
          subst Q (sym h) (subst R (sym c) here)
      | inr d ↦
          let h : hand_at (slice_set hands lane h2) l ≡ hand_at hands l = get_or-set_other hands lane l h2 None d in
          let c : course_at (slice_set courses lane c2) l
          ≡ course_at courses l = get_or-set_other courses lane l c2 no_course d in
          let Q : Option HandState → Type 0 = λ x. Holds x (course_at (slice_set courses lane c2) l) in
          let R : Course → Type 0 = λ x. Holds (hand_at hands l) x in
          subst Q (sym h) (subst R (sym c) (holds l))
    ] in
    let S : List (Option HandState) → Type 0 = λ hs. P hs courses2 in
    let T : List Course → Type 0 = λ cs. P (slice_set hands lane h2) cs in
    subst S (sym he) (subst T (sym ce) done)

-- by the hand of the lane after it, and the bookings
fits : (p p2 : Held) (lane : ℕ) (c2 : Course) (h2 : Option HandState) → HandsFit p → HasStepped p p2 lane c2
    → p2.hands ≡ slice_set p.hands lane h2 → Holds h2 c2 → length p2.booked ≡ length p.booked
    → ((cpu : ℕ) → booked_at p2.booked cpu ≡ held_for cpu p2.hands) → HandsFit p2
fits p p2 lane c2 h2 fit step he here le be = record {
  lanes = ap (λ (l : List (Option HandState)). length l) he ∙ length-set p.hands lane h2 ∙ fit.lanes
      ∙ sym (length-set p.machine.courses lane c2) ∙ ap (λ (l : List Course). length l) (sym step.courses);
  queues = le ∙ fit.queues ∙ sym step.queues;
  holds = held_at p.hands p2.hands p.machine.courses p2.machine.courses lane h2 c2
      (let l = fit.lanes in let k = step.lane_is in omega arith) step.lane_is fit.holds here he step.courses;
  booked = be;
}

-- ---- no task leaves or lands
pub none_held : (o : Option HandState) (c : Course) → Holds o c → is_flight c.form ≡ false → o ≡ None
none_held None c holds rests = refl
none_held (Some h) c holds rests = let k : true ≡ false = sym holds.flight ∙ rests in cc

pub fit_still : (p p2 : Held) (lane : ℕ) (c2 : Course) → HandsFit p → HasStepped p p2 lane c2 → StillHeld p p2
    → is_flight (course_at p.machine.courses lane).form ≡ false → is_flight c2.form ≡ false → HandsFit p2
fit_still p p2 lane c2 fit step still before after =
    let none : hand_at p.hands lane
    ≡ None = none_held (hand_at p.hands lane) (course_at p.machine.courses lane) (fit.holds lane) before in
    let he : p2.hands ≡ slice_set p.hands lane None =
    still.hands ∙ sym (set-get_or p.hands lane None) ∙ ap (λ (h : Option HandState). slice_set p.hands lane h) none in
    fits p p2 lane c2 None fit step he after (ap (λ (b : List ℕ). length b) still.booked)
    (λ cpu. let h = ap (λ (hs : List (Option HandState)). held_for cpu hs) still.hands in
    let b = ap (λ (bs : List ℕ). booked_at bs cpu) still.booked in
    let f = fit.booked cpu in omega arith)

-- ---- tasks left
pub for_another : (cpu : ℕ) (h : HandState) → h.to ≢ cpu → tasks_for cpu (Some h) ≡ 0
for_another cpu h d = ap (λ (b : Bool). cond {A = ℕ} b (length h.tasks) 0) (ne_eqb h.to cpu d)

pub for_it : (cpu : ℕ) (h : HandState) → h.to ≡ cpu → tasks_for cpu (Some h) ≡ length h.tasks
for_it cpu h e = ap (λ (b : Bool). cond {A = ℕ} b (length h.tasks) 0) (eq-eqb h.to cpu e)

more_booked : (p : Held) (lane to count cpu : ℕ) (h : HandState) → HandsFit p → lane < length p.hands
    → hand_at p.hands lane ≡ None → to < length p.booked
    → h.to ≡ to → length h.tasks ≡ count
    → booked_at (slice_set p.booked to (booked_at p.booked to + count)) cpu ≡ held_for cpu (slice_set p.hands lane (Some h))
more_booked p lane to count cpu h fit inside none intobooked goes holds =
    let sums = sum_by-set (tasks_for cpu) p.hands lane (Some h) None inside in
    let before : tasks_for cpu (hand_at p.hands lane) ≡ 0 = ap (λ (o : Option HandState). tasks_for cpu o) none in
    let f = fit.booked cpu in
    elim (cases_eq cpu to) [
      | inl e ↦
          let t = for_it cpu h (goes ∙ sym e) in
          let b : booked_at (slice_set p.booked to (booked_at p.booked to + count)) cpu ≡ booked_at p.booked to + count =
          ap (λ (k : ℕ). booked_at (slice_set p.booked to (booked_at p.booked to + count)) k) e
          ∙ get_or-set_same p.booked to (booked_at p.booked to + count) 0 intobooked in
          let b2 : booked_at p.booked cpu ≡ booked_at p.booked to = ap (λ (k : ℕ). booked_at p.booked k) e in
          omega arith
      | inr d ↦
          let t = for_another cpu h (λ e. d (sym e ∙ goes)) in
          let b : booked_at (slice_set p.booked to (booked_at p.booked to + count)) cpu ≡ booked_at p.booked cpu =
          get_or-set_other p.booked to cpu (booked_at p.booked to + count) 0 d in
          omega arith
    ]

pub fit_left : (p p2 : Held) (lane to : ℕ) (c2 : Course) → HandsFit p → HasStepped p p2 lane c2
    → HasTakenOff p p2 lane to → to < length p.machine.queues
    → is_flight (course_at p.machine.courses lane).form ≡ false → HandsFit p2
fit_left p p2 lane to c2 fit step left into before =
    let none : hand_at p.hands lane
    ≡ None = none_held (hand_at p.hands lane) (course_at p.machine.courses lane) (fit.holds lane) before in
    let inside : lane < length p.hands = (let l = fit.lanes in let k = step.lane_is in omega arith) in
    let intobooked : to < length p.booked = (let l = fit.queues in omega arith) in
    let h = left.loaded.hand in
    let c : course_at p2.machine.courses lane ≡ c2 =
    ap (λ (cs : List Course). course_at cs lane) step.courses
    ∙ get_or-set_same p.machine.courses lane c2 no_course step.lane_is in
    fits p p2 lane c2 (Some h) fit step left.loaded.hands (subst (λ (x : Course). IsInFlight h x) c left.loaded.loaded)
    (ap (λ (b : List ℕ). length b) left.booked ∙ length-set p.booked to (booked_at p.booked to + left.count))
    (λ cpu.
    let m = more_booked p lane to left.count cpu h fit inside none intobooked left.loaded.goes left.loaded.holds in
    let hs = ap (λ (x : List (Option HandState)). held_for cpu x) left.loaded.hands in
    let bs = ap (λ (x : List ℕ). booked_at x cpu) left.booked in
    omega arith)

-- ---- tasks landed
fewer_booked : (p : Held) (lane to cpu : ℕ) (h : HandState) → HandsFit p → lane < length p.hands
    → hand_at p.hands lane ≡ Some h → to < length p.booked
    → h.to ≡ to
    → booked_at (slice_set p.booked to (booked_at p.booked to - length h.tasks)) cpu ≡ held_for cpu (slice_set p.hands lane None)
fewer_booked p lane to cpu h fit inside held intobooked goes =
    let sums = sum_by-set (tasks_for cpu) p.hands lane None None inside in
    let before : tasks_for cpu (hand_at p.hands lane)
    ≡ tasks_for cpu (Some h) = ap (λ (o : Option HandState). tasks_for cpu o) held in
    let f = fit.booked cpu in
    elim (cases_eq cpu to) [
      | inl e ↦
          let t = for_it cpu h (goes ∙ sym e) in
          let b : booked_at (slice_set p.booked to (booked_at p.booked to - length h.tasks)) cpu
          ≡ booked_at p.booked to - length h.tasks =
          ap (λ (k : ℕ). booked_at (slice_set p.booked to (booked_at p.booked to - length h.tasks)) k) e
          ∙ get_or-set_same p.booked to (booked_at p.booked to - length h.tasks) 0 intobooked in
          let b2 : booked_at p.booked cpu ≡ booked_at p.booked to = ap (λ (k : ℕ). booked_at p.booked k) e in
          omega arith
      | inr d ↦
          let t = for_another cpu h (λ e. d (sym e ∙ goes)) in
          let b : booked_at (slice_set p.booked to (booked_at p.booked to - length h.tasks)) cpu ≡ booked_at p.booked cpu =
          get_or-set_other p.booked to cpu (booked_at p.booked to - length h.tasks) 0 d in
          omega arith
    ]

-- the hand of a lane in flight
pub some_held : (o : Option HandState) (c : Course) → Holds o c → is_flight c.form ≡ true → IsSomeAnd o (λ h. IsInFlight h c)
some_held None c holds flies = let k : true ≡ false = sym flies ∙ holds in cc
some_held (Some h) c holds flies = holds

-- as many landings are booked as it holds
pub enough_booked : (p : Held) (lane cpu : ℕ) (h : HandState) → HandsFit p → lane < length p.hands
    → hand_at p.hands lane ≡ Some h → h.to ≡ cpu → length h.tasks ≤ booked_at p.booked cpu
enough_booked p lane cpu h fit inside held goes =
    let sums = sum_by-set (tasks_for cpu) p.hands lane None None inside in
    let before : tasks_for cpu (hand_at p.hands lane)
    ≡ tasks_for cpu (Some h) = ap (λ (o : Option HandState). tasks_for cpu o) held in
    let t = for_it cpu h goes in
    let f = fit.booked cpu in
    omega arith

landed_from : (o : Option HandState) (p p2 : Held) (lane cpu : ℕ) (c c2 : Course) → hand_at p.hands lane ≡ o
    → HandsFit p → HasStepped p p2 lane c2
    → IsSomeAnd o (λ h. HasLanded p p2 h lane cpu) → IsSomeAnd o (λ h. IsInFlight h c) → c.to ≡ cpu
    → cpu < length p.machine.queues → is_flight c2.form ≡ false → HandsFit p2
landed_from None p p2 lane cpu c c2 held fit step landed loaded goes into after = absurd landed
landed_from (Some h) p p2 lane cpu c c2 held fit step landed loaded goes into after =
    let inside : lane < length p.hands = (let l = fit.lanes in let k = step.lane_is in omega arith) in
    let intobooked : cpu < length p.booked = (let l = fit.queues in omega arith) in
    fits p p2 lane c2 None fit step landed.hands after
    (ap (λ (b : List ℕ). length b) landed.booked ∙ length-set p.booked cpu (booked_at p.booked cpu - length h.tasks))
    (λ k.
    let m = fewer_booked p lane cpu k h fit inside held intobooked (loaded.loaded.to ∙ goes) in
    let hs = ap (λ (x : List (Option HandState)). held_for k x) landed.hands in
    let bs = ap (λ (x : List ℕ). booked_at x k) landed.booked in
    omega arith)

pub fit_landed : (p p2 : Held) (lane cpu : ℕ) (c2 : Course) → HandsFit p → HasStepped p p2 lane c2
    → IsSomeAnd (hand_at p.hands lane) (λ h. HasLanded p p2 h lane cpu)
    → is_flight (course_at p.machine.courses lane).form ≡ true → (course_at p.machine.courses lane).to ≡ cpu
    → cpu < length p.machine.queues → is_flight c2.form ≡ false → HandsFit p2
fit_landed p p2 lane cpu c2 fit step landed flies goes into after =
    let c = course_at p.machine.courses lane in
    landed_from (hand_at p.hands lane) p p2 lane cpu c c2 refl fit step landed
    (some_held (hand_at p.hands lane) c (fit.holds lane) flies) goes into after
