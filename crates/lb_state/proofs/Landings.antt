-- The hands of a ready machine can land: each goes to a CPU of the machine, where its landings are booked, and
-- no task stands twice, in a hand or on a queue.
-- For the law `hands_may_land`.
use Rattle.std.proofs.Common.{arith, ◌≡◌, ℕ, zero, suc, ◌+◌, ◌<◌, ◌≤◌, Bool, true, false, cond, List, [], ◌∷◌, length, Option, Some, None, refl, ◌∙◌, ap}
use Rattle.std.specs.Prelude.{IfSome, ◌==◌}
use Rattle.std.proofs.lemmas.Bool.{and_parts, eqb-true}
use Rattle.std.proofs.lemmas.List.{get_or_default}
use Rattle.std.proofs.lemmas.List.Sums.{sum_by-cons}
use Rattle.lb_queue.specs.Hands.{HandState}
use Rattle.lb_queue.specs.Tasks.{ids, occurs}
use Rattle.lb_queue.specs.declared.record.TaskRecord.{TaskRecord}
use Rattle.lb_trace.specs.declared.trace.Header.{Header}
use Rattle.lb_core.specs.declared.course.Course.{Course}
use Rattle.lb_core.specs.declared.course.Form.{Form}
use Rattle.lb_core.specs.declared.course.Form.TheVariants.{Flight}
use Rattle.lb_core.specs.declared.place.Place.{Place}
use Rattle.lb_core.specs.declared.place.Place.TheVariants.{Awake as AwakeAt, Asleep as AsleepAt, Gone as GoneAt, Hand as HandOf}
use Rattle.lb_core.specs.Machine.{MachineState, course_at, queue_at, place_at}
use Rattle.lb_core.specs.Placed.{is_flight, is_its_place, times, IsPlaced}
use Rattle.lb_core.specs.Same.{same_place}
use Rattle.lb_ready.specs.Ready.{IsReady, FitsForm, unnamed}
use Rattle.lb_engine.specs.Held.{Holds, hand_at}
use Rattle.lb_engine.specs.Ending.{times_in, times_held, times_queued}
use Rattle.lb_state.specs.Laws.{HandsMayLand}
use Rattle.lb_state.proofs.Counted.{once}

-- ---- where hands go
flies_inside : (f : Form) (ended : Bool) (h : Header) (c : Course) → is_flight f ≡ true → FitsForm ended h f c
    → c.to < length h.cpus
flies_inside Flight ended h c y k = k
flies_inside f ended h c y k = absurd (let z : ⊥ = cc in z)

goes : (m : MachineState) (lane : ℕ) (hand : Option HandState) → IsReady m → Holds hand (course_at m.courses lane)
    → IfSome hand (λ (h : HandState). h.to < length m.queues)
goes m lane None k held = tt
goes m lane (Some h) k held =
    let inside = flies_inside (course_at m.courses lane).form m.ended m.header
    (unnamed (course_at m.courses lane)) held.flight (k.fits lane).form in
    let to = held.loaded.to in
    let queues = k.sizes.queues in
    omega arith

-- ---- how often a task stands there
-- at a place that is not its place, never
never : (m : MachineState) (p q : Place) (t : ℕ) → IsPlaced m → place_at m t ≡ q → same_place p q ≡ false → times m p t ≡ 0
never m p q t placed e n = by_test (is_its_place m p t) refl (placed.once p t)
  where
    by_test : (b : Bool) → is_its_place m p t ≡ b → times m p t ≡ cond {A = ℕ} (is_its_place m p t) 1 0 → times m p t ≡ 0
    by_test true y o =
        let a : same_place p (place_at m t) ≡ true = (and_parts _ (same_place p (place_at m t)) y).1 in
        absurd (let b : same_place p q ≡ true = rw e at a in let z : ⊥ = cc in z)
    by_test false y o = o ∙ rw y refl

-- in a hand as often as in the hand of its course, or not at all
in_hand : (m : MachineState) (lane t : ℕ) (hand : Option HandState) → Holds hand (course_at m.courses lane)
    → times_in t hand ≤ times m (HandOf lane) t
in_hand m lane t None held = omega arith
in_hand m lane t (Some h) held = let e : times_in t (Some h) ≡ times m (HandOf lane) t =
    ap (λ (x : List TaskRecord). occurs t (ids x)) held.loaded.tasks in omega arith

-- ---- over all hands
all : (t : ℕ) (h : Option HandState) (hs : List (Option HandState)) → times_in t h ≤ 0 → times_held t hs ≡ 0
    → times_held t (h ∷ hs) ≡ 0
all t h hs first rest = let sum = sum_by-cons (times_in t) h hs in omega arith

in_none : (t : ℕ) (hands : List (Option HandState)) → ((i : ℕ) → times_in t (hand_at hands i) ≤ 0) → times_held t hands ≡ 0
in_none t [] f = refl
in_none t (h ∷ hs) f = all t h hs (f 0) (in_none t hs (λ i. f (suc i)))

in_one : (t lane : ℕ) (hands : List (Option HandState))
    → ((i : ℕ) → (i ≡ lane → ⊥) → times_in t (hand_at hands i) ≤ 0) → times_in t (hand_at hands lane) ≤ 1 → times_held t hands ≤ 1
in_one t lane [] f g = omega arith
in_one t zero (h ∷ hs) f g =
    let sum = sum_by-cons (times_in t) h hs in
    let one : times_in t h ≤ 1 = g in
    let rest = in_none t hs (λ i. f (suc i) (λ e. absurd (omega (arith, e)))) in
    omega arith
in_one t (suc lane) (h ∷ hs) f g =
    let sum = sum_by-cons (times_in t) h hs in
    let first : times_in t h ≤ 0 = f 0 (λ e. absurd (omega (arith, e))) in
    let rest : times_held t hs ≤ 1 = in_one t lane hs (λ i n. f (suc i) (λ e. n (omega (arith, e)))) g in
    omega arith

-- ---- in all
other_lane : (i lane : ℕ) → (i ≡ lane → ⊥) → same_place (HandOf i) (HandOf lane) ≡ false
other_lane i lane n = by_test (i == lane) refl
  where
    by_test : (b : Bool) → (i == lane) ≡ b → (i == lane) ≡ false
    by_test true e = absurd (n (eqb-true i lane e))
    by_test false e = e

stands_once : (m : MachineState) (hands : List (Option HandState)) (cpu t : ℕ) → IsPlaced m
    → ((lane : ℕ) → Holds (hand_at hands lane) (course_at m.courses lane)) → (p : Place) → place_at m t ≡ p
    → times_held t hands + times_queued t (queue_at m.queues cpu) ≤ 1
stands_once m hands cpu t placed held (HandOf lane) e =
    let a = never m (AwakeAt cpu) (HandOf lane) t placed e refl in
    let s = never m (AsleepAt cpu) (HandOf lane) t placed e refl in
    let g = never m (GoneAt cpu) (HandOf lane) t placed e refl in
    let one = in_one t lane hands
    (λ i n. let h = in_hand m i t (hand_at hands i) (held i) in
    let z = never m (HandOf i) (HandOf lane) t placed e (other_lane i lane n) in omega arith)
    (let h = in_hand m lane t (hand_at hands lane) (held lane) in let o = once m (HandOf lane) t placed in omega arith) in
    omega arith
stands_once m hands cpu t placed held (AwakeAt u) e =
    let a = once m (AwakeAt cpu) t placed in
    let s = never m (AsleepAt cpu) (AwakeAt u) t placed e refl in
    let g = never m (GoneAt cpu) (AwakeAt u) t placed e refl in
    let none = in_none t hands (λ i. let h = in_hand m i t (hand_at hands i) (held i) in
    let z = never m (HandOf i) (AwakeAt u) t placed e refl in omega arith) in
    omega arith
stands_once m hands cpu t placed held (AsleepAt u) e =
    let a = never m (AwakeAt cpu) (AsleepAt u) t placed e refl in
    let s = once m (AsleepAt cpu) t placed in
    let g = never m (GoneAt cpu) (AsleepAt u) t placed e refl in
    let none = in_none t hands (λ i. let h = in_hand m i t (hand_at hands i) (held i) in
    let z = never m (HandOf i) (AsleepAt u) t placed e refl in omega arith) in
    omega arith
stands_once m hands cpu t placed held (GoneAt u) e =
    let a = never m (AwakeAt cpu) (GoneAt u) t placed e refl in
    let s = never m (AsleepAt cpu) (GoneAt u) t placed e refl in
    let g = once m (GoneAt cpu) t placed in
    let none = in_none t hands (λ i. let h = in_hand m i t (hand_at hands i) (held i) in
    let z = never m (HandOf i) (GoneAt u) t placed e refl in omega arith) in
    omega arith

pub hands_may_land : HandsMayLand
hands_may_land p k fit = record {
  own = λ cpu lt. (k.queues cpu (let q = k.sizes.queues in omega arith)).own;
  goes = λ i d lt. rw (get_or_default p.hands i d None lt) (goes p.machine i (hand_at p.hands i) k (fit.holds i));
  room = λ cpu. (let b = fit.booked cpu in omega arith);
  once = λ cpu id. stands_once p.machine p.hands cpu id k.placed fit.holds (place_at p.machine id) refl;
}
