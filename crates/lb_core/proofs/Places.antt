-- Where tasks move and the map says so, each task keeps one place.
-- For the lemmas of `Permits` and `Placing`, and so for the laws `permitted_stays`, `permitted` and others.
use Rattle.std.proofs.Common.{◌≡◌, ℕ, ◌+◌, ◌<◌, ◌≤◌, Bool, true, false, cond, eqb, ltb, List, [], ◌∷◌, length, set, get_or, refl, sym, ◌∙◌, ap, arith, inl, inr}
use Rattle.std.proofs.Common.{length-set, get_or-set_same, get_or-set_other}
use Rattle.std.proofs.lemmas.Bool.{eqb-true, eq-eqb, ne_eqb, ltb-true, and_parts, cases_eq}
use Rattle.std.proofs.lemmas.Bool.Decides.{nat_tests}
use Rattle.lb_queue.specs.Tasks.{occurs, ids, awake_ids}
use Rattle.lb_queue.specs.Queue.{QueueState}
use Rattle.lb_queue.specs.Moves.{Side, OnAwake, OnAsleep, OnGone, OnHand, same_side, HasMoved}
use Rattle.lb_core.specs.declared.place.Place.{Place}
use Rattle.lb_core.specs.declared.place.Place.TheVariants.{Awake as AwakeAt, Asleep as AsleepAt, Gone as GoneAt, Hand as HandOf}
use Rattle.lb_core.specs.declared.course.Course.{Course}
use Rattle.lb_trace.specs.declared.trace.Header.{Header}
use Rattle.lb_core.specs.Same.{same_place}
use Rattle.lb_core.specs.Machine.{MachineState, queue_at, no_course, course_at, place_at}
use Rattle.lb_core.specs.Step.{set_places}
use Rattle.lb_core.specs.Placed.{times, is_its_place, IsPlaced}
use Rattle.lb_core.proofs.Carrying.{place_on}

-- ---- places that are set
pub sp_length : (ts : List ℕ) (p : Place) (xs : List Place) → length (set_places ts p xs) ≡ length xs
sp_length [] p xs = refl
sp_length (t ∷ ts) p xs = sp_length ts p (set xs t p) ∙ length-set xs t p

one_more : (x t n : ℕ) → cond (eqb x t) 1 0 + n ≡ 0 → (n ≡ 0) × ((t ≡ x → ⊥))
one_more x t n h = (grind (arith, nat_tests), λ e. grind (arith, nat_tests))

pub sp_other : (ts : List ℕ) (p : Place) (xs : List Place) (t : ℕ) (d : Place) → occurs t ts ≡ 0
    → get_or (set_places ts p xs) t d ≡ get_or xs t d
sp_other [] p xs t d h = refl
sp_other (x ∷ ts) p xs t d h = let k = one_more x t (occurs t ts) h in sp_other ts p (set xs x p) t d k.0 ∙
    get_or-set_other xs x t p d k.1

hit_here : (x t n : ℕ) → 1 ≤ cond (eqb x t) 1 0 + n → n ≡ 0 → x ≡ t
hit_here x t n h z = grind (arith, nat_tests)

pub sp_hit : (ts : List ℕ) (p : Place) (xs : List Place) (t : ℕ) (d : Place) → 1 ≤ occurs t ts → t < length xs
    → get_or (set_places ts p xs) t d ≡ p
sp_hit [] p xs t d h lt = absurd (omega arith)
sp_hit (x ∷ ts) p xs t d h lt = elim (cases_eq (occurs t ts) 0) [
  | inl z ↦ sp_other ts p (set xs x p) t d z ∙
      (let e : x ≡ t = hit_here x t (occurs t ts) h z in rw e (get_or-set_same xs t p d lt))
  | inr n ↦ sp_hit ts p (set xs x p) t d (omega arith) (let k = length-set xs x p in omega arith)
]

-- ---- one queue and one course
abbrev part : Bool → ℕ → ℕ
part b n = cond b n 0

-- the machine with another queue and another course
pub record IsChanged (m m' : MachineState) (cpu lane : ℕ) (q : QueueState) (c : Course) : Type 0 where
  pub this_queue : queue_at m'.queues cpu ≡ q
  pub other_queue : (u : ℕ) → (u ≡ cpu → ⊥) → queue_at m'.queues u ≡ queue_at m.queues u
  pub lane_there : lane < length m.courses
  pub header : m'.header ≡ m.header
  pub courses : m'.courses ≡ set m.courses lane c

pub course_same : (m m' : MachineState) (cpu lane : ℕ) (q : QueueState) (c : Course) → IsChanged m m' cpu lane q c
    → course_at m'.courses lane ≡ c
course_same m m' cpu lane q c h = ap (λ (x : List Course). course_at x lane) h.courses
    ∙ get_or-set_same m.courses lane c no_course h.lane_there

pub course_other : (m m' : MachineState) (cpu lane : ℕ) (q : QueueState) (c : Course) → IsChanged m m' cpu lane q c
    → (l : ℕ) → (l ≡ lane → ⊥) → course_at m'.courses l ≡ course_at m.courses l
course_other m m' cpu lane q c h l n = ap (λ (x : List Course). course_at x l) h.courses ∙ get_or-set_other m.courses
    lane l c no_course n

-- which side a place of this queue and lane is
same_awake : (u cpu lane : ℕ) (s : Side) → u ≡ cpu → same_place (AwakeAt u) (place_on s cpu lane) ≡ same_side OnAwake s
same_awake u cpu lane OnAwake e = eq-eqb u cpu e
same_awake u cpu lane s e = refl

same_asleep : (u cpu lane : ℕ) (s : Side) → u ≡ cpu → same_place (AsleepAt u) (place_on s cpu lane) ≡ same_side OnAsleep s
same_asleep u cpu lane OnAsleep e = eq-eqb u cpu e
same_asleep u cpu lane s e = refl

same_gone : (u cpu lane : ℕ) (s : Side) → u ≡ cpu → same_place (GoneAt u) (place_on s cpu lane) ≡ same_side OnGone s
same_gone u cpu lane OnGone e = eq-eqb u cpu e
same_gone u cpu lane s e = refl

same_hand : (l cpu lane : ℕ) (s : Side) → l ≡ lane → same_place (HandOf l) (place_on s cpu lane) ≡ same_side OnHand s
same_hand l cpu lane OnHand e = eq-eqb l lane e
same_hand l cpu lane s e = refl

far_awake : (u cpu lane : ℕ) (s : Side) → (u ≡ cpu → ⊥) → same_place (AwakeAt u) (place_on s cpu lane) ≡ false
far_awake u cpu lane OnAwake n = ne_eqb u cpu n
far_awake u cpu lane s n = refl

far_asleep : (u cpu lane : ℕ) (s : Side) → (u ≡ cpu → ⊥) → same_place (AsleepAt u) (place_on s cpu lane) ≡ false
far_asleep u cpu lane OnAsleep n = ne_eqb u cpu n
far_asleep u cpu lane s n = refl

far_gone : (u cpu lane : ℕ) (s : Side) → (u ≡ cpu → ⊥) → same_place (GoneAt u) (place_on s cpu lane) ≡ false
far_gone u cpu lane OnGone n = ne_eqb u cpu n
far_gone u cpu lane s n = refl

far_hand : (l cpu lane : ℕ) (s : Side) → (l ≡ lane → ⊥) → same_place (HandOf l) (place_on s cpu lane) ≡ false
far_hand l cpu lane OnHand n = ne_eqb l lane n
far_hand l cpu lane s n = refl

near : (n x' x y' y : ℕ) (b c b' c' : Bool) → x' ≡ y' → x ≡ y → b ≡ b' → c ≡ c' → y' + part b' n ≡ y + part c' n
    → x' + part b n ≡ x + part c n
near n x' x y' y b c b' c' e f g k h = rw (e, f, g, k) h

far : (n x' x : ℕ) (b c : Bool) → x' ≡ x → b ≡ false → c ≡ false → x' + part b n ≡ x + part c n
far n x' x b c e g k = rw (e, g, k) refl

-- how often each task stands at each place, before and after
pub times_flow : (m m' : MachineState) (cpu lane : ℕ) (q : QueueState) (c : Course) (ts : List ℕ) (from to : Side)
    → IsChanged m m' cpu lane q c →
    HasMoved (record { tasks = ts; from = from; to = to }) (queue_at m.queues cpu)
    (course_at m.courses lane).hand q c.hand → (p : Place) (t : ℕ) →
    times m' p t + part (same_place p (place_on from cpu lane)) (occurs t ts) ≡ times m p t + part
    (same_place p (place_on to cpu lane)) (occurs t ts)
times_flow m m' cpu lane q c ts from to h f (AwakeAt u) t =
    let g : QueueState → ℕ = λ x. occurs t (awake_ids x.awake) in
    elim (cases_eq u cpu) [
      | inl e ↦ near (occurs t ts) (g (queue_at m'.queues u)) (g (queue_at m.queues u)) (g q)
          (g (queue_at m.queues cpu)) _ _ (same_side OnAwake from) (same_side OnAwake to)
          (ap g (ap (queue_at m'.queues) e ∙ h.this_queue)) (ap g (ap (queue_at m.queues) e))
          (same_awake u cpu lane from e) (same_awake u cpu lane to e) (f OnAwake t)
      | inr n ↦ far (occurs t ts) (g (queue_at m'.queues u)) (g (queue_at m.queues u)) _ _ (ap g (h.other_queue u n))
          (far_awake u cpu lane from n) (far_awake u cpu lane to n)
    ]
times_flow m m' cpu lane q c ts from to h f (AsleepAt u) t =
    let g : QueueState → ℕ = λ x. occurs t (ids x.asleep) in
    elim (cases_eq u cpu) [
      | inl e ↦ near (occurs t ts) (g (queue_at m'.queues u)) (g (queue_at m.queues u)) (g q)
          (g (queue_at m.queues cpu)) _ _ (same_side OnAsleep from) (same_side OnAsleep to)
          (ap g (ap (queue_at m'.queues) e ∙ h.this_queue)) (ap g (ap (queue_at m.queues) e))
          (same_asleep u cpu lane from e) (same_asleep u cpu lane to e) (f OnAsleep t)
      | inr n ↦ far (occurs t ts) (g (queue_at m'.queues u)) (g (queue_at m.queues u)) _ _ (ap g (h.other_queue u n))
          (far_asleep u cpu lane from n) (far_asleep u cpu lane to n)
    ]
times_flow m m' cpu lane q c ts from to h f (GoneAt u) t =
    let g : QueueState → ℕ = λ x. occurs t (ids x.gone) in
    elim (cases_eq u cpu) [
      | inl e ↦ near (occurs t ts) (g (queue_at m'.queues u)) (g (queue_at m.queues u)) (g q)
          (g (queue_at m.queues cpu)) _ _ (same_side OnGone from) (same_side OnGone to)
          (ap g (ap (queue_at m'.queues) e ∙ h.this_queue)) (ap g (ap (queue_at m.queues) e))
          (same_gone u cpu lane from e) (same_gone u cpu lane to e) (f OnGone t)
      | inr n ↦ far (occurs t ts) (g (queue_at m'.queues u)) (g (queue_at m.queues u)) _ _ (ap g (h.other_queue u n))
          (far_gone u cpu lane from n) (far_gone u cpu lane to n)
    ]
times_flow m m' cpu lane q c ts from to h f (HandOf l) t =
    let g : Course → ℕ = λ x. occurs t (ids x.hand) in
    elim (cases_eq l lane) [
      | inl e ↦ near (occurs t ts) (g (course_at m'.courses l)) (g (course_at m.courses l)) (g c)
          (g (course_at m.courses lane)) _ _ (same_side OnHand from) (same_side OnHand to)
          (ap g (ap (course_at m'.courses) e ∙ course_same m m' cpu lane q c h)) (ap g (ap (course_at m.courses) e))
          (same_hand l cpu lane from e) (same_hand l cpu lane to e) (f OnHand t)
      | inr n ↦ far (occurs t ts) (g (course_at m'.courses l)) (g (course_at m.courses l)) _ _
          (ap g (course_other m m' cpu lane q c h l n)) (far_hand l cpu lane from n) (far_hand l cpu lane to n)
    ]

-- ---- the law is kept where tasks move and the map says so
same_place-refl : (p : Place) → same_place p p ≡ true
same_place-refl (AwakeAt a) = eq-eqb a a refl
same_place-refl (AsleepAt a) = eq-eqb a a refl
same_place-refl (GoneAt a) = eq-eqb a a refl
same_place-refl (HandOf a) = eq-eqb a a refl

same_place_is : (p r : Place) → same_place p r ≡ true → p ≡ r
same_place_is (AwakeAt a) (AwakeAt b) h = ap AwakeAt (eqb-true a b h)
same_place_is (AsleepAt a) (AsleepAt b) h = ap AsleepAt (eqb-true a b h)
same_place_is (GoneAt a) (GoneAt b) h = ap GoneAt (eqb-true a b h)
same_place_is (HandOf a) (HandOf b) h = ap HandOf (eqb-true a b h)
same_place_is p r h = absurd (let k : ⊥ = cc in k)

sides_apart : (a b : Side) (cpu lane : ℕ) → same_side a b ≡ false → same_place (place_on a cpu lane) (place_on b cpu lane) ≡ false
sides_apart OnAwake OnAwake cpu lane h = absurd (let k : ⊥ = cc in k)
sides_apart OnAsleep OnAsleep cpu lane h = absurd (let k : ⊥ = cc in k)
sides_apart OnGone OnGone cpu lane h = absurd (let k : ⊥ = cc in k)
sides_apart OnHand OnHand cpu lane h = absurd (let k : ⊥ = cc in k)
sides_apart a b cpu lane h = refl

part_zero : (b : Bool) (n : ℕ) → n ≡ 0 → part b n ≡ 0
part_zero true n z = z
part_zero false n z = refl

unmoved : (x' x n : ℕ) (b c : Bool) (a' a : Bool) → n ≡ 0 → x' + part b n ≡ x + part c n → x ≡ cond a 1 0 → a' ≡ a
    → x' ≡ cond {A = ℕ} a' 1 0
unmoved x' x n b c a' a z e k s = let u = part_zero b n z in let v = part_zero c n z in rw s (omega arith)

arrived : (x' x n : ℕ) (b c a a' : Bool) → n ≡ 1 → x' + part b n ≡ x + part c n → x ≡ cond a 1 0 → a ≡ b → a' ≡ c
    → x' ≡ cond {A = ℕ} a' 1 0
arrived x' x n true true a a' o e k s r = let w : x ≡ 1 = rw s at k in rw r (omega arith)
arrived x' x n true false a a' o e k s r = let w : x ≡ 1 = rw s at k in rw r (omega arith)
arrived x' x n false true a a' o e k s r = let w : x ≡ 0 = rw s at k in rw r (omega arith)
arrived x' x n false false a a' o e k s r = let w : x ≡ 0 = rw s at k in rw r (omega arith)

stood : (x' x n : ℕ) (b c a : Bool) → b ≡ true → c ≡ false → x' + part b n ≡ x + part c n → x ≡ cond a 1 0 → 1 ≤ n
    → (n ≡ 1) × (a ≡ true)
stood x' x n b c true hb hc e k l = let e' : x' + n ≡ x + 0 = rw (hb, hc) at e in (omega arith, refl)
stood x' x n b c false hb hc e k l = let e' : x' + n ≡ x + 0 = rw (hb, hc) at e in absurd (omega arith)

kept_place : (m m' : MachineState) (cpu lane : ℕ) (q : QueueState) (c : Course) (ts : List ℕ) (to : Side)
    → IsChanged m m' cpu lane q c →
    m'.places ≡ set_places ts (place_on to cpu lane) m.places → (p : Place) (t : ℕ) → occurs t ts ≡ 0
    → is_its_place m' p t ≡ is_its_place m p t
kept_place m m' cpu lane q c ts to h e p t z =
    let l : length m'.places ≡ length m.places = ap length e ∙ sp_length ts (place_on to cpu lane) m.places in
    let n : length m'.courses ≡ length m.courses = ap length h.courses ∙ length-set m.courses lane c in
    let g : get_or m'.places t (HandOf (length m'.courses)) ≡ get_or m.places t (HandOf (length m.courses)) =
    ap (λ (x : List Place). get_or x t (HandOf (length m'.courses))) e
    ∙ sp_other ts (place_on to cpu lane) m.places t (HandOf (length m'.courses)) z ∙ ap
    (λ (x : ℕ). get_or m.places t (HandOf x)) n in
    rw (l, g) refl

new_place : (m m' : MachineState) (cpu lane : ℕ) (ts : List ℕ) (to : Side) →
    m'.places ≡ set_places ts (place_on to cpu lane) m.places → (p : Place) (t : ℕ) → 1 ≤ occurs t ts
    → ltb t (length m.places) ≡ true → is_its_place m' p t ≡ same_place p (place_on to cpu lane)
new_place m m' cpu lane ts to e p t z lt =
    let l : length m'.places ≡ length m.places = ap length e ∙ sp_length ts (place_on to cpu lane) m.places in
    let g : get_or m'.places t (HandOf (length m'.courses)) ≡ place_on to cpu lane =
    ap (λ (x : List Place). get_or x t (HandOf (length m'.courses))) e
    ∙ sp_hit ts (place_on to cpu lane) m.places t (HandOf (length m'.courses)) z (ltb-true t (length m.places) lt) in
    rw (l, lt, g) refl

old_place : (m : MachineState) (p r : Place) (t : ℕ) → is_its_place m r t ≡ true → is_its_place m p t ≡ same_place p r
old_place m p r t h =
    let k = and_parts (ltb t (length m.places)) (same_place r (place_at m t)) h in
    let e : r ≡ place_at m t = same_place_is r (place_at m t) k.1 in
    rw (k.0, ← e) refl

pub placed_by_flow : (m m' : MachineState) (cpu lane : ℕ) (q : QueueState) (c : Course) (ts : List ℕ) (from to : Side)
    → IsChanged m m' cpu lane q c →
    m'.places ≡ set_places ts (place_on to cpu lane) m.places → same_side from to ≡ false →
    HasMoved (record { tasks = ts; from = from; to = to }) (queue_at m.queues cpu)
    (course_at m.courses lane).hand q c.hand → IsPlaced m → IsPlaced m'
placed_by_flow m m' cpu lane q c ts from to h e apart f placed = record {
  mapped = ap length e ∙ sp_length ts (place_on to cpu lane) m.places ∙ placed.mapped ∙ ap
      (λ (x : Header). length x.tasks) (sym h.header);
  once = λ p t.
      let flow = times_flow m m' cpu lane q c ts from to h f in
      let pf : Place = place_on from cpu lane in
      elim (cases_eq (occurs t ts) 0) [
        | inl z ↦ unmoved (times m' p t) (times m p t) (occurs t ts) _ _ _ (is_its_place m p t) z (flow p t)
            (placed.once p t) (kept_place m m' cpu lane q c ts to h e p t z)
        | inr n ↦
            let one : 1 ≤ occurs t ts = omega arith in
            let s = stood (times m' pf t) (times m pf t) (occurs t ts) _ _ (is_its_place m pf t) (same_place-refl pf)
            (sides_apart from to cpu lane apart) (flow pf t) (placed.once pf t) one in
            let lt = (and_parts (ltb t (length m.places)) (same_place pf (place_at m t)) s.1).0 in
            arrived (times m' p t) (times m p t) (occurs t ts) (same_place p pf) (same_place p (place_on to cpu lane))
            (is_its_place m p t) _ s.0 (flow p t) (placed.once p t) (old_place m p pf t s.1)
            (new_place m m' cpu lane ts to e p t one lt)
      ];
}
