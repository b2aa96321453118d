-- The step of an entry of a queue, for hands and bookings: what the engine keeps where its figure is
-- published, and that hands still go with the machine.
-- For `Engine::take_of_queue`.
use Rattle.std.proofs.Common.{ℕ, ◌≡◌, ◌<◌, false, Option, Some, None, IsSomeAnd, List, length, refl, ap, sym, ◌∙◌, subst, arith}
use Rattle.std.proofs.Math.ListN.{length-set}
use Rattle.std.proofs.lemmas.List.{get_or-set_same}
use Rattle.lb_queue.specs.Hands.{HandState}
use Rattle.lb_core.specs.declared.course.Course.{Course}
use Rattle.lb_core.specs.declared.entry.Owner.TheVariants.{Queue}
use Rattle.lb_core.specs.declared.entry.What.{What}
use Rattle.lb_core.specs.declared.entry.What.TheVariants.{Row, Adopt, Look, Scan, End, Did, Out, Landed, Turn, Shut, Close, Ask, Kick, Over, Pub}
use Rattle.lb_core.specs.CourseAfter.{course_by, course_after, drew}
use Rattle.lb_core.specs.QueueAfter.{queue_after}
use Rattle.lb_core.specs.Machine.{MachineState, course_at, figures_at, no_course, sight}
use Rattle.lb_core.specs.Placed.{is_flight}
use Rattle.lb_core.specs.Step.{after}
use Rattle.lb_engine.specs.Held.{Held, HandsFit, Holds, IsInFlight, hand_at, held_for, booked_at}
use Rattle.lb_engine.specs.Leaves.{HasLanded}
use Rattle.lb_engine.specs.Steps.{of_queue, stepped, served, published}
use Rattle.lb_engine.specs.Takes.{ServeAsks, OfQueueAsks, HandsAfter, StillHeld, is_landing}
use Rattle.lb_engine.proofs.Fitting.{HasStepped, fit_still, fit_left, fit_landed}
use Rattle.lb_engine.proofs.Settling.{is_out, not_in_flight, named_kept}
use Rattle.lb_engine.proofs.Publishing.{publishes}

-- the course that an entry of a queue leaves
abbrev pub course_left : MachineState → ℕ → ℕ → What → Course
course_left m cpu lane w = course_after (sight m (of_queue cpu lane w)) (of_queue cpu lane w)

-- it is in flight after an `out` alone
left_at_rest : (m : MachineState) (cpu lane : ℕ) (w : What) → is_out w ≡ false → is_flight (course_left m cpu lane w).form ≡ false
unfolding course_after
left_at_rest m cpu lane w e = not_in_flight w (sight m (of_queue cpu lane w)) cpu
    (queue_after (sight m (of_queue cpu lane w)) (of_queue cpu lane w)) e

stepped_so : (p p2 : Held) (cpu lane : ℕ) (w : What) → lane < length p.machine.courses
    → p2.machine ≡ stepped p.machine (of_queue cpu lane w) → HasStepped p p2 lane (course_left p.machine cpu lane w)
unfolding after
stepped_so p p2 cpu lane w inlane e = record {
  lane_is = inlane;
  courses = ap (λ (m : MachineState). m.courses) e;
  queues = ap (λ (m : MachineState). length m.queues) e
      ∙ length-set p.machine.queues cpu (queue_after (sight p.machine (of_queue cpu lane w)) (of_queue cpu lane w));
}

still : (p p2 : Held) (cpu lane : ℕ) (w : What) → lane < length p.machine.courses → HandsFit p
    → p2.machine ≡ stepped p.machine (of_queue cpu lane w)
    → is_flight (course_at p.machine.courses lane).form ≡ false → is_out w ≡ false → StillHeld p p2 → HandsFit p2
still p p2 cpu lane w inlane fit e before out held =
    fit_still p p2 lane (course_left p.machine cpu lane w) fit (stepped_so p p2 cpu lane w inlane e) held before
    (left_at_rest p.machine cpu lane w out)

-- hands go with the machine after an entry of a queue
pub fit_after : (w : What) (p p2 : Held) (cpu lane : ℕ) → lane < length p.machine.courses
    → cpu < length p.machine.queues → HandsFit p → p2.machine ≡ stepped p.machine (of_queue cpu lane w)
    → is_flight (course_at p.machine.courses lane).form ≡ is_landing w → ServeAsks w p.machine cpu lane
    → HandsAfter w p p2 cpu lane → HandsFit p2
fit_after (Row n at command) p p2 cpu lane inlane incpu fit e flight asks hands = absurd asks
fit_after (Adopt v k turned) p p2 cpu lane inlane incpu fit e flight asks hands = absurd asks
fit_after (Look x y fs d) p p2 cpu lane inlane incpu fit e flight asks hands = absurd asks
fit_after (Scan fs t) p p2 cpu lane inlane incpu fit e flight asks hands = absurd asks
fit_after (End unserved) p p2 cpu lane inlane incpu fit e flight asks hands = absurd asks
fit_after (Pub v) p p2 cpu lane inlane incpu fit e flight asks hands = absurd asks
fit_after (Did r) p p2 cpu lane inlane incpu fit e flight asks hands = still p p2 cpu lane (Did r) inlane fit e flight refl hands
fit_after (Out cause to tasks) p p2 cpu lane inlane incpu fit e flight asks hands =
    fit_left p p2 lane to (course_left p.machine cpu lane (Out cause to tasks)) fit
    (stepped_so p p2 cpu lane (Out cause to tasks) inlane e) hands asks.to flight
fit_after (Landed tasks) p p2 cpu lane inlane incpu fit e flight asks hands =
    fit_landed p p2 lane cpu (course_left p.machine cpu lane (Landed tasks)) fit
    (stepped_so p p2 cpu lane (Landed tasks) inlane e) hands flight asks.here incpu
    (left_at_rest p.machine cpu lane (Landed tasks) refl)
fit_after (Turn ps) p p2 cpu lane inlane incpu fit e flight asks hands = still p p2 cpu lane
    (Turn ps) inlane fit e flight refl hands
fit_after Shut p p2 cpu lane inlane incpu fit e flight asks hands = still p p2 cpu lane Shut inlane fit e flight refl hands
fit_after (Close x w i f) p p2 cpu lane inlane incpu fit e flight asks hands =
    still p p2 cpu lane (Close x w i f) inlane fit e flight refl hands
fit_after (Ask r) p p2 cpu lane inlane incpu fit e flight asks hands = still p p2 cpu lane (Ask r) inlane fit e flight refl hands
fit_after (Kick r) p p2 cpu lane inlane incpu fit e flight asks hands = still p p2 cpu lane
    (Kick r) inlane fit e flight refl hands
fit_after Over p p2 cpu lane inlane incpu fit e flight asks hands = still p p2 cpu lane Over inlane fit e flight refl hands

-- ---- from what was served to what was published
loaded_too : (h : HandState) (c c2 : Course) (n cpu : ℕ) → c2 ≡ drew (Queue cpu) n c → IsInFlight h c → IsInFlight h c2
loaded_too h c c2 n cpu e l = record {
  flight = ap (λ (x : Course). is_flight x.form) e ∙ l.flight;
  loaded = record {
    to = l.loaded.to ∙ sym (ap (λ (x : Course). x.to) e);
    moment = l.loaded.moment ∙ sym (ap (λ (x : Course). x.moment) e);
    tasks = l.loaded.tasks ∙ sym (ap (λ (x : Course). x.hand) e);
  };
}

landed_too : (o : Option HandState) (p p1 p2 : Held) (cpu lane : ℕ) → p2.hands ≡ p1.hands → p2.booked ≡ p1.booked
    → IsSomeAnd o (λ h. HasLanded p p1 h lane cpu) → IsSomeAnd o (λ h. HasLanded p p2 h lane cpu)
landed_too None p p1 p2 cpu lane he be landed = absurd landed
landed_too (Some h) p p1 p2 cpu lane he be landed = record { hands = he ∙ landed.hands; booked = be ∙ landed.booked }

-- the same hands and bookings, and a course that differs in its numbers alone
pub hands_too : (w : What) (p p1 p2 : Held) (cpu lane n : ℕ) → p2.hands ≡ p1.hands → p2.booked ≡ p1.booked
    → course_at p2.machine.courses lane ≡ drew (Queue cpu) n (course_at p1.machine.courses lane)
    → HandsAfter w p p1 cpu lane → HandsAfter w p p2 cpu lane
hands_too (Out cause to tasks) p p1 p2 cpu lane n he be ce left = record {
  count = left.count;
  loaded = record {
    hand = left.loaded.hand;
    hands = he ∙ left.loaded.hands;
    loaded = loaded_too left.loaded.hand (course_at p1.machine.courses lane)
        (course_at p2.machine.courses lane) n cpu ce left.loaded.loaded;
    goes = left.loaded.goes;
    holds = left.loaded.holds;
  };
  booked = be ∙ left.booked;
}
hands_too (Landed tasks) p p1 p2 cpu lane n he be ce landed = landed_too (hand_at p.hands lane) p p1 p2 cpu lane he be landed
hands_too (Row n at command) p p1 p2 cpu lane k he be ce held = record { hands = he ∙ held.hands; booked = be ∙ held.booked }
hands_too (Adopt v k turned) p p1 p2 cpu lane n he be ce held = record { hands = he ∙ held.hands; booked = be ∙ held.booked }
hands_too (Look x y fs d) p p1 p2 cpu lane n he be ce held = record { hands = he ∙ held.hands; booked = be ∙ held.booked }
hands_too (Scan fs t) p p1 p2 cpu lane n he be ce held = record { hands = he ∙ held.hands; booked = be ∙ held.booked }
hands_too (End unserved) p p1 p2 cpu lane n he be ce held = record { hands = he ∙ held.hands; booked = be ∙ held.booked }
hands_too (Did r) p p1 p2 cpu lane n he be ce held = record { hands = he ∙ held.hands; booked = be ∙ held.booked }
hands_too (Turn ps) p p1 p2 cpu lane n he be ce held = record { hands = he ∙ held.hands; booked = be ∙ held.booked }
hands_too Shut p p1 p2 cpu lane n he be ce held = record { hands = he ∙ held.hands; booked = be ∙ held.booked }
hands_too (Close x w i f) p p1 p2 cpu lane n he be ce held = record { hands = he ∙ held.hands; booked = be ∙ held.booked }
hands_too (Ask r) p p1 p2 cpu lane n he be ce held = record { hands = he ∙ held.hands; booked = be ∙ held.booked }
hands_too (Kick r) p p1 p2 cpu lane n he be ce held = record { hands = he ∙ held.hands; booked = be ∙ held.booked }
hands_too Over p p1 p2 cpu lane n he be ce held = record { hands = he ∙ held.hands; booked = be ∙ held.booked }
hands_too (Pub v) p p1 p2 cpu lane n he be ce held = record { hands = he ∙ held.hands; booked = be ∙ held.booked }

-- ---- room for a figure
-- hands go with the machine whatever room there is
pub fit_same : (p p1 : Held) → p1.machine ≡ p.machine → p1.hands ≡ p.hands → p1.booked ≡ p.booked → HandsFit p → HandsFit p1
fit_same p p1 me he be fit = record {
  lanes = ap (λ (l : List (Option HandState)). length l) he ∙ fit.lanes ∙ sym (ap (λ (m : MachineState). length m.courses) me);
  queues = ap (λ (l : List ℕ). length l) be ∙ fit.queues ∙ sym (ap (λ (m : MachineState). length m.queues) me);
  holds = λ lane.
      let P : List (Option HandState) → Type 0 = λ hs. Holds (hand_at hs lane) (course_at p1.machine.courses lane) in
      let Q : MachineState → Type 0 = λ m. Holds (hand_at p.hands lane) (course_at m.courses lane) in
      subst P (sym he) (subst Q (sym me) (fit.holds lane));
  booked = λ cpu.
      let f = fit.booked cpu in
      let h = ap (λ (hs : List (Option HandState)). held_for cpu hs) he in
      let b = ap (λ (bs : List ℕ). booked_at bs cpu) be in
      omega arith;
}

-- the lane keeps a number for each CPU as before
pub named_there : (m m2 : MachineState) (cpu lane : ℕ) (w : What) → lane < length m.courses
    → m2 ≡ served m (of_queue cpu lane w) → cpu < length (course_at m.courses lane).named
    → cpu < length (course_at m2.courses lane).named
unfolding sight
named_there m m2 cpu lane w inlane e there =
    let s = sight m (of_queue cpu lane w) in
    let q = queue_after s (of_queue cpu lane w) in
    let c : course_at m2.courses lane ≡ course_by w s cpu q =
    ap (λ (x : MachineState). course_at x.courses lane) e
    ∙ get_or-set_same m.courses lane (course_by w s cpu q) no_course inlane in
    let n : length (course_at m2.courses lane).named ≡ length (course_at m.courses lane).named =
    ap (λ (x : Course). length x.named) c ∙ named_kept w s cpu q in
    omega arith

-- ---- the whole step
pub record IsTaken (w : What) (p p3 : Held) (cpu lane : ℕ) : Type 0 where
  pub machine : p3.machine ≡ stepped p.machine (of_queue cpu lane w)
  pub hands : HandsFit p3

pub taken : (w : What) (p1 p2 p3 : Held) (cpu lane : ℕ) → lane < length p1.machine.courses
    → OfQueueAsks w p1.machine cpu lane → HandsFit p1
    → is_flight (course_at p1.machine.courses lane).form ≡ is_landing w
    → p2.machine ≡ served p1.machine (of_queue cpu lane w) → HandsAfter w p1 p2 cpu lane
    → p3.machine ≡ published p2.machine cpu lane → p3.hands ≡ p2.hands → p3.booked ≡ p2.booked → IsTaken w p1 p3 cpu lane
taken w p1 p2 p3 cpu lane inlane asks fit flight se hands pe he be =
    let e : p3.machine ≡ stepped p1.machine (of_queue cpu lane w) =
    pe ∙ ap (λ (m : MachineState). published m cpu lane) se ∙ publishes p1.machine cpu lane w asks.cpu_is inlane asks.opening in
    let inlane2 : lane < length p2.machine.courses =
    subst (λ (k : ℕ). lane < k) (sym
    (ap (λ (m : MachineState). length m.courses) se ∙ length-set p1.machine.courses lane _)) inlane in
    let number = length (figures_at p2.machine.figures cpu) in
    let ce : course_at p3.machine.courses lane ≡ drew (Queue cpu) number (course_at p2.machine.courses lane) =
    ap (λ (m : MachineState). course_at m.courses lane) pe
    ∙ get_or-set_same p2.machine.courses lane (drew (Queue cpu) number (course_at p2.machine.courses lane)) no_course inlane2 in
    record {
      machine = e;
      hands = fit_after w p1 p3 cpu lane inlane asks.cpu_is fit e flight asks.serve
          (hands_too w p1 p2 p3 cpu lane number he be ce hands);
    }

-- as many queues as before
pub served_queues : (m : MachineState) (cpu lane : ℕ) (w : What) → length (served m (of_queue cpu lane w)).queues
    ≡ length m.queues
unfolding after
served_queues m cpu lane w = length-set m.queues cpu (queue_after (sight m (of_queue cpu lane w)) (of_queue cpu lane w))
