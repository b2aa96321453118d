-- The step of an entry of a lane or of the publisher: it is the same whichever of them owns it, and no task
-- leaves or lands.
-- For `Engine::take_beside` and `Engine::step`.
use Rattle.std.proofs.Common.{ℕ, ◌≡◌, ◌<◌, false, None, List, length, slice_set, refl, ap, sym, ◌∙◌}
use Rattle.lb_base.specs.declared.mask.Mask.{Mask}
use Rattle.lb_base.specs.declared.shape.Kind.{Kind}
use Rattle.lb_imbalance.specs.declared.decision.Decision.{Decision}
use Rattle.lb_trace.specs.declared.trace.Command.{Command}
use Rattle.lb_core.specs.declared.course.Course.{Course}
use Rattle.lb_core.specs.declared.entry.FigName.{FigName}
use Rattle.lb_core.specs.declared.entry.Owner.{Owner}
use Rattle.lb_core.specs.declared.entry.Owner.TheVariants.{Publisher, Lane, Queue}
use Rattle.lb_core.specs.declared.entry.What.{What}
use Rattle.lb_core.specs.declared.entry.What.TheVariants.{Row, Adopt, Look, Scan, End, Did, Out, Landed, Turn, Shut, Close, Ask, Kick, Over, Pub}
use Rattle.std.specs.Prelude.{Option, Result, Ok, Err, OnOk, OnErr}
use Rattle.lb_core.specs.declared.entry.Entry.{Entry}
use Rattle.lb_core.specs.CourseAfter.{course_after}
use Rattle.lb_core.specs.QueueAfter.{queue_after}
use Rattle.lb_core.specs.Machine.{MachineState, course_at, sight}
use Rattle.lb_core.specs.Placed.{is_flight}
use Rattle.lb_core.specs.Stage.{is_queue}
use Rattle.lb_core.specs.Step.{after}
use Rattle.lb_engine.specs.Held.{Held, HandsFit}
use Rattle.lb_engine.specs.Steps.{becomes, entry_of, of_lane, of_publisher, stepped}
use Rattle.lb_engine.specs.Takes.{LaneAsks, is_landing}
use Rattle.lb_engine.proofs.Fitting.{fit_still}
use Rattle.lb_engine.proofs.Settling.{is_out, not_in_flight}

-- ---- whichever owns it
pub row_beside : (o : Owner) (m : MachineState) (lane n at : ℕ) (command : Command) → is_queue o None ≡ false
    → stepped m (of_lane lane (Row n at command)) ≡ stepped m (entry_of o lane (Row n at command))
unfolding after sight course_after queue_after
row_beside Publisher m lane n at command e = refl
row_beside (Lane l) m lane n at command e = refl
row_beside (Queue cpu) m lane n at command e = cc

pub use_beside : (o : Owner) (m : MachineState) (lane v : ℕ) (k : Kind) (cpu : ℕ) → is_queue o None ≡ false
    → stepped m (of_lane lane (Adopt v k cpu)) ≡ stepped m (entry_of o lane (Adopt v k cpu))
unfolding after sight course_after queue_after
use_beside Publisher m lane v k cpu e = refl
use_beside (Lane l) m lane v k cpu e = refl
use_beside (Queue c) m lane v k cpu e = cc

pub look_beside : (o : Owner) (m : MachineState) (lane p : ℕ) (x : Mask) (names : List FigName) (d : Decision)
    → is_queue o None ≡ false → stepped m (of_lane lane (Look p x names d)) ≡ stepped m (entry_of o lane (Look p x names d))
unfolding after sight course_after queue_after
look_beside Publisher m lane p x names d e = refl
look_beside (Lane l) m lane p x names d e = refl
look_beside (Queue c) m lane p x names d e = cc

pub scan_beside : (o : Owner) (m : MachineState) (lane : ℕ) (names : List FigName) (t : Option ℕ)
    → is_queue o None ≡ false → stepped m (of_lane lane (Scan names t)) ≡ stepped m (entry_of o lane (Scan names t))
unfolding after sight course_after queue_after
scan_beside Publisher m lane names t e = refl
scan_beside (Lane l) m lane names t e = refl
scan_beside (Queue c) m lane names t e = cc

pub end_beside : (o : Owner) (m : MachineState) (lane : ℕ) (cpus : Mask) → is_queue o None ≡ false
    → stepped m (of_lane lane (End cpus)) ≡ stepped m (entry_of o lane (End cpus))
unfolding after sight course_after queue_after
end_beside Publisher m lane cpus e = refl
end_beside (Lane l) m lane cpus e = refl
end_beside (Queue c) m lane cpus e = cc

pub pub_beside : (o : Owner) (m : MachineState) (lane v : ℕ) → is_queue o None ≡ false
    → stepped m (of_publisher lane (Pub v)) ≡ stepped m (entry_of o lane (Pub v))
unfolding after sight course_after queue_after
pub_beside Publisher m lane v e = refl
pub_beside (Lane l) m lane v e = refl
pub_beside (Queue c) m lane v e = cc

-- ---- no task leaves or lands
pub record MovesNone (w : What) : Type 0 where
  pub out : is_out w ≡ false
  pub landing : is_landing w ≡ false

pub moves_none : (w : What) (m : MachineState) (c : Course) → LaneAsks w m c → MovesNone w
moves_none (Row n at command) m c asks = record { out = refl; landing = refl }
moves_none (Adopt v k cpu) m c asks = record { out = refl; landing = refl }
moves_none (Look p x fs d) m c asks = record { out = refl; landing = refl }
moves_none (Scan fs t) m c asks = record { out = refl; landing = refl }
moves_none (End unserved) m c asks = record { out = refl; landing = refl }
moves_none (Did r) m c asks = record { out = refl; landing = refl }
moves_none (Out cause to tasks) m c asks = absurd asks
moves_none (Landed tasks) m c asks = absurd asks
moves_none (Turn ps) m c asks = record { out = refl; landing = refl }
moves_none Shut m c asks = record { out = refl; landing = refl }
moves_none (Close p w i f) m c asks = record { out = refl; landing = refl }
moves_none (Ask r) m c asks = record { out = refl; landing = refl }
moves_none (Kick r) m c asks = record { out = refl; landing = refl }
moves_none Over m c asks = record { out = refl; landing = refl }
moves_none (Pub v) m c asks = record { out = refl; landing = refl }

left_beside : (o : Owner) (m : MachineState) (lane : ℕ) (w : What) → is_queue o None ≡ false → is_out w ≡ false
    → is_flight (course_after (sight m (entry_of o lane w)) (entry_of o lane w)).form ≡ false
unfolding course_after
left_beside Publisher m lane w e out = not_in_flight w (sight m (of_publisher lane w)) 0
    (queue_after (sight m (of_publisher lane w)) (of_publisher lane w)) out
left_beside (Lane l) m lane w e out = not_in_flight w (sight m (entry_of (Lane l) lane w)) 0
    (queue_after (sight m (entry_of (Lane l) lane w)) (entry_of (Lane l) lane w)) out
left_beside (Queue cpu) m lane w e out = cc

queues_beside : (o : Owner) (m : MachineState) (lane : ℕ) (w : What) → is_queue o None ≡ false
    → length (stepped m (entry_of o lane w)).queues ≡ length m.queues
unfolding after
queues_beside Publisher m lane w e = refl
queues_beside (Lane l) m lane w e = refl
queues_beside (Queue cpu) m lane w e = cc

courses_beside : (o : Owner) (m : MachineState) (lane : ℕ) (w : What)
    → (stepped m (entry_of o lane w)).courses
    ≡ slice_set m.courses lane (course_after (sight m (entry_of o lane w)) (entry_of o lane w))
unfolding after
courses_beside o m lane w = refl

-- hands go with the machine after it
pub fit_beside : (o : Owner) (w : What) (p p2 : Held) (lane : ℕ) → lane < length p.machine.courses
    → is_queue o None ≡ false → LaneAsks w p.machine (course_at p.machine.courses lane) → HandsFit p
    → is_flight (course_at p.machine.courses lane).form ≡ is_landing w
    → p2 ≡ becomes (stepped p.machine (entry_of o lane w)) p → HandsFit p2
fit_beside o w p p2 lane inlane beside asks fit flight e =
    let none = moves_none w p.machine (course_at p.machine.courses lane) asks in
    fit_still p p2 lane (course_after (sight p.machine (entry_of o lane w)) (entry_of o lane w)) fit
    (record {
      lane_is = inlane;
      courses = ap (λ (x : Held). x.machine.courses) e ∙ courses_beside o p.machine lane w;
      queues = ap (λ (x : Held). length x.machine.queues) e ∙ queues_beside o p.machine lane w beside;
    })
    (record { hands = ap (λ (x : Held). x.hands) e; booked = ap (λ (x : Held). x.booked) e })
    (flight ∙ none.landing) (left_beside o p.machine lane w beside none.out)

-- ---- what the step does not read
unread : (m : MachineState) (e : Entry) → stepped m (entry_of e.owner e.lane e.what) ≡ stepped m e
unfolding after sight course_after queue_after
unread m e = refl

-- the ticket before an entry
pub same_step : (m : MachineState) (e : Entry) (o : Owner) → e.owner ≡ o → stepped m (entry_of o e.lane e.what) ≡ stepped m e
same_step m e o is = ap (λ (x : Owner). stepped m (entry_of x e.lane e.what)) (sym is) ∙ unread m e

-- ---- results
pub on_ok : {T E : Type 0} (r : Result T E) (P Q : Type 0) → (P → Q) → OnOk r P → OnOk r Q
on_ok (Ok x) P Q f h = f h
on_ok (Err x) P Q f h = tt

pub either_end : {T E : Type 0} (r : Result T E) (P Q R : Type 0) → (P → R) → (Q → R) → OnOk r P → OnErr r Q → R
either_end (Ok x) P Q R f g h k = f h
either_end (Err x) P Q R f g h k = g k
