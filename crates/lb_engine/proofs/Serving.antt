-- The step of a queue's entry, from what the code changed: the queue of its CPU, the course of its lane,
-- and the places of tasks.
-- For `Engine::take_landing`, `Engine::take_kick`, `Engine::take_close` and others.
use Rattle.std.proofs.Common.{ℕ, ◌≡◌, ◌<◌, Bool, List, length, slice_set, slice_index_or, ap, sym, refl, subst, ◌∙◌}
use Rattle.std.proofs.Math.Seq.{map-set_same}
use Rattle.std.proofs.lemmas.List.{get_or_default, length-map}
use Rattle.lb_queue.specs.Queue.{QueueState, BookedQueue}
use Rattle.lb_core.specs.declared.course.Course.{Course}
use Rattle.lb_core.specs.declared.entry.What.{What}
use Rattle.lb_core.specs.CourseAfter.{course_by}
use Rattle.lb_core.specs.QueueAfter.{queue_by, queue_after}
use Rattle.lb_core.specs.declared.place.Place.{Place}
use Rattle.lb_core.specs.declared.entry.Owner.TheVariants.{Queue}
use Rattle.lb_core.specs.Step.{after, places_after, closing_after}
use Rattle.lb_core.specs.Sight.{Sight}
use Rattle.lb_core.specs.Machine.{MachineState, queue_at, course_at, no_course, entries_at, masks_for, figs_for, sight}
use Rattle.lb_engine.specs.Held.{Held}
use Rattle.lb_engine.specs.Steps.{becomes, of_queue, served}
use Rattle.lb_engine.proofs.Queues.{states, bookings, states_set, state_at}

-- what the step of a queue's entry reads
abbrev pub seen : MachineState → What → ℕ → Course → QueueState → Sight
seen m w cpu c q = record {
  header = m.header;
  course = c;
  queue = q;
  count = entries_at m cpu;
  masks =
      masks_for w m;
  figs = figs_for w m;
}

pub course_is : (courses : List Course) (lane : ℕ) (c : Course) → lane < length courses
    → c ≡ slice_index_or courses lane c → course_at courses lane ≡ c
course_is courses lane c inside e = get_or_default courses lane no_course c inside ∙ sym e

pub queue_is : (queues : List BookedQueue) (cpu : ℕ) (q : BookedQueue) → cpu < length queues
    → q ≡ slice_index_or queues cpu q → queue_at (states queues) cpu ≡ q.state
queue_is queues cpu q inside e = state_at queues cpu q inside ∙ ap (λ (b : BookedQueue). b.state) (sym e)

queue_there : (m : MachineState) (queues : List BookedQueue) (cpu : ℕ) → m.queues ≡ states queues
    → cpu < length m.queues → cpu < length queues
queue_there m queues cpu mq incpu = subst (λ (n : ℕ). cpu < n)
    (ap (λ (l : List QueueState). length l) mq ∙ length-map queues (λ (b : BookedQueue). b.state)) incpu

pub sight_is : (m : MachineState) (queues : List BookedQueue) (cpu lane : ℕ) (w : What) (q : BookedQueue) (c : Course)
    → m.queues ≡ states queues → cpu < length m.queues → q ≡ slice_index_or queues cpu q
    → lane < length m.courses → c ≡ slice_index_or m.courses lane c
    → sight m (of_queue cpu lane w) ≡ seen m w cpu c q.state
unfolding sight
sight_is m queues cpu lane w q c mq incpu qe inlane ce =
    let a : course_at m.courses lane ≡ c = course_is m.courses lane c inlane ce in
    let b : queue_at m.queues cpu ≡ q.state =
    ap (λ (l : List QueueState). queue_at l cpu) mq ∙ queue_is queues cpu q (queue_there m queues cpu mq incpu) qe in
    rw (a, b) refl

-- the machine that the step leaves, but for its figures
abbrev pub with_engine : MachineState → ℕ → ℕ → What → List BookedQueue → List Course → List Place → MachineState
with_engine m cpu lane w queues courses places =
    record (served m (of_queue cpu lane w)) { queues = states queues; courses = courses; places = places }

served_as : (m : MachineState) (queues : List BookedQueue) (cpu lane : ℕ) (w : What) (q q2 : BookedQueue)
    (c c2 : Course) (places : List Place)
    → m.queues ≡ states queues → cpu < length m.queues → q ≡ slice_index_or queues cpu q
    → lane < length m.courses → c ≡ slice_index_or m.courses lane c
    → q2.state ≡ queue_by w (seen m w cpu c q.state) lane
    → c2 ≡ course_by w (seen m w cpu c q.state) cpu q2.state
    → places ≡ places_after w (Queue cpu) lane c.command m.places
    → with_engine m cpu lane w (slice_set queues cpu q2) (slice_set m.courses lane c2) places ≡ served m (of_queue cpu lane w)
unfolding after queue_after
served_as m queues cpu lane w q q2 c c2 places mq incpu qe inlane ce q2e c2e pe =
    let s : sight m (of_queue cpu lane w) ≡ seen m w cpu c q.state = sight_is m queues cpu lane w q c mq incpu qe inlane ce in
    let qs : states (slice_set queues cpu q2) ≡ slice_set m.queues cpu (queue_by w (sight m (of_queue cpu lane w)) lane) =
    states_set queues cpu q2 ∙ ap (λ (l : List QueueState). slice_set l cpu q2.state) (sym mq)
    ∙ ap (λ (x : QueueState). slice_set m.queues cpu x) (q2e ∙ ap (λ (t : Sight). queue_by w t lane) (sym s)) in
    let cs : slice_set m.courses lane c2 ≡ slice_set m.courses lane
    (course_by w (sight m (of_queue cpu lane w)) cpu (queue_by w (sight m (of_queue cpu lane w)) lane)) =
    rw (s, ← q2e, c2e) refl in
    let ps : places ≡ places_after w (Queue cpu) lane (sight m (of_queue cpu lane w)).course.command m.places =
    pe ∙ ap (λ (t : Sight). places_after w (Queue cpu) lane t.course.command m.places) (sym s) in
    rw (qs, cs, ps) refl

pub bookings_same : (queues : List BookedQueue) (cpu : ℕ) (q q2 : BookedQueue) → q ≡ slice_index_or queues cpu q
    → q2.booked ≡ q.booked → bookings (slice_set queues cpu q2) ≡ bookings queues
bookings_same queues cpu q q2 qe e = map-set_same (λ (b : BookedQueue). b.booked) queues cpu q2 q
    (e ∙ ap (λ (b : BookedQueue). b.booked) qe)

-- where the fields of the engine show the machine, and nothing is booked or landed
pub served_by : (v now : Held) (queues : List BookedQueue) (cpu lane : ℕ) (w : What) (q q2 : BookedQueue)
    (c c2 : Course) (places : List Place)
    → v ≡ now → v.machine.queues ≡ states queues → v.booked ≡ bookings queues
    → cpu < length now.machine.queues → q ≡ slice_index_or queues cpu q
    → lane < length now.machine.courses → c ≡ slice_index_or v.machine.courses lane c
    → q2.state ≡ queue_by w (seen v.machine w cpu c q.state) lane
    → c2 ≡ course_by w (seen v.machine w cpu c q.state) cpu q2.state
    → places ≡ places_after w (Queue cpu) lane c.command v.machine.places
    → q2.booked ≡ q.booked
    → record v {
      machine = with_engine v.machine cpu lane w (slice_set queues cpu q2)
          (slice_set v.machine.courses lane c2) places;
      booked = bookings (slice_set queues cpu q2);
    }
    ≡ becomes (served now.machine (of_queue cpu lane w)) now
served_by v now queues cpu lane w q q2 c c2 places e vq vb incpu qe inlane ce q2e c2e pe be =
    let step : with_engine v.machine cpu lane w (slice_set queues cpu q2)
    (slice_set v.machine.courses lane c2) places ≡ served v.machine (of_queue cpu lane w) =
    served_as v.machine queues cpu lane w q q2 c c2 places vq
    (subst (λ (p : Held). cpu < length p.machine.queues) (sym e) incpu) qe
    (subst (λ (p : Held). lane < length p.machine.courses) (sym e) inlane) ce q2e c2e pe in
    let same : bookings (slice_set queues cpu q2) ≡ v.booked = bookings_same queues cpu q q2 qe be ∙ sym vb in
    ap (λ (m : MachineState). record v { machine = m; booked = bookings (slice_set queues cpu q2) }) step
    ∙ ap (λ (b : List ℕ). record v { machine = served v.machine (of_queue cpu lane w); booked = b }) same
    ∙ ap (λ (p : Held). becomes (served p.machine (of_queue cpu lane w)) p) e

-- what was read of the lane's course and of the queue, where the fields of the engine show the machine
pub course_now : (v now : Held) (lane : ℕ) (c : Course) → v ≡ now → lane < length now.machine.courses
    → c ≡ slice_index_or v.machine.courses lane c → course_at now.machine.courses lane ≡ c
course_now v now lane c e inlane ce =
    ap (λ (p : Held). course_at p.machine.courses lane) (sym e)
    ∙ course_is v.machine.courses lane c (subst (λ (p : Held). lane < length p.machine.courses) (sym e) inlane) ce

pub queue_now : (v now : Held) (queues : List BookedQueue) (cpu : ℕ) (q : BookedQueue) → v ≡ now
    → v.machine.queues ≡ states queues → cpu < length now.machine.queues → q ≡ slice_index_or queues cpu q
    → queue_at now.machine.queues cpu ≡ q.state
queue_now v now queues cpu q e vq incpu qe =
    let inside : cpu < length v.machine.queues = subst (λ (p : Held). cpu < length p.machine.queues) (sym e) incpu in
    ap (λ (p : Held). queue_at p.machine.queues cpu) (sym e) ∙ ap (λ (l : List QueueState). queue_at l cpu) vq
    ∙ queue_is queues cpu q (queue_there v.machine queues cpu vq inside) qe

-- the machine alone, where the closing may begin
pub served_machine : (v now : Held) (queues : List BookedQueue) (cpu lane : ℕ) (w : What) (q q2 : BookedQueue)
    (c c2 : Course) (places : List Place) (closing : Bool)
    → v ≡ now → v.machine.queues ≡ states queues
    → cpu < length now.machine.queues → q ≡ slice_index_or queues cpu q
    → lane < length now.machine.courses → c ≡ slice_index_or v.machine.courses lane c
    → q2.state ≡ queue_by w (seen v.machine w cpu c q.state) lane
    → c2 ≡ course_by w (seen v.machine w cpu c q.state) cpu q2.state
    → places ≡ places_after w (Queue cpu) lane c.command v.machine.places
    → closing ≡ closing_after w c.form v.machine.closing
    → record (with_engine v.machine cpu lane w (slice_set queues cpu q2)
    (slice_set v.machine.courses lane c2) places) { closing = closing } ≡ served now.machine (of_queue cpu lane w)
unfolding after
served_machine v now queues cpu lane w q q2 c c2 places closing e vq incpu qe inlane ce q2e c2e pe le =
    let incpu2 = subst (λ (p : Held). cpu < length p.machine.queues) (sym e) incpu in
    let inlane2 = subst (λ (p : Held). lane < length p.machine.courses) (sym e) inlane in
    let s : sight v.machine (of_queue cpu lane w) ≡ seen v.machine w cpu c q.state =
    sight_is v.machine queues cpu lane w q c vq incpu2 qe inlane2 ce in
    let l : closing ≡ closing_after w (sight v.machine (of_queue cpu lane w)).course.form v.machine.closing =
    le ∙ ap (λ (t : Sight). closing_after w t.course.form v.machine.closing) (sym s) in
    ap (λ (b : Bool). record (with_engine v.machine cpu lane w (slice_set queues cpu q2)
    (slice_set v.machine.courses lane c2) places) { closing = b }) l
    ∙ served_as v.machine queues cpu lane w q q2 c c2 places vq incpu2 qe inlane2 ce q2e c2e pe
    ∙ ap (λ (p : Held). served p.machine (of_queue cpu lane w)) e
