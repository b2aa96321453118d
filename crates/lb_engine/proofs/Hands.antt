-- The `out` that is due at a queue, and the hands of lanes, where the fields of the engine show the machine.
-- For `Engine::take_landing` and `Engine::take_off`.
use Rattle.std.proofs.Common.{ℕ, ◌≡◌, ◌<◌, ◌-◌, Option, Some, None, IsSomeAnd, List, length, slice_set, slice_index_or, ap, sym, refl, subst, ◌∙◌}
use Rattle.std.proofs.lemmas.List.{get_or_default}
use Rattle.lb_detach.specs.declared.Env.{Env}
use Rattle.lb_queue.specs.Hands.{HandState}
use Rattle.lb_queue.specs.Queue.{QueueState, BookedQueue}
use Rattle.lb_trace.specs.declared.trace.Header.{Header}
use Rattle.lb_core.specs.declared.course.Course.{Course}
use Rattle.lb_core.specs.declared.course.Form.{Form}
use Rattle.lb_core.specs.declared.course.Form.TheVariants.{Rest, Asked, Flight, Serving, Due, Used, Position, Looked, Landed, Closed, Done, ScanDue, Kicking, Ended}
use Rattle.lb_core.specs.declared.entry.What.{What}
use Rattle.lb_core.specs.Leaving.{out_by, pull_out, leaving}
use Rattle.lb_core.specs.Sight.{Sight}
use Rattle.lb_core.specs.Machine.{course_at, sight}
use Rattle.lb_engine.specs.Held.{Held, hand_at, booked_at}
use Rattle.lb_engine.specs.Leaves.{out_with, IsEnvDue, HasLanded}
use Rattle.lb_engine.specs.Steps.{of_queue}
use Rattle.lb_engine.proofs.Queues.{states, bookings}
use Rattle.lb_engine.proofs.Serving.{seen, sight_is, course_now}
use Rattle.lb_engine.proofs.Booking.{rebooked, booked_now}

-- ---- the `out` that is due
out_is : (f : Form) (h : Header) (c : Course) (q : QueueState) (env : Option Env) → IsEnvDue f h c env
    → out_by f h c q ≡ out_with f env c q
out_is Rest h c q env e = refl
out_is Asked h c q env e = refl
out_is Flight h c q env e = refl
out_is Serving h c q env e = refl
out_is Due h c q env e = refl
out_is Used h c q env e = refl
out_is Position h c q env e = refl
out_is Looked h c q env e = ap (λ (o : Option Env). pull_out o c.at q) (sym e)
out_is Landed h c q env e = refl
out_is Closed h c q env e = refl
out_is Done h c q env e = refl
out_is ScanDue h c q env e = refl
out_is Kicking h c q env e = refl
out_is Ended h c q env e = refl

pub seen_out : (v now : Held) (cpu lane : ℕ) (w : What) (c : Course) (q : QueueState) (env : Option Env) → v ≡ now
    → course_at now.machine.courses lane ≡ c
    → IsEnvDue (course_at now.machine.courses lane).form now.machine.header (course_at now.machine.courses lane) env
    → leaving (seen v.machine w cpu c q) ≡ out_with c.form env c q
unfolding leaving
seen_out v now cpu lane w c q env e ce due =
    let P : Course → Type 0 = λ x. IsEnvDue x.form now.machine.header x env in
    let Q : Held → Type 0 = λ p. IsEnvDue c.form p.machine.header c env in
    out_is c.form v.machine.header c q env (subst Q (sym e) (subst P ce due))

pub due_out : (v now : Held) (queues : List BookedQueue) (cpu lane : ℕ) (w : What) (q : BookedQueue) (c : Course)
    (env : Option Env) → v ≡ now → v.machine.queues ≡ states queues
    → cpu < length now.machine.queues → q ≡ slice_index_or queues cpu q → lane < length now.machine.courses
    → c ≡ slice_index_or v.machine.courses lane c
    → IsEnvDue (course_at now.machine.courses lane).form now.machine.header (course_at now.machine.courses lane) env
    → leaving (sight now.machine (of_queue cpu lane w)) ≡ out_with c.form env c q.state
due_out v now queues cpu lane w q c env e vq incpu qe inlane ce due =
    ap (λ (p : Held). leaving (sight p.machine (of_queue cpu lane w))) (sym e)
    ∙ ap (λ (s : Sight). leaving s)
    (sight_is v.machine queues cpu lane w q c vq (subst (λ (p : Held). cpu < length p.machine.queues) (sym e) incpu) qe
    (subst (λ (p : Held). lane < length p.machine.courses) (sym e) inlane) ce)
    ∙ seen_out v now cpu lane w c q.state env e (course_now v now lane c e inlane ce) due

-- ---- the hand that lands
pub landed_hand : (v now p2 : Held) (queues : List BookedQueue) (cpu lane : ℕ) (q q2 : BookedQueue) (hand : HandState)
    (slot slot2 : Option HandState) → v ≡ now
    → v.machine.queues ≡ states queues → v.booked ≡ bookings queues → cpu < length now.machine.queues → q
    ≡ slice_index_or queues cpu q
    → lane < length now.hands → slot ≡ slice_index_or v.hands lane slot → slot ≡ Some hand → slot2 ≡ None
    → q2.booked ≡ q.booked - length hand.tasks → p2.hands ≡ slice_set v.hands lane slot2 → p2.booked
    ≡ bookings (slice_set queues cpu q2)
    → IsSomeAnd (hand_at now.hands lane) (λ h. HasLanded now p2 h lane cpu)
landed_hand v now p2 queues cpu lane q q2 hand slot slot2 e vq vb incpu qe inlane se held none be he pe =
    let same : hand_at now.hands lane ≡ Some hand =
    ap (λ (p : Held). hand_at p.hands lane) (sym e)
    ∙ get_or_default v.hands lane None slot (subst (λ (p : Held). lane < length p.hands) (sym e) inlane) ∙ sym se ∙ held in
    let P : Option HandState → Type 0 = λ o. IsSomeAnd o (λ h. HasLanded now p2 h lane cpu) in
    subst P (sym same) (record {
      hands = he ∙ ap (λ (o : Option HandState). slice_set v.hands lane o) none
          ∙ ap (λ (p : Held). slice_set p.hands lane None) e;
      booked = pe ∙ rebooked v now queues cpu (booked_at now.booked cpu - length hand.tasks) q2 e vb
          (be ∙ ap (λ (n : ℕ). n - length hand.tasks) (sym (booked_now v now queues cpu q e vq vb incpu qe)));
    })
