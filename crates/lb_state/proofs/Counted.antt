-- How many tasks stand at one place of the machine, and how many all lanes together have in hand. For callers too.
-- For the lemmas of `Departures` and `Landings`, and so for the laws `hands_may_land` and `steps_may_be_taken`; cited
-- by `lb_summary` too.
use Rattle.std.proofs.Common.{arith, ◌≡◌, ℕ, ◌*◌, ◌≤◌, Bool, true, false, cond, length, ltb, refl, ◌∙◌}
use Rattle.std.proofs.lemmas.Bool.{le-ltb}
use Rattle.std.proofs.lemmas.List.{length-map, get_or_default}
use Rattle.std.proofs.lemmas.List.Sums.{sum_by-le}
use Rattle.lb_queue.specs.declared.record.TaskRecord.{TaskRecord}
use Rattle.lb_queue.proofs.Counting.{length_below}
use Rattle.lb_core.specs.declared.course.Course.{Course}
use Rattle.lb_core.specs.declared.place.Place.{Place}
use Rattle.lb_core.specs.declared.place.Place.TheVariants.{Hand as HandOf}
use Rattle.lb_core.specs.Machine.{MachineState, course_at, no_course}
use Rattle.lb_core.specs.Placed.{IsPlaced, is_its_place, standing, times}
use Rattle.lb_ready.specs.Ready.{IsReady}
use Rattle.lb_engine.specs.Held.{in_hands}

-- a task stands at a place once, if it does
pub once : (m : MachineState) (p : Place) (t : ℕ) → IsPlaced m → times m p t ≤ 1
once m p t placed = by_test (is_its_place m p t) (placed.once p t)
  where
    by_test : (b : Bool) → times m p t ≡ cond {A = ℕ} b 1 0 → times m p t ≤ 1
    by_test true o = omega arith
    by_test false o = omega arith

-- a task that is not declared stands at none
undeclared : (m : MachineState) (p : Place) (t : ℕ) → IsPlaced m → length m.places ≤ t → times m p t ≡ 0
undeclared m p t placed high =
    let out : ltb t (length m.places) ≡ false = le-ltb t (length m.places) high in
    placed.once p t ∙ rw out refl

-- so no more stand at a place than are declared
pub few_at : (m : MachineState) (p : Place) → IsPlaced m → length (standing m p) ≤ length m.header.tasks
few_at m p placed =
    let below = length_below (length m.places) (standing m p) (λ t. once m p t placed) (λ t. undeclared m p t placed) in
    let mapped = placed.mapped in
    omega arith

in_hand : (m : MachineState) (lane : ℕ) → IsPlaced m → length (course_at m.courses lane).hand ≤ length m.header.tasks
in_hand m lane placed =
    let few = few_at m (HandOf lane) placed in
    let same = length-map (course_at m.courses lane).hand (λ (t : TaskRecord). t.id) in
    omega arith

-- each of at most 16 lanes has at most 4,096 tasks in hand
pub few_in_hands : (m : MachineState) → IsReady m → in_hands m.courses ≤ 65536
few_in_hands m k =
    let lanes = k.accepted.most_lanes in
    let tasks = k.accepted.most_tasks in
    let courses = k.sizes.courses in
    let sum : in_hands m.courses ≤ length m.courses * 4096 =
    sum_by-le (λ (c : Course). length c.hand) 4096 m.courses
    (λ i d lt. rw (get_or_default m.courses i d no_course lt) (let few = in_hand m i k.placed in omega arith)) in
    omega arith
