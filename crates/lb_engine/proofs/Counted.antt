-- As many landings are booked at a queue as fit: no more than all lanes have tasks in hand.
-- For `Engine::serve`.
use Rattle.std.proofs.Common.{arith, ◌≡◌, ℕ, suc, ◌+◌, ◌<◌, ◌≤◌, List, [], ◌∷◌, length, Option, Some, None, if◌then◌else◌, ◌==◌, Bool, true, false, ap}
use Rattle.std.proofs.lemmas.List.Sums.{sum_by-cons}
use Rattle.lb_queue.specs.Hands.{HandState}
use Rattle.lb_queue.specs.declared.record.TaskRecord.{TaskRecord}
use Rattle.lb_core.specs.declared.course.Course.{Course}
use Rattle.lb_core.specs.Machine.{course_at}
use Rattle.lb_engine.specs.Held.{Held, HandsFit, Holds, hand_at, booked_at, held_for, in_hands, tasks_for}

-- of one hand
for_one : (cpu : ℕ) (o : Option HandState) (c : Course) → Holds o c → tasks_for cpu o ≤ length c.hand
for_one cpu None c held = omega arith
for_one cpu (Some h) c held =
    let e = ap (λ (l : List TaskRecord). length l) held.loaded.tasks in
    by_test (h.to == cpu) (length h.tasks) (length c.hand) e
  where
    by_test : (b : Bool) (n k : ℕ) → n ≡ k → (if b then n else 0) ≤ k
    by_test true n k e = omega (arith, e)
    by_test false n k e = omega arith

-- of all
for_all : (cpu : ℕ) (hands : List (Option HandState)) (courses : List Course) → length hands ≡ length courses
    → ((lane : ℕ) → Holds (hand_at hands lane) (course_at courses lane)) → held_for cpu hands ≤ in_hands courses
for_all cpu [] [] same held = omega arith
for_all cpu [] (c ∷ cs) same held = absurd (omega (arith, same))
for_all cpu (o ∷ os) [] same held = absurd (omega (arith, same))
for_all cpu (o ∷ os) (c ∷ cs) same held =
    let first = for_one cpu o c (held 0) in
    let rest = for_all cpu os cs (omega (arith, same)) (λ lane. held (suc lane)) in
    let hands = sum_by-cons (tasks_for cpu) o os in
    let courses = sum_by-cons (λ (c : Course). length c.hand) c cs in
    omega (arith, first, rest, hands, courses)

pub few_booked : (p : Held) (cpu count : ℕ) → HandsFit p → in_hands p.machine.courses + count < 4294967296
    → booked_at p.booked cpu + count < 4294967296
few_booked p cpu count fit few =
    let booked = fit.booked cpu in
    let held = for_all cpu p.hands p.machine.courses fit.lanes fit.holds in
    omega (arith, booked, held, few)
