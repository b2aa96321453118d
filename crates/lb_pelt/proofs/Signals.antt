-- Ends `advanced_is_bounded` and `value_is_bounded`: a signal that is advanced keeps its bounds.
use Rattle.std.proofs.Common.{ℕ, ◌+◌, ◌*◌, ◌/◌, ◌<◌, ◌≤◌, eqb, arith, inl, inr}
use Rattle.std.proofs.Math.Nat.{mul-le-mul_left, div-le_of_le-mul}
use Rattle.std.proofs.lemmas.Bool.{cases_eq, eq-eqb, ne_eqb, cond-true, cond-false}
use Rattle.std.proofs.lemmas.Nat.{div_below}
use Rattle.lb_pelt.specs.declared.signal.Run.{Run}
use Rattle.lb_pelt.specs.declared.signal.Run.TheVariants.{Asleep, Waiting, Running}
use Rattle.lb_pelt.specs.Signal.{Sums, IsBounded, IsWithin, contribution, awake_share, running_share, elapsed, advanced_by, advanced, signal_value}
use Rattle.lb_pelt.proofs.Bounds.{load_fits, sum_fits}

-- ---- a signal that is advanced
awake_share_le : (run : Run) (c : ℕ) → awake_share run c ≤ c
awake_share_le Asleep c = omega arith
awake_share_le Waiting c = omega arith
awake_share_le Running c = omega arith

running_share_le : (run : Run) (c : ℕ) → running_share run c ≤ c
running_share_le Asleep c = omega arith
running_share_le Waiting c = omega arith
running_share_le Running c = omega arith

advanced_by_is_bounded : (s : Sums) (run : Run) (e : ℕ) → IsBounded s → IsBounded (advanced_by s run e)
unfolding advanced_by
advanced_by_is_bounded s run e h =
    let awake = awake_share_le run (contribution s.part e) in
    let running = running_share_le run (contribution s.part e) in
    record {
      part_small = omega arith;
      load_small = omega (arith, awake, load_fits s.part e s.load_sum h.part_small h.load_small);
      runnable_small = omega (arith, awake, sum_fits s.part e s.runnable_sum h.part_small h.runnable_small);
      util_small = omega (arith, running, sum_fits s.part e s.util_sum h.part_small h.util_small);
    }

pub advanced_bounded : (s : Sums) (run : Run) (now : ℕ) → IsBounded s → IsBounded (advanced s run now)
unfolding advanced
advanced_bounded s run now h =
    elim (cases_eq (elapsed s now) 0) [
      | inl z ↦ rw (cond-true (eqb (elapsed s now) 0) s _ (eq-eqb _ 0 z)) h
      | inr n ↦ rw (cond-false (eqb (elapsed s now) 0) s _ (ne_eqb _ 0 n)) (advanced_by_is_bounded s run (elapsed s now) h)
    ]

-- ---- a value
part_within : (sum d : ℕ) → 46718 ≤ d → sum ≤ 1024 * d + 49152 → sum / d ≤ 1025
part_within sum d some small =
    let below : sum / d < 1026 = div_below sum d 1026 (omega arith) (omega arith) in
    omega (arith, below)

load_within : (weight sum d : ℕ) → sum ≤ d → weight * sum / d ≤ weight
load_within weight sum d small = div-le_of_le-mul d (omega (arith, mul-le-mul_left weight small))

pub value_within : (s : Sums) (weight : ℕ) → IsBounded s → IsWithin weight (signal_value s weight)
unfolding signal_value
value_within s weight h =
    record {
      load_small = load_within weight s.load_sum (46718 + s.part) h.load_small;
      runnable_small = part_within s.runnable_sum (46718 + s.part) (omega arith) h.runnable_small;
      util_small = part_within s.util_sum (46718 + s.part) (omega arith) h.util_small;
    }
