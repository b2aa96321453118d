-- The average after a sample, by natural numbers: one case above the old average and one below it.
-- For `idle_average`.
use Rattle.std.proofs.Common.{◌≡◌, ℕ, suc, ◌+◌, ◌-◌, ◌/◌, ◌<◌, ◌≤◌, min, ℤ, pos, negsuc, ◌+ℤ◌, ◌-ℤ◌, neg_ℤ, unsigned_abs, int_div, ◌∙◌, ap, arith, inl, inr}
use Rattle.std.specs.Int.{int_min}
use Rattle.std.proofs.lemmas.Int.{ints}
use Rattle.std.proofs.lemmas.Bool.{cases_lt, lt-ltb, le-ltb}
use Rattle.lb_newidle.specs.Budget.{average_after}

above : (avg sample : ℕ) → avg ≤ sample → pos sample -ℤ pos avg ≡ pos (sample - avg)
above avg sample h = omega (arith, ints)

below : (avg sample : ℕ) → sample < avg → pos sample -ℤ pos avg ≡ negsuc (avg - sample - 1)
below avg sample h = omega (arith, ints)

least : (a b : ℕ) → unsigned_abs (int_min (pos a) (pos b)) ≡ min a b
least a b = elim (cases_lt b a) [
  | inl less ↦ rw (lt-ltb b a less) (omega (arith, less))
  | inr most ↦ rw (le-ltb b a most) (omega (arith, most))
]

bounded : (z : ℤ) (n : ℕ) → z ≡ pos n → unsigned_abs (int_min z (pos 1000000)) ≡ min n 1000000
bounded z n e = ap (λ (y : ℤ). unsigned_abs (int_min y (pos 1000000))) e ∙ least n 1000000

pub average_above : (avg sample : ℕ) → avg ≤ sample → average_after avg sample ≡ min (avg + (sample - avg) / 8) 1000000
unfolding average_after
average_above avg sample h =
    bounded _ (avg + (sample - avg) / 8) (ap (λ (d : ℤ). pos avg +ℤ int_div d (pos 8)) (above avg sample h))

taken : (a q : ℕ) → q ≤ a → pos a +ℤ neg_ℤ (pos q) ≡ pos (a - q)
taken a q h = omega (arith, ints)

pub average_below : (avg sample : ℕ) → sample < avg → average_after avg sample ≡ min (avg - (avg - sample) / 8) 1000000
unfolding average_after
average_below avg sample h =
    let e : suc (avg - sample - 1) ≡ avg - sample = omega (arith, h) in
    bounded _ (avg - (avg - sample) / 8)
    (ap (λ (d : ℤ). pos avg +ℤ int_div d (pos 8)) (below avg sample h)
    ∙ ap (λ (n : ℕ). pos avg +ℤ neg_ℤ (pos (n / 8))) e
    ∙ taken avg ((avg - sample) / 8) (omega arith))
