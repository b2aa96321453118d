-- The flag of the position below, as one bit of a figure's flags.
-- For `marked`.
use Rattle.std.proofs.Common.{◌≡◌, ℕ, ◌+◌, ◌-◌, ◌/◌, ◌^◌, ◌<◌, false, eqb, refl, arith, bit_and}
use Rattle.std.specs.Int.{bit_at}
use Rattle.std.proofs.lemmas.Bool.{lt-ltb}
use Rattle.std.proofs.lemmas.Nat.Bits.{bit_at_above, shr_and_one}
use Rattle.lb_base.specs.declared.figure.Fig.{Fig}
use Rattle.lb_stats.specs.Statistics.{is_marked}

-- there is no flag past the last one
pub marked_high : (position : ℕ) (fig : Fig) → fig.flags < 2 ^ 64 → 56 < position → is_marked position fig ≡ false
marked_high position fig fits high =
    let none = bit_at_above fig.flags 64 (8 + (position - 1)) fits (omega arith) in
    rw (none, lt-ltb 0 position (omega arith)) refl

pub marked_bit : (position : ℕ) (fig : Fig) → 0 < position → is_marked position fig ≡ eqb
    (bit_and (fig.flags / 2 ^ (7 + position)) 1) 1
marked_bit position fig some =
    let at : 8 + (position - 1) ≡ 7 + position = omega arith in
    let bit : bit_and (fig.flags / 2 ^ (7 + position)) 1 ≡ bit_at fig.flags (7 + position) = shr_and_one fig.flags
    (7 + position) in
    rw (at, bit, lt-ltb 0 position some) refl
