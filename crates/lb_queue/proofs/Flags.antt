-- The bits of the positions that are marked as imbalanced.
-- For `imbalance_flags`.
use Rattle.std.proofs.Common.{◌≡◌, ℕ, zero, suc, ◌+◌, ◌*◌, ◌^◌, ◌<◌, ◌≤◌, Bool, true, false, cond, List, [], ◌∷◌, length, get_or, drop, refl, sym, ◌∙◌, ap, arith}
use Rattle.std.proofs.Math.Nat.{pow-suc}
use Rattle.std.proofs.Math.Pow.{pow_mono}
use Rattle.std.proofs.lemmas.List.{drop_more}
use Rattle.lb_interval.specs.declared.Counters.{Counters}
use Rattle.lb_queue.specs.Figures.{flags_from}

one_bit : (b : Bool) (x r y : ℕ) → r + x * 2 ≤ y → cond b x 0 + r + x ≤ y
one_bit true x r y h = omega arith
one_bit false x r y h = omega arith

-- the bits from a position on, with the one below them
flags_small : (p : ℕ) (cs : List Counters) → flags_from p cs + 2 ^ (8 + p) ≤ 2 ^ (8 + p + length cs)
flags_small p [] = let z : 8 + p + 0 ≡ 8 + p = omega arith in rw z (omega arith)
flags_small p (c ∷ cs) =
    let next : 8 + (p + 1) ≡ suc (8 + p) = omega arith in
    let far : 8 + (p + 1) + length cs ≡ 8 + p + suc (length cs) = omega arith in
    let d : 2 ^ (8 + (p + 1)) ≡ 2 ^ (8 + p) * 2 = ap (λ (n : ℕ). 2 ^ n) next ∙ pow-suc 2 (8 + p) in
    let l : 2 ^ (8 + (p + 1) + length cs) ≡ 2 ^ (8 + p + suc (length cs)) = ap (λ (n : ℕ). 2 ^ n) far in
    let h = flags_small (p + 1) cs in
    one_bit c.imb (2 ^ (8 + p)) (flags_from (p + 1) cs) (2 ^ (8 + p + suc (length cs))) (omega arith)

pub flags_below : (cs : List Counters) → length cs ≤ 20 → flags_from 0 cs < 2 ^ 28
flags_below cs few =
    let h = flags_small 0 cs in
    let m : 2 ^ (8 + 0 + length cs) ≤ 2 ^ 28 = pow_mono {i = 8 + 0 + length cs} {j = 28} (omega arith) in
    omega arith

-- so many positions are looked at
pub record IsCounted (counters : List Counters) (p flags : ℕ) : Type 0 where
  pub whole : flags + flags_from p (drop p counters) ≡ flags_from 0 counters

pub counted_next : (counters : List Counters) (p flags : ℕ) (d : Counters) → IsCounted counters p flags → p < length counters →
    flags + (cond (get_or counters p d).imb (2 ^ (8 + p)) 0 + flags_from (p + 1) (drop (p + 1) counters)) ≡ flags_from 0 counters
counted_next counters p flags d h lt = ap (λ (xs : List Counters). flags + flags_from p xs)
    (sym (drop_more counters p d lt)) ∙ h.whole

pub counted_all : (counters : List Counters) (p flags : ℕ) → IsCounted counters p flags → length counters ≤ p
    → flags ≡ flags_from 0 counters
counted_all counters p flags h far = let z = ap (flags_from p) (none p counters far) in let w = h.whole in omega arith
  where
    none : (n : ℕ) (xs : List Counters) → length xs ≤ n → drop n xs ≡ []
    none zero [] h = refl
    none (suc n) [] h = refl
    none zero (x ∷ xs) h = absurd (omega arith)
    none (suc n) (x ∷ xs) h = none n xs (omega arith)
