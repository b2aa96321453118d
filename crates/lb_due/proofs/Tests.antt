-- Two tests that fail together pass together.
-- For `is_in` and `is_apart`.
use Rattle.std.proofs.Common.{not, ◌≡◌, Bool, true, false, refl}

-- they pass together, too
pub same_unless : (a b : Bool) → not a ≡ not b → a ≡ b
same_unless true true h = refl
same_unless false false h = refl
same_unless true false h = absurd (let y : ⊥ = cc in y)
same_unless false true h = absurd (let y : ⊥ = cc in y)
