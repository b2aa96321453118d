-- An array that is filled from the front by a function of the place.
-- For `by_cpu`; cited by `lb_due` too.
use Rattle.std.proofs.Common.{ℕ, ◌≡◌, ◌+◌, ◌<◌, List, [], ◌∷◌, ◌++◌, length, take, map, slice_set, refl, sym, ◌∙◌, ap, arith}
use Rattle.std.specs.List.{range_with_len}
use Rattle.std.proofs.lemmas.List.FromFn.{map-range_with_len_more}
use Rattle.std.proofs.lemmas.Grind.{take-set_at}

-- one place more
pub filled_more : {X : Type 0} (f : ℕ → X) (all : List X) (i : ℕ) (x : X) → i < length all → x ≡ f i
    → take i all ≡ map f (range_with_len 0 i)
    → take (i + 1) (slice_set all i x) ≡ map f (range_with_len 0 (i + 1))
filled_more f all i x inside e so_far =
    take-set_at all i (i + 1) x refl inside
    ∙ ap (λ xs. xs ++ x ∷ []) so_far
    ∙ ap (λ y. map f (range_with_len 0 i) ++ y ∷ []) e
    ∙ sym (map-range_with_len_more f 0 i i (omega arith))
