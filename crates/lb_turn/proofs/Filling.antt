-- An array that is filled from the front with the items of a list, as shapes, records and names are copied from where they
-- stand: after one item more. For callers too.
-- For `shapes_of`; cited by `lb_act` and `lb_cell` too.
use Rattle.std.proofs.Common.{ℕ, ◌≡◌, ◌+◌, ◌<◌, List, [], ◌∷◌, ◌++◌, length, take, slice_set, slice_index_or, refl, sym, ◌∙◌, ap}
use Rattle.std.proofs.lemmas.Grind.{take-set_at, take_at_read}

-- one item more
pub filled_more : {X : Type 0} (xs all : List X) (i : ℕ) (x d : X) → i < length all → i < length xs
    → x ≡ slice_index_or xs i d → take i all ≡ take i xs → take (i + 1) (slice_set all i x) ≡ take (i + 1) xs
filled_more xs all i x d inside there e so_far =
    take-set_at all i (i + 1) x refl inside
    ∙ ap (λ ys. ys ++ x ∷ []) so_far
    ∙ ap (λ y. take i xs ++ y ∷ []) e
    ∙ sym ((take_at_read xs i d there).1)
