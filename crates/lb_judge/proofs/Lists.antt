-- A loop over two lists at once finds whether they have the same numbers, place by place.
-- For `is_hand` and `are_same`.
use Rattle.std.proofs.Common.{zero, Some, slice_get, ◌≡◌, ℕ, ◌+◌, ◌<◌, ◌==◌, ◌&&◌, Bool, true, false, List, [], ◌∷◌, length, map, drop, get_or, refl, sym, ◌∙◌, ap, add-one, suc, drop-cons}
use Rattle.lb_core.specs.Same.{same_numbers}
use Rattle.lb_core.proofs.Equality.{numbers_same}

pub cut : {X : Type 0} (xs : List X) (i : ℕ) (d : X) → i < length xs → drop i xs ≡ get_or xs i d ∷ drop (i + 1) xs
cut xs i d lt = drop-cons xs i d lt ∙ ap (λ (k : ℕ). get_or xs i d ∷ drop k xs) (sym (add-one i))

-- two lists of one place more
pub same_more : (xs ys : List ℕ) (i : ℕ) → i < length xs → i < length ys
    → same_numbers (drop i xs) (drop i ys) ≡
    ((get_or xs i 0 == get_or ys i 0) && same_numbers (drop (i + 1) xs) (drop (i + 1) ys))
same_more xs ys i lt lt' = rw (cut xs i 0 lt, cut ys i 0 lt') refl

-- lists of two lengths differ
pub other_length : (xs ys : List ℕ) → (length xs ≡ length ys → ⊥) → false ≡ same_numbers xs ys
other_length xs ys n = by_test (same_numbers xs ys) refl
  where
    by_test : (b : Bool) → same_numbers xs ys ≡ b → false ≡ b
    by_test true e = absurd (n (ap (λ (l : List ℕ). length l) (numbers_same xs ys e)))
    by_test false e = refl

pub get_map : {X : Type 0} (f : X → ℕ) (xs : List X) (i : ℕ) (x : X) → slice_get xs i ≡ Some x → get_or (map f xs) i 0 ≡ f x
get_map f [] i x h = absurd (let y : ⊥ = cc in y)
get_map f (y ∷ xs) zero x h = let e : y ≡ x = cc in ap f e
get_map f (y ∷ xs) (suc i) x h = get_map f xs i x h
