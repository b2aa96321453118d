-- A list field is read piece after piece: what the pieces so far and those that are left read as.
-- For `ids_in`, `figures_in` and `all_masks`.
use Rattle.std.proofs.Common.{◌≡◌, ℕ, List, [], ◌∷◌, ◌++◌, Option, Some, None, refl, sym, ap, ◌∙◌, append_assoc}
use Rattle.std.specs.Prelude.{option_and_then}
use Rattle.std.specs.Option.{option_map}
use Rattle.std.proofs.lemmas.List.{append-nil}
use Rattle.lb_read.specs.Exact.{each}

-- the values so far, and those of the pieces that are left
unfoldable pub each_onto : {A : Type 0} → (List ℕ → Option A) → List A → List (List ℕ) → Option (List A)
each_onto read found pieces = option_map (λ more. found ++ more) (each read pieces)

onto_more : {A : Type 0} (found : List A) (a : A) (rest : Option (List A))
    → option_map (λ more. found ++ more) (option_map (λ more. a ∷ more) rest) ≡ option_map
    (λ more. (found ++ a ∷ []) ++ more) rest
onto_more found a None = refl
onto_more found a (Some more) = ap Some (sym (append_assoc found (a ∷ []) more))

pub each_some : {A : Type 0} (read : List ℕ → Option A) (found : List A) (piece : List ℕ) (pieces : List (List ℕ)) (a : A)
    → read piece ≡ Some a → each_onto read found (piece ∷ pieces) ≡ each_onto read (found ++ a ∷ []) pieces
unfolding each_onto
each_some read found piece pieces a e =
    ap (λ o. option_map (λ more. found ++ more) (option_and_then (λ b. option_map (λ more. b ∷ more) (each read pieces)) o)) e
    ∙ onto_more found a (each read pieces)

pub each_none : {A : Type 0} (read : List ℕ → Option A) (found : List A) (piece : List ℕ) (pieces : List (List ℕ))
    → read piece ≡ None → each_onto read found (piece ∷ pieces) ≡ None
unfolding each_onto
each_none read found piece pieces e =
    ap (λ o. option_map (λ more. found ++ more) (option_and_then (λ b. option_map (λ more. b ∷ more) (each read pieces)) o)) e

pub each_all : {A : Type 0} (read : List ℕ → Option A) (found : List A) → each_onto read found [] ≡ Some found
unfolding each_onto
each_all read found = ap Some (append-nil found)

none_before : {A : Type 0} (rest : Option (List A)) → option_map (λ more. more) rest ≡ rest
none_before None = refl
none_before (Some more) = refl

pub each_start : {A : Type 0} (read : List ℕ → Option A) (pieces : List (List ℕ)) → each_onto read [] pieces ≡ each read pieces
unfolding each_onto
each_start read pieces = none_before (each read pieces)
