-- Looking for the first mark of a text, byte by byte.
-- For `cut_at`; cited by `lb_read` too.
use Rattle.std.proofs.Common.{◌≡◌, ℕ, ◌+◌, ◌<◌, ◌≤◌, true, false, eqb, cond, List, [], ◌∷◌, ◌++◌, length, get_or, take, drop, refl, sym, ap, append_assoc}
use Rattle.std.specs.List.{slice_split, onto_first}
use Rattle.std.proofs.lemmas.List.{append-nil, drop_more, take_more, drop_all, take_all}
use Rattle.std.proofs.lemmas.Bool.{ne_eqb, eq-eqb}

-- pieces behind what was passed of the first of them
abbrev pub onto_front : List ℕ → List (List ℕ) → List (List ℕ)
onto_front front [] = front ∷ []
onto_front front (piece ∷ others) = (front ++ piece) ∷ others

onto_front-first : (front : List ℕ) (b : ℕ) (ps : List (List ℕ)) → onto_front front (onto_first b ps) ≡ onto_front
    (front ++ b ∷ []) ps
onto_front-first front b [] = refl
onto_front-first front b (p ∷ ps) = ap (λ (t : List ℕ). t ∷ ps) (sym (append_assoc front (b ∷ []) p))

pub passes : (text : List ℕ) (mark i : ℕ) → i < length text → (get_or text i 0 ≡ mark → ⊥)
    → onto_front (take i text) (slice_split (λ b. eqb b mark) (drop i text)) ≡ onto_front (take (i + 1) text)
    (slice_split (λ b. eqb b mark) (drop (i + 1) text))
passes text mark i lt other =
    rw (drop_more text i 0 lt, ne_eqb (get_or text i 0) mark other, take_more text i 0 lt)
    (onto_front-first (take i text) (get_or text i 0) (slice_split (λ b. eqb b mark) (drop (i + 1) text)))

pub finds : (text : List ℕ) (mark i : ℕ) → i < length text → get_or text i 0 ≡ mark
    → onto_front (take i text) (slice_split (λ b. eqb b mark) (drop i text)) ≡ take i text ∷ slice_split
    (λ b. eqb b mark) (drop (i + 1) text)
finds text mark i lt same =
    rw (drop_more text i 0 lt, same, eq-eqb mark mark refl)
    (ap (λ (t : List ℕ). t ∷ slice_split (λ b. eqb b mark) (drop (i + 1) text)) (append-nil (take i text)))

pub ends : (text : List ℕ) (mark i : ℕ) → length text ≤ i
    → onto_front (take i text) (slice_split (λ b. eqb b mark) (drop i text)) ≡ text ∷ []
ends text mark i le = rw (drop_all i text le, take_all i text le) (ap (λ (t : List ℕ). t ∷ []) (append-nil text))

first_is : (b : ℕ) (ps : List (List ℕ)) → onto_front [] (onto_first b ps) ≡ onto_first b ps
first_is b [] = refl
first_is b (p ∷ ps) = refl

pub starts : (text : List ℕ) (mark : ℕ) → onto_front [] (slice_split (λ b. eqb b mark) text) ≡ slice_split (λ b. eqb b mark) text
starts [] mark = refl
starts (b ∷ text) mark =
    elim (eqb b mark) as (λ v. onto_front []
    (cond v ([] ∷ slice_split (λ b. eqb b mark) text)
    (onto_first b (slice_split (λ b. eqb b mark) text))) ≡ cond v ([] ∷ slice_split (λ b. eqb b mark) text)
    (onto_first b (slice_split (λ b. eqb b mark) text)))
    [ true ↦ refl | false ↦ first_is b (slice_split (λ b. eqb b mark) text) ]
