-- A list of which a loop has changed the first elements, and not yet the others.
-- For `mask_awake`, `mask_asleep`, `preempt_all` and `owe_all`.
use Rattle.std.proofs.Common.{◌≡◌, ℕ, zero, suc, ◌+◌, ◌<◌, ◌≤◌, List, [], ◌∷◌, ◌++◌, length, map, get_or, take, drop, take_all, append-nil, refl, sym, ◌∙◌, ap, arith, add-one}
use Rattle.std.proofs.Math.ListN.{set}

abbrev pub mapped : {X : Type 0} (f : X → X) → ℕ → List X → List X
mapped f zero xs = xs
mapped f (suc i) [] = []
mapped f (suc i) (x ∷ xs) = f x ∷ mapped f i xs

pub mapped_all : {X : Type 0} (f : X → X) (i : ℕ) (xs : List X) → length xs ≤ i → mapped f i xs ≡ map f xs
mapped_all f zero [] h = refl
mapped_all f zero (x ∷ xs) h = absurd (omega arith)
mapped_all f (suc i) [] h = refl
mapped_all f (suc i) (x ∷ xs) h = ap (λ ys. f x ∷ ys) (mapped_all f i xs (omega arith))

pub mapped_length : {X : Type 0} (f : X → X) (i : ℕ) (xs : List X) → length (mapped f i xs) ≡ length xs
mapped_length f zero xs = refl
mapped_length f (suc i) [] = refl
mapped_length f (suc i) (x ∷ xs) = let h = mapped_length f i xs in omega arith

pub mapped_at : {X : Type 0} (f : X → X) (i : ℕ) (xs : List X) (d : X) → get_or (mapped f i xs) i d ≡ get_or xs i d
mapped_at f zero xs d = refl
mapped_at f (suc i) [] d = refl
mapped_at f (suc i) (x ∷ xs) d = mapped_at f i xs d

set_step : {X : Type 0} (f : X → X) (i : ℕ) (xs : List X) (d : X) → i < length xs
    → set (mapped f i xs) i (f (get_or xs i d)) ≡ mapped f (suc i) xs
set_step f i [] d h = absurd (omega arith)
set_step f zero (x ∷ xs) d h = refl
set_step f (suc i) (x ∷ xs) d h = ap (λ ys. f x ∷ ys) (set_step f i xs d (omega arith))

-- one more element is changed
pub mapped_set : {X : Type 0} (f : X → X) (i : ℕ) (xs : List X) (v d : X) → i < length xs → v ≡ f (get_or xs i d)
    → set (mapped f i xs) i v ≡ mapped f (i + 1) xs
mapped_set f i xs v d h e = ap (set (mapped f i xs) i) e ∙ set_step f i xs d h ∙ ap (λ (n : ℕ). mapped f n xs) (sym (add-one i))

-- the loop has come to its end
pub mapped_done : {X : Type 0} (f : X → X) (before after : List X) (i m : ℕ) → after ≡ mapped f i before
    → length before ≤ i → m ≡ length before → take m (after ++ drop (length after) before) ≡ map f before
mapped_done f before after i m e far same =
    let all : after ≡ map f before = e ∙ mapped_all f i before far in
    let long : length after ≡ length before = ap length e ∙ mapped_length f i before in
    let none : drop (length after) before ≡ [] = dropped before (length after) (omega arith) in
    ap (λ ys. take m (after ++ ys)) none ∙ ap (take m) (append-nil after) ∙ take_all m after (omega arith) ∙ all
  where
    dropped : {X : Type 0} (xs : List X) (n : ℕ) → length xs ≤ n → drop n xs ≡ []
    dropped [] zero h = refl
    dropped [] (suc n) h = refl
    dropped (x ∷ xs) zero h = absurd (omega arith)
    dropped (x ∷ xs) (suc n) h = dropped xs n (omega arith)
