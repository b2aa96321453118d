-- What holds of each item with its number, as lists are cut, joined and taken from.
-- For `end_lanes` and `new_lanes`.
use Rattle.std.proofs.Common.{ℕ, ◌≡◌, ◌+◌, List, [], ◌∷◌, ◌++◌, length, subst, arith}
use Rattle.lb_cpu.specs.Numbering.{EachFrom}

module _ {A : Type 0} where
  -- the numbers may be named anew
  pub each_moved : (P : ℕ → A → Type 0) (j k : ℕ) (xs : List A) → j ≡ k → EachFrom P j xs → EachFrom P k xs
  each_moved P j k xs e h = subst (λ (n : ℕ). EachFrom P n xs) e h

  -- the first, and those after it
  pub each_step : (P : ℕ → A → Type 0) (k : ℕ) (x : A) (xs ys : List A) → ys ≡ x ∷ xs → EachFrom P k ys
      → P k x × EachFrom P (k + 1) xs
  each_step P k x xs ys e h = subst (λ (l : List A). EachFrom P k l) e h

  -- one more at the end
  pub each_push : (P : ℕ → A → Type 0) (k : ℕ) (xs : List A) (x : A) → EachFrom P k xs → P (k + length xs) x
      → EachFrom P k (xs ++ x ∷ [])
  each_push P k [] x h p = (subst (λ (n : ℕ). P n x) (omega arith) p, tt)
  each_push P k (y ∷ xs) x h p = (h.0, each_push P (k + 1) xs x h.1 (subst (λ (n : ℕ). P n x) (omega arith) p))

  -- the first part, and the rest
  pub each_parts : (P : ℕ → A → Type 0) (k : ℕ) (xs ys : List A) → EachFrom P k (xs ++ ys)
      → EachFrom P k xs × EachFrom P (k + length xs) ys
  each_parts P k [] ys h = (tt, each_moved P k (k + 0) ys (omega arith) h)
  each_parts P k (x ∷ xs) ys h =
      let parts = each_parts P (k + 1) xs ys h.1 in
      ((h.0, parts.0), each_moved P (k + 1 + length xs) (k + length (x ∷ xs)) ys (omega arith) parts.1)

  -- another fact of each, counted from elsewhere
  pub each_as : (P Q : ℕ → A → Type 0) (b k : ℕ) (xs : List A) → ((n : ℕ) (x : A) → P (b + n) x → Q n x)
      → EachFrom P (b + k) xs → EachFrom Q k xs
  each_as P Q b k [] f h = tt
  each_as P Q b k (x ∷ xs) f h = (
    f k x h.0,
    each_as P Q b (k + 1) xs f
        (each_moved P (b + k + 1) (b + (k + 1)) xs (omega arith) h.1),
  )
