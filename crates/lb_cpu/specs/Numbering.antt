-- A fact about each item of a list and its number, or about those of two or three lists at one place.
-- Cited by the contracts of `end_cells`, `end_lanes`, `Cpus::rest` and others; also by `lb_thread_tests` and
-- `lb_threads`.
use Rattle.std.specs.Prelude.{ℕ, ◌≡◌, ◌+◌, List, [], ◌∷◌, Some, length, slice_get}

-- it holds of each item with its number; the first has the number k
abbrev pub EachFrom : {A : Type 0} → (ℕ → A → Type 0) → ℕ → List A → Type 0
EachFrom P k [] = Unit {0}
EachFrom P k (x ∷ xs) = P k x × EachFrom P (k + 1) xs

-- two lists have as many items, and it holds of those at one place, with their number
pub record EachOfTwo {A B : Type 0} (P : ℕ → A → B → Type 0) (xs : List A) (ys : List B) : Type 0 where
  pub count : length ys ≡ length xs
  pub at : (i : ℕ) (x : A) (y : B) → slice_get xs i ≡ Some x → slice_get ys i ≡ Some y → P i x y

-- so of three lists
pub record EachOfThree {A B C : Type 0} (P : ℕ → A → B → C → Type 0) (xs : List A) (ys : List B) (zs : List C)
    : Type 0 where
  pub second : length ys ≡ length xs
  pub third : length zs ≡ length xs
  pub at : (i : ℕ) (x : A) (y : B) (z : C) → slice_get xs i ≡ Some x → slice_get ys i ≡ Some y → slice_get zs i ≡ Some z →
      P i x y z
