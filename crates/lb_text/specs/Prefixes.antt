-- The first byte that cannot stand in a text: up to it, itself included, the text begins no accepted
-- one. A text that begins accepted ones as a whole and is not one ends too early: its length stands
-- for the place.
-- Cited by the contracts of `list_of`, `number_within`, `number_of` and others.
use Rattle.std.specs.Prelude.{◌≡◌, ℕ, ◌+◌, ◌<◌, ◌≤◌, Bool, true, List, ◌++◌, length, take}

-- some accepted text begins so
abbrev pub CanGoOn : (List ℕ → Bool) → List ℕ → Type 0
CanGoOn accepts text = (more : List ℕ) × (accepts (text ++ more) ≡ true)

-- the least place up to which, that byte included, no accepted text begins so; the length where there
-- is no such place
pub record IsFirstBad (accepts : List ℕ → Bool) (text : List ℕ) (at : ℕ) : Type 0 where
  pub within : at ≤ length text
  pub before : (k : ℕ) → k < at → CanGoOn accepts (take (k + 1) text)
  pub here : at < length text → CanGoOn accepts (take (at + 1) text) → ⊥
