-- Ids with the keys of their nodes, by rising id. No public contract cites this.
use Rattle.std.specs.Prelude.{◌≡◌, ℕ, ◌<◌, ◌≤◌, List, length, slice_index_or}

-- the id at place i
abbrev pub id_at : List (ℕ × ℕ) → ℕ → ℕ
id_at pairs i = let pair = slice_index_or pairs i (0, 0) in pair.0

-- the ids rise, so none comes twice
abbrev pub IsRising : List (ℕ × ℕ) → Type 0
IsRising pairs = (i j : ℕ) → i < j → j < length pairs → id_at pairs i < id_at pairs j

-- the id stands at place i
pub record IsAt (pairs : List (ℕ × ℕ)) (id i : ℕ) : Type 0 where
  pub in_range : i < length pairs
  pub is : id_at pairs i ≡ id

-- the id would go to place i: lesser ids before it, and greater ones from it on
pub record IsGapFor (pairs : List (ℕ × ℕ)) (id i : ℕ) : Type 0 where
  pub in_range : i ≤ length pairs
  pub lesser_before : (j : ℕ) → j < i → id_at pairs j < id
  pub greater_after : (j : ℕ) → i ≤ j → j < length pairs → id < id_at pairs j
