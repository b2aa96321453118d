-- The pieces of a text between its marks that a reader has not taken yet.
-- What contracts see of the type `Pieces`.
use Rattle.std.specs.Prelude.{ℕ, ◌==◌, List, [], Option, Some, None}
use Rattle.std.specs.List.{slice_split}

-- the pieces of the text that is left, where there is one
abbrev pub pieces_left : ℕ → Option (List ℕ) → List (List ℕ)
pieces_left mark None = []
pieces_left mark (Some text) = slice_split (λ b. b == mark) text
