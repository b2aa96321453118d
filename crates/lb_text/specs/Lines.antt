-- Texts that are made of lines, and lines that are made of fields. A line ends with a line feed, and
-- a mark stands between each two of its fields: a comma in a line of a trace, a space in an entry's.
-- Cited by `lb_generator`, `lb_read` and `lb_record`.
use Rattle.std.specs.Prelude.{◌≡◌, ℕ, ◌+◌, List, [], ◌∷◌, ◌++◌, length, take}
use Rattle.std.specs.List.{flat_map}
use Rattle.lb_text.specs.declared.marks.TheConstants.{LINE_FEED}

-- the text of lines
abbrev pub lines_text : List (List ℕ) → List ℕ
lines_text lines = flat_map (λ line. line ++ LINE_FEED ∷ []) lines

-- the lines of things that are counted from a number on
abbrev pub numbered : {A : Type 0} → (ℕ → A → List ℕ) → ℕ → List A → List (List ℕ)
numbered line n [] = []
numbered line n (x ∷ xs) = line n x ∷ numbered line (n + 1) xs

-- fields with a mark before each
abbrev pub marked : ℕ → List (List ℕ) → List ℕ
marked mark fields = flat_map (λ field. mark ∷ field) fields

-- fields with a mark between each two
abbrev pub joined : ℕ → List (List ℕ) → List ℕ
joined mark [] = []
joined mark (field ∷ fields) = field ++ marked mark fields

-- what stood in a text still stands in front of it
abbrev pub StillStands : List ℕ → List ℕ → Type 0
StillStands old new = take (length old) new ≡ old
