-- The kinds of line, and the words that name them: the first field of a line is the word of its kind.
-- Cited by the contracts of `line_kind`, `kind_named` and `Reading::kind_line`; also by `lb_generator` and `lb_read`.
use Rattle.std.specs.Prelude.{ℕ, List, [], ◌∷◌, codes, if◌then◌else◌, Option, Some, None, option_and_then}
use Rattle.std.specs.Str.{bytes_eq}
use Rattle.csv.specs.Records.{field_at}
use Rattle.lb_trace.specs.declared.kind.LineKind.{LineKind}
use Rattle.lb_trace.specs.declared.kind.LineKind.TheVariants as kinds
use Rattle.lb_trace.specs.declared.kind.RowKind.TheVariants as rows

-- the words of the kinds
abbrev pub words : List (List ℕ × LineKind)
words =
    (codes "lbtrace", kinds.Version)
    ∷ (codes "cpu", kinds.Cpu)
    ∷ (codes "dist", kinds.Dist)
    ∷ (codes "parts", kinds.Parts)
    ∷ (codes "lanes", kinds.Lanes)
    ∷ (codes "task", kinds.Task)
    ∷ (codes "wake", kinds.Row rows.Wake)
    ∷ (codes "sleep", kinds.Row rows.Sleep)
    ∷ (codes "exit", kinds.Row rows.Exit)
    ∷ (codes "mask", kinds.Row rows.Mask)
    ∷ (codes "nice", kinds.Row rows.Nice)
    ∷ (codes "tick", kinds.Row rows.Tick)
    ∷ (codes "rebuild", kinds.Row rows.Rebuild)
    ∷ []

-- the kind beside a word
abbrev pub kind_beside : List ℕ → List (List ℕ × LineKind) → Option LineKind
kind_beside word [] = None
kind_beside word (w ∷ ws) = if bytes_eq word w.0 then Some w.1 else kind_beside word ws

-- the kind that a word names
abbrev pub kind_named : List ℕ → Option LineKind
kind_named word = kind_beside word words

-- the kind of a line, by its fields
unfoldable pub line_kind : List (List ℕ) → Option LineKind
line_kind fields = option_and_then kind_named (field_at fields 0)
