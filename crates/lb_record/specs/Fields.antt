-- The fields of an entry that are lists, or that may say nothing: numbers of tasks with `;` between
-- them, figures with a comma between them, a target. Where there is no task or no target, `-` stands.
-- Cited by the contracts of `put_ids`, `put_figures`, `put_target` and others; also by `lb_read`.
use Rattle.std.specs.Prelude.{ℕ, Option, Some, None, List, [], ◌∷◌, ◌++◌, map, codes, decimal}
use Rattle.lb_text.specs.declared.marks.TheConstants.{COLON, COMMA, SEMICOLON}
use Rattle.lb_core.specs.declared.entry.FigName.{FigName}
use Rattle.lb_text.specs.Lines.{joined}

-- numbers of tasks
abbrev pub ids_text : List ℕ → List ℕ
ids_text [] = codes "-"
ids_text (id ∷ ids) = joined SEMICOLON (map decimal (id ∷ ids))

-- a figure: its CPU, and its number among those of that CPU
abbrev pub figure_text : FigName → List ℕ
figure_text figure = decimal figure.cpu ++ COLON ∷ decimal figure.n

abbrev pub figures_text : List FigName → List ℕ
figures_text figures = joined COMMA (map figure_text figures)

-- the CPU that a scan found, if it found one
abbrev pub target_text : Option ℕ → List ℕ
target_text None = codes "-"
target_text (Some cpu) = decimal cpu
