-- How one field of an entry is read: a number, a list of CPUs, numbers of tasks, figures, a target. Each
-- is read in its one spelling.
-- Cited by the contracts of `mask_in`, `ids_in`, `figures_in` and others.
use Rattle.std.specs.Prelude.{ℕ, List, [], codes, Option, Some, None, option_and_then, if◌then◌else◌}
use Rattle.std.specs.Option.{option_map}
use Rattle.std.specs.Str.{bytes_eq}
use Rattle.lb_base.specs.declared.mask.Mask.{Mask}
use Rattle.lb_base.specs.Mask.{no_cpus}
use Rattle.lb_text.specs.Numbers.{number_of}
use Rattle.lb_text.specs.Lists.{list_of}
use Rattle.lb_text.specs.Runs.{list_text}
use Rattle.lb_trace.specs.declared.trace.TheConstants.{MAX_MOMENT}
use Rattle.lb_core.specs.declared.entry.FigName.{FigName}
use Rattle.lb_core.specs.Ranges.{cpus_rise}
use Rattle.lb_text.specs.declared.marks.TheConstants.{COLON, COMMA, SEMICOLON}
use Rattle.lb_read.specs.Exact.{take_field, next_to, whole, each, split_at}

abbrev pub short_in : List ℕ → Option ℕ
short_in text = number_of 4294967295 text

abbrev pub long_in : List ℕ → Option ℕ
long_in text = number_of 18446744073709551615 text

abbrev pub moment_in : List ℕ → Option ℕ
moment_in text = number_of MAX_MOMENT text

-- the mask, where the text is its one spelling
abbrev pub if_spelled : List ℕ → Mask → Option Mask
if_spelled text mask = if bytes_eq (list_text mask) text then Some mask else None

unfoldable pub mask_in : List ℕ → Option Mask
mask_in text = if bytes_eq text (codes "-") then Some no_cpus else option_and_then (if_spelled text) (list_of text)

-- numbers of tasks
unfoldable pub ids_in : List ℕ → Option (List ℕ)
ids_in text = if bytes_eq text (codes "-") then Some [] else split_at SEMICOLON (each short_in) text

abbrev pub figure_from : ℕ × ℕ → FigName
figure_from parts = record { cpu = parts.0; n = parts.1 }

unfoldable pub figure_in : List ℕ → Option FigName
figure_in text = option_map figure_from (split_at COLON (whole (next_to (take_field short_in) (take_field long_in))) text)

abbrev pub if_rising : List FigName → Option (List FigName)
if_rising figures = if cpus_rise figures then Some figures else None

unfoldable pub figures_in : List ℕ → Option (List FigName)
figures_in text = option_and_then if_rising (split_at COMMA (each figure_in) text)

unfoldable pub target_in : List ℕ → Option (Option ℕ)
target_in text = if bytes_eq text (codes "-") then Some None else option_map (λ cpu. Some cpu) (short_in text)
