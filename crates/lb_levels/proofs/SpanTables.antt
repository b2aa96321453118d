-- The table of spans, a row for each level: its size, and what stands at the place of a level and a CPU.
-- For `Machine::span`.
use Rattle.std.proofs.Common.{◌≡◌, ℕ, ◌<◌, List, [], length, Some, sym, ◌∙◌, ap, arith}
use Rattle.std.specs.List.{range_with_len, slice_get}
use Rattle.std.proofs.lemmas.List.{length-map, get_or-map}
use Rattle.std.proofs.lemmas.List.FromFn.{length-range_with_len, get_or-map-range_with_len}
use Rattle.std.proofs.lemmas.Option.{get_or_from_slice_get}
use Rattle.lb_base.specs.declared.mask.Mask.{Mask}
use Rattle.lb_base.specs.declared.shape.LevelName.{LevelName}
use Rattle.lb_base.specs.declared.shape.LevelName.TheVariants.{Smt}
use Rattle.lb_base.specs.Mask.{no_cpus}
use Rattle.lb_levels.specs.declared.cpu_row.CpuRow.{CpuRow}
use Rattle.lb_levels.specs.Spans.{levels_of, level_at, span_of, spans_at, spans_of}

pub length-spans_of : (cpus : List CpuRow) (table : List (List ℕ)) → length (spans_of cpus table) ≡ length (levels_of table)
unfolding spans_of
length-spans_of cpus table = length-map (levels_of table) (spans_at cpus table)

length-spans_at : (cpus : List CpuRow) (table : List (List ℕ)) (level : LevelName)
    → length (spans_at cpus table level) ≡ length cpus
unfolding spans_at
length-spans_at cpus table level = length-map (range_with_len 0 (length cpus)) (span_of cpus table level)
    ∙ length-range_with_len 0 (length cpus)

spans_of_at : (cpus : List CpuRow) (table : List (List ℕ)) (level : ℕ) (row : List Mask)
    → level < length (levels_of table) → slice_get (spans_of cpus table) level ≡ Some row → row ≡ spans_at cpus table
    (level_at table level)
unfolding spans_of
spans_of_at cpus table level row within e =
    let none : List Mask = [] in
    sym (get_or_from_slice_get (spans_of cpus table) level row none e)
    ∙ get_or-map (spans_at cpus table) (levels_of table) level Smt none within

spans_at_at : (cpus : List CpuRow) (table : List (List ℕ)) (level : LevelName) (cpu : ℕ) (span : Mask)
    → cpu < length cpus → slice_get (spans_at cpus table level) cpu ≡ Some span → span ≡ span_of cpus table level cpu
unfolding spans_at
spans_at_at cpus table level cpu span within e =
    sym (get_or_from_slice_get (spans_at cpus table level) cpu span no_cpus e)
    ∙ get_or-map-range_with_len (span_of cpus table level) 0 (length cpus) cpu cpu no_cpus within (omega arith)

-- the span at a place of the whole table
pub cell_is : (cpus : List CpuRow) (table : List (List ℕ)) (spans : List (List Mask)) (level cpu : ℕ)
    (row : List Mask) (span : Mask) → spans ≡ spans_of cpus table → level < length (levels_of table)
    → cpu < length cpus → slice_get spans level ≡ Some row → slice_get row cpu ≡ Some span
    → span ≡ span_of cpus table (level_at table level) cpu
cell_is cpus table spans level cpu row span whole in_levels in_cpus at there =
    let row_is = spans_of_at cpus table level row in_levels (ap (λ (s : List (List Mask)). slice_get s level) (sym whole) ∙ at) in
    spans_at_at cpus table (level_at table level) cpu span in_cpus (ap (λ (r : List Mask). slice_get r cpu) (sym row_is) ∙ there)

pub row_length : (cpus : List CpuRow) (table : List (List ℕ)) (spans : List (List Mask)) (level : ℕ) (row : List Mask)
    → spans ≡ spans_of cpus table → level < length (levels_of table) → slice_get spans level ≡ Some row → length row ≡ length cpus
row_length cpus table spans level row whole in_levels at =
    let row_is = spans_of_at cpus table level row in_levels (ap (λ (s : List (List Mask)). slice_get s level) (sym whole) ∙ at) in
    ap length row_is ∙ length-spans_at cpus table (level_at table level)
