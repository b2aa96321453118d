-- Lines whose numbers or lists are misspelt or out of range. An id, and a field that is one CPU, one
-- task or one lane, has no bound of its own here.
-- Cited by the contracts of `cpu_in` and `task_in`; also by `lb_generator`.
use Rattle.std.specs.Prelude.{Bool, false, not, ◌||◌, List, ℕ, drop, is_none}
use Rattle.std.specs.List.{list_all}
use Rattle.lb_text.specs.Numbers.{is_number}
use Rattle.lb_text.specs.Lists.{is_list}
use Rattle.lb_trace.specs.declared.trace.TheConstants.{MAX_DISTANCE}
use Rattle.lb_trace.specs.declared.kind.LineKind.{LineKind}
use Rattle.lb_trace.specs.declared.kind.LineKind.TheVariants as kinds
use Rattle.lb_trace.specs.declared.kind.RowKind.{RowKind}
use Rattle.lb_trace.specs.declared.kind.RowKind.TheVariants as rows
use Rattle.lb_trace.specs.Values.{nice_at, list_at, id_in, core_in, cache_in, node_in, lanes_in, home_in, lane_in, moment_in, subject_in}

-- a number after a row's moment is misspelt
abbrev pub row_misspells : RowKind → List (List ℕ) → Bool
row_misspells rows.Nice fields = is_none (subject_in fields) || is_none (nice_at 4 fields)
row_misspells rows.Rebuild fields = false
row_misspells kind fields = is_none (subject_in fields)

-- a number is misspelt or out of range
abbrev pub misspells_number : LineKind → List (List ℕ) → Bool
misspells_number kinds.Cpu fields =
    is_none (id_in fields) || is_none (core_in fields) || is_none (cache_in fields) || is_none (node_in fields)
misspells_number kinds.Dist fields = not (list_all (is_number 1 MAX_DISTANCE) (drop 1 fields))
misspells_number kinds.Lanes fields = is_none (lanes_in fields)
misspells_number kinds.Task fields = is_none (id_in fields) || is_none (nice_at 2 fields) || is_none (home_in fields)
misspells_number (kinds.Row kind) fields = is_none (lane_in fields) || is_none (moment_in fields) || row_misspells kind fields
misspells_number kind fields = false

-- a list of CPUs is misspelt
abbrev pub misspells_list : LineKind → List (List ℕ) → Bool
misspells_list kinds.Parts fields = not (list_all is_list (drop 1 fields))
misspells_list kinds.Task fields = is_none (list_at 4 fields)
misspells_list (kinds.Row rows.Mask) fields = is_none (list_at 4 fields)
misspells_list (kinds.Row rows.Rebuild) fields = not (list_all is_list (drop 3 fields))
misspells_list kind fields = false
