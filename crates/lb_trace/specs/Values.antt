-- What the fields of a line say, by their places and ranges. Where a field is misspelt or is not there,
-- its value is 0 or no CPU: such a line is refused before its values count.
-- Cited by the contracts of `number_at`, `nice_at`, `list_at` and others; also by `lb_generator` and `lb_read`.
use Rattle.std.specs.Prelude.{ℕ, ℤ, pos, ◌-◌, List, drop, map, Option, option_and_then, unwrap_or}
use Rattle.csv.specs.Records.{field_at}
use Rattle.lb_base.specs.declared.mask.Mask.{Mask}
use Rattle.lb_base.specs.Mask.{no_cpus}
use Rattle.lb_levels.specs.declared.cpu_row.CpuRow.{CpuRow}
use Rattle.lb_text.specs.Numbers.{number_within, nice_of}
use Rattle.lb_text.specs.Lists.{list_of}
use Rattle.lb_trace.specs.declared.trace.TheConstants.{MAX_CORE, MAX_NODES, MAX_DISTANCE, MAX_LANES, MAX_ID, MAX_MOMENT}
use Rattle.lb_trace.specs.declared.trace.Command.{Command}
use Rattle.lb_trace.specs.declared.trace.Command.TheVariants as commands
use Rattle.lb_trace.specs.declared.trace.Row.{Row}
use Rattle.lb_trace.specs.declared.trace.TaskRow.{TaskRow}
use Rattle.lb_trace.specs.declared.kind.RowKind.{RowKind}
use Rattle.lb_trace.specs.declared.kind.RowKind.TheVariants as rows

-- ---- one field
-- the number from `least` to `most` at a place
unfoldable pub number_at : ℕ → ℕ → ℕ → List (List ℕ) → Option ℕ
number_at i least most fields = option_and_then (number_within least most) (field_at fields i)

-- the nice value at a place
unfoldable pub nice_at : ℕ → List (List ℕ) → Option ℤ
nice_at i fields = option_and_then nice_of (field_at fields i)

-- the list of CPUs at a place
unfoldable pub list_at : ℕ → List (List ℕ) → Option Mask
list_at i fields = option_and_then list_of (field_at fields i)

abbrev pub number : Option ℕ → ℕ
number o = unwrap_or o 0

abbrev pub nice : Option ℤ → ℤ
nice o = unwrap_or o (pos 0)

abbrev pub list : Option Mask → Mask
list o = unwrap_or o no_cpus

-- ---- the fields by their names
-- the id of a CPU or a task
abbrev pub id_in : List (List ℕ) → Option ℕ
id_in fields = number_at 1 0 MAX_ID fields

abbrev pub core_in : List (List ℕ) → Option ℕ
core_in fields = number_at 2 0 MAX_CORE fields

abbrev pub cache_in : List (List ℕ) → Option ℕ
cache_in fields = number_at 3 0 MAX_CORE fields

abbrev pub node_in : List (List ℕ) → Option ℕ
node_in fields = number_at 4 0 (MAX_NODES - 1) fields

abbrev pub lanes_in : List (List ℕ) → Option ℕ
lanes_in fields = number_at 1 1 MAX_LANES fields

abbrev pub home_in : List (List ℕ) → Option ℕ
home_in fields = number_at 3 0 MAX_ID fields

abbrev pub lane_in : List (List ℕ) → Option ℕ
lane_in fields = number_at 1 0 MAX_ID fields

abbrev pub moment_in : List (List ℕ) → Option ℕ
moment_in fields = number_at 2 0 MAX_MOMENT fields

-- the task or the CPU that a row is about
abbrev pub subject_in : List (List ℕ) → Option ℕ
subject_in fields = number_at 3 0 MAX_ID fields

-- ---- what a whole line says
abbrev pub cpu_of : List (List ℕ) → CpuRow
cpu_of fields = record { core = number (core_in fields); cache = number (cache_in fields); node = number (node_in fields) }

-- a node's distances
abbrev pub distances_in : List (List ℕ) → List ℕ
distances_in fields = map (λ field. number (number_within 1 MAX_DISTANCE field)) (drop 1 fields)

-- the partition masks from a place on
abbrev pub masks_from : ℕ → List (List ℕ) → List Mask
masks_from i fields = map (λ field. list (list_of field)) (drop i fields)

abbrev pub task_of : List (List ℕ) → TaskRow
task_of fields = record { nice = nice (nice_at 2 fields); home = number (home_in fields); mask = list (list_at 4 fields) }

abbrev pub command_of : RowKind → List (List ℕ) → Command
command_of rows.Wake fields = commands.Wake (number (subject_in fields))
command_of rows.Sleep fields = commands.Sleep (number (subject_in fields))
command_of rows.Exit fields = commands.Exit (number (subject_in fields))
command_of rows.Mask fields = commands.SetMask (number (subject_in fields)) (list (list_at 4 fields))
command_of rows.Nice fields = commands.Nice (number (subject_in fields)) (nice (nice_at 4 fields))
command_of rows.Tick fields = commands.Tick (number (subject_in fields))
command_of rows.Rebuild fields = commands.Rebuild (masks_from 3 fields)

abbrev pub row_of : RowKind → List (List ℕ) → Row
row_of kind fields = record { lane = number (lane_in fields); at = number (moment_in fields); command = command_of kind fields }
