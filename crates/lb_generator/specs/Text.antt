-- The text of a drawn trace: its lines in order, each in its one spelling, with a comma between each two
-- fields and a line feed at its end. It has no line `parts`: the partition is all CPUs. No mask is empty.
-- Cited by the contracts of `put_row`, `put_cpu`, `put_task` and others; also by `lb`.
use Rattle.std.specs.Prelude.{ℕ, List, [], ◌∷◌, ◌++◌, map, codes, decimal}
use Rattle.std.specs.Fmt.{signed_decimal}
use Rattle.std.specs.List.{range_with_len}
use Rattle.lb_levels.specs.declared.cpu_row.CpuRow.{CpuRow}
use Rattle.lb_text.specs.declared.marks.TheConstants.{COMMA}
use Rattle.lb_text.specs.Lines.{lines_text, marked}
use Rattle.lb_text.specs.Runs.{list_text}
use Rattle.lb_trace.specs.declared.trace.Command.{Command}
use Rattle.lb_trace.specs.declared.trace.Command.TheVariants.{Wake, Sleep, Exit, SetMask, Nice, Tick, Rebuild}
use Rattle.lb_trace.specs.declared.trace.Row.{Row}
use Rattle.lb_trace.specs.declared.trace.TaskRow.{TaskRow}
use Rattle.lb_generator.specs.declared.rows.TheConstants.{CPUS, LANES, TASKS}
use Rattle.lb_generator.specs.Generator.{cpu_at, task_at, distances, rows_from}

-- the line of a word and fields
abbrev pub line_of : List ℕ → List (List ℕ) → List ℕ
line_of word fields = word ++ marked COMMA fields

-- ---- the header
abbrev pub cpu_line : ℕ → CpuRow → List ℕ
cpu_line id cpu = line_of (codes "cpu") (decimal id ∷ decimal cpu.core ∷ decimal cpu.cache ∷ decimal cpu.node ∷ [])

abbrev pub distances_line : List ℕ → List ℕ
distances_line row = line_of (codes "dist") (map decimal row)

abbrev pub lanes_line : ℕ → List ℕ
lanes_line lanes = line_of (codes "lanes") (decimal lanes ∷ [])

abbrev pub task_line : ℕ → TaskRow → List ℕ
task_line id task =
    line_of (codes "task") (decimal id ∷ signed_decimal task.nice ∷ decimal task.home ∷ list_text task.mask ∷ [])

-- ---- rows
-- the word of a row, and what stands behind its lane and its moment
abbrev pub row_word : Command → List ℕ
row_word (Wake task) = codes "wake"
row_word (Sleep task) = codes "sleep"
row_word (Exit task) = codes "exit"
row_word (SetMask task mask) = codes "mask"
row_word (Nice task nice) = codes "nice"
row_word (Tick cpu) = codes "tick"
row_word (Rebuild parts) = codes "rebuild"

abbrev pub row_fields : Command → List (List ℕ)
row_fields (Wake task) = decimal task ∷ []
row_fields (Sleep task) = decimal task ∷ []
row_fields (Exit task) = decimal task ∷ []
row_fields (SetMask task mask) = decimal task ∷ list_text mask ∷ []
row_fields (Nice task nice) = decimal task ∷ signed_decimal nice ∷ []
row_fields (Tick cpu) = decimal cpu ∷ []
row_fields (Rebuild parts) = map list_text parts

unfoldable pub row_line : Row → List ℕ
row_line row = line_of (row_word row.command) (decimal row.lane ∷ decimal row.at ∷ row_fields row.command)

-- ---- the whole text
-- the lines of the first CPUs and of the first tasks
unfoldable pub cpu_lines : ℕ → List (List ℕ)
cpu_lines n = map (λ i. cpu_line i (cpu_at i)) (range_with_len 0 n)

unfoldable pub task_lines : ℕ → List (List ℕ)
task_lines n = map (λ i. task_line i (task_at i)) (range_with_len 0 n)

abbrev pub distances_lines : List (List ℕ)
distances_lines = map distances_line distances

-- the lines of the header, and then those of the rows
unfoldable pub header_lines : List (List ℕ)
header_lines = (codes "lbtrace,1" ∷ cpu_lines CPUS) ++ (distances_lines ++ (lanes_line LANES ∷ task_lines TASKS))

unfoldable pub text_drawn : ℕ → ℕ → List ℕ
text_drawn number rows = lines_text header_lines ++ lines_text (map row_line (rows_from rows 0 number))
