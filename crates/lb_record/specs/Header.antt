-- The header of a history: the line `lbhist 1`, and behind `= ` each line that declares the machine,
-- its partition, its lanes and its tasks, as a trace has them. Lists are in their one spelling, and
-- an empty one is empty. The partition is always there.
-- Cited by the contracts of `put_header`, `history_text`, `put_cpu` and others; also by `lb_read`.
use Rattle.std.specs.Prelude.{ℕ, List, [], ◌∷◌, ◌++◌, map, codes, decimal}
use Rattle.std.specs.Fmt.{signed_decimal}
use Rattle.lb_base.specs.declared.mask.Mask.{Mask}
use Rattle.lb_levels.specs.declared.cpu_row.CpuRow.{CpuRow}
use Rattle.lb_text.specs.declared.marks.TheConstants.{COMMA}
use Rattle.lb_text.specs.Runs.{runs_text}
use Rattle.lb_trace.specs.declared.trace.TaskRow.{TaskRow}
use Rattle.lb_trace.specs.declared.trace.Header.{Header}
use Rattle.lb_text.specs.Lines.{joined, lines_text, numbered}

-- a line of a trace, as a history repeats it
abbrev pub repeated : List (List ℕ) → List ℕ
repeated fields = codes "= " ++ joined COMMA fields

unfoldable pub cpu_line : ℕ → CpuRow → List ℕ
cpu_line id cpu = repeated (codes "cpu" ∷ decimal id ∷ decimal cpu.core ∷ decimal cpu.cache ∷ decimal cpu.node ∷ [])

-- the distances of one node from all nodes
unfoldable pub distances_line : List ℕ → List ℕ
distances_line distances = repeated (codes "dist" ∷ map decimal distances)

unfoldable pub parts_line : List Mask → List ℕ
parts_line parts = repeated (codes "parts" ∷ map runs_text parts)

unfoldable pub lanes_line : ℕ → List ℕ
lanes_line lanes = repeated (codes "lanes" ∷ decimal lanes ∷ [])

unfoldable pub task_line : ℕ → TaskRow → List ℕ
task_line id task = repeated (codes "task" ∷ decimal id ∷ signed_decimal task.nice ∷ decimal task.home ∷ runs_text task.mask ∷ [])

-- the lines of a header
unfoldable pub header_lines : Header → List (List ℕ)
header_lines header =
    (codes "lbhist 1" ∷ numbered cpu_line 0 header.cpus)
    ++ (map distances_line header.distances
    ++ (parts_line header.parts ∷ lanes_line header.lanes ∷ numbered task_line 0 header.tasks))

-- the text of a header
unfoldable pub header_text : Header → List ℕ
header_text header = lines_text (header_lines header)
