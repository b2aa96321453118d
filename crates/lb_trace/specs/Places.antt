-- Where a kind of line can stand: what must and must not have been read before it, and how many fields
-- it has there. The lines stand in the order version, `cpu`, `dist`, `parts`, `lanes`, `task`, rows.
-- Cited by the contracts of `Reading::dist_line`, `row_has_fields`, `Reading::has_machine` and others; also by
-- `lb_generator` and `lb_read`.
use Rattle.std.specs.Prelude.{ℕ, ◌+◌, ◌==◌, nat_lt, nat_le, Bool, false, not, ◌&&◌, List, length, is_some, is_none}
use Rattle.lb_base.specs.declared.mask.TheConstants.{MAX_CPUS}
use Rattle.lb_levels.specs.declared.cpu_row.CpuRow.{CpuRow}
use Rattle.lb_levels.specs.Faults.{nodes_of}
use Rattle.lb_trace.specs.declared.trace.TheConstants.{MAX_TASKS, MAX_ROWS}
use Rattle.lb_trace.specs.declared.kind.LineKind.{LineKind}
use Rattle.lb_trace.specs.declared.kind.LineKind.TheVariants as kinds
use Rattle.lb_trace.specs.declared.kind.RowKind.{RowKind}
use Rattle.lb_trace.specs.declared.kind.RowKind.TheVariants as rows
use Rattle.lb_trace.specs.declared.reading.Reading.{Reading}

-- the next line is the first
abbrev pub is_first : Reading → Bool
is_first r = r.line == 1

-- there are CPUs, and a row of distances for each of their nodes
abbrev pub is_whole : List CpuRow → List (List ℕ) → Bool
is_whole cpus table = not (length cpus == 0) && length table == nodes_of cpus

abbrev pub has_machine : Reading → Bool
has_machine r = is_whole r.cpus r.distances

-- a line of this kind can stand here
abbrev pub can_stand : Reading → LineKind → Bool
can_stand r kinds.Version = is_first r
can_stand r kinds.Cpu = length r.distances == 0 && nat_lt (length r.cpus) MAX_CPUS
can_stand r kinds.Dist = nat_lt (length r.distances) (nodes_of r.cpus)
can_stand r kinds.Parts = has_machine r && is_none r.lanes && is_none r.parts
can_stand r kinds.Lanes = has_machine r && is_none r.lanes
can_stand r kinds.Task = is_some r.lanes && length r.rows == 0 && nat_lt (length r.tasks) MAX_TASKS
can_stand r (kinds.Row kind) = is_some r.lanes

-- it is a row, and the most rows were read
abbrev pub is_past_rows : Reading → LineKind → Bool
is_past_rows r (kinds.Row kind) = nat_le MAX_ROWS (length r.rows)
is_past_rows r kind = false

-- a row of this kind has so many fields
abbrev pub row_has_fields : RowKind → ℕ → Bool
row_has_fields rows.Mask n = n == 5
row_has_fields rows.Nice n = n == 5
row_has_fields rows.Rebuild n = nat_le 4 n
row_has_fields kind n = n == 4

-- a line of this kind has so many fields, the kind's own word among them
abbrev pub has_fields : Reading → LineKind → ℕ → Bool
has_fields r kinds.Version n = n == 2
has_fields r kinds.Cpu n = n == 5
has_fields r kinds.Dist n = n == nodes_of r.cpus + 1
has_fields r kinds.Parts n = nat_le 2 n
has_fields r kinds.Lanes n = n == 2
has_fields r kinds.Task n = n == 5
has_fields r (kinds.Row kind) n = row_has_fields kind n
