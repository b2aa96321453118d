-- Lines that name what they must not: an id that is not the next, a CPU, task or lane that is not
-- declared, masks that do not part the CPUs, a task's mask that gives it no CPU of the machine, and a
-- CPU that another lane ticks.
-- Cited by the contract of `Reading::has_lane`; also by `lb_generator`.
use Rattle.std.specs.Prelude.{ℕ, ◌==◌, nat_lt, Bool, false, not, ◌&&◌, ◌||◌, List, length, unwrap_or}
use Rattle.std.specs.List.{list_any, list_all}
use Rattle.lb_base.specs.declared.mask.Mask.{Mask}
use Rattle.lb_base.specs.Sets.{is_empty, is_below, are_disjoint}
use Rattle.lb_trace.specs.declared.trace.Command.{Command}
use Rattle.lb_trace.specs.declared.trace.Command.TheVariants as commands
use Rattle.lb_trace.specs.declared.trace.Row.{Row}
use Rattle.lb_trace.specs.declared.kind.LineKind.{LineKind}
use Rattle.lb_trace.specs.declared.kind.LineKind.TheVariants as kinds
use Rattle.lb_trace.specs.declared.kind.RowKind.{RowKind}
use Rattle.lb_trace.specs.declared.kind.RowKind.TheVariants as rows
use Rattle.lb_trace.specs.declared.reading.Reading.{Reading}
use Rattle.lb_trace.specs.Values.{number, list, id_in, list_at, home_in, lane_in, subject_in, masks_from}

-- the number of lanes, 0 before their line
abbrev pub lanes_of : Reading → ℕ
lanes_of r = unwrap_or r.lanes 0

-- a row's task or CPU is not declared
abbrev pub misses_subject : Reading → RowKind → ℕ → Bool
misses_subject r rows.Rebuild subject = false
misses_subject r rows.Tick cpu = not (nat_lt cpu (length r.cpus))
misses_subject r kind task = not (nat_lt task (length r.tasks))

-- an id is not the next, or a field that is one CPU, one task or one lane names one that is not declared
abbrev pub misnames : Reading → LineKind → List (List ℕ) → Bool
misnames r kinds.Cpu fields = not (number (id_in fields) == length r.cpus)
misnames r kinds.Task fields =
    not (number (id_in fields) == length r.tasks) || not (nat_lt (number (home_in fields)) (length r.cpus))
misnames r (kinds.Row kind) fields =
    not (nat_lt (number (lane_in fields)) (lanes_of r)) || misses_subject r kind (number (subject_in fields))
misnames r kind fields = false

-- a mask has an undeclared CPU
abbrev pub has_no_cpu : Reading → List Mask → Bool
has_no_cpu r masks = not (list_all (λ mask. is_below mask (length r.cpus)) masks)

abbrev pub names_no_cpu : Reading → LineKind → List (List ℕ) → Bool
names_no_cpu r kinds.Parts fields = has_no_cpu r (masks_from 1 fields)
names_no_cpu r (kinds.Row rows.Rebuild) fields = has_no_cpu r (masks_from 3 fields)
names_no_cpu r kind fields = false

-- two masks share a CPU
abbrev pub overlaps : LineKind → List (List ℕ) → Bool
overlaps kinds.Parts fields = not (are_disjoint (masks_from 1 fields))
overlaps (kinds.Row rows.Rebuild) fields = not (are_disjoint (masks_from 3 fields))
overlaps kind fields = false

-- a task's mask is empty or has an undeclared CPU
abbrev pub is_no_mask : Reading → Mask → Bool
is_no_mask r mask = is_empty mask || not (is_below mask (length r.cpus))

abbrev pub masks_badly : Reading → LineKind → List (List ℕ) → Bool
masks_badly r kinds.Task fields = is_no_mask r (list (list_at 4 fields))
masks_badly r kind fields = false

-- it is a tick of the CPU
abbrev pub ticks_cpu : ℕ → Command → Bool
ticks_cpu cpu (commands.Tick other) = other == cpu
ticks_cpu cpu command = false

-- it is a tick of the CPU by another lane
abbrev pub ticks_beside : ℕ → ℕ → Row → Bool
ticks_beside cpu lane row = ticks_cpu cpu row.command && not (row.lane == lane)

-- the CPU was ticked by another lane
unfoldable pub is_ticked_beside : List Row → ℕ → ℕ → Bool
is_ticked_beside rows cpu lane = list_any (ticks_beside cpu lane) rows

abbrev pub ticks_badly : Reading → LineKind → List (List ℕ) → Bool
ticks_badly r (kinds.Row rows.Tick) fields = is_ticked_beside r.rows (number (subject_in fields)) (number (lane_in fields))
ticks_badly r kind fields = false
