-- The trace that is drawn from a number: 16 CPUs in pairs that share a core, fours that share a cache and
-- eights that are a node; two nodes; four lanes; 200 tasks. Row r stands at 50,000 ns times r.
-- Cited by the contracts of `Draws::row`, `lower_cpus`, `all_cpus` and others; also by `lb`.
use Rattle.std.specs.Prelude.{ℕ, zero, suc, ◌+◌, ◌*◌, ◌/◌, ◌%◌, ◌==◌, nat_lt, if◌then◌else◌, List, [], ◌∷◌, map, pos, ◌-ℤ◌}
use Rattle.std.specs.List.{range_with_len}
use Rattle.lb_base.specs.declared.mask.Mask.{Mask}
use Rattle.lb_base.specs.Mask.{first_cpus, without}
use Rattle.lb_levels.specs.declared.cpu_row.CpuRow.{CpuRow}
use Rattle.lb_trace.specs.declared.trace.Command.{Command}
use Rattle.lb_trace.specs.declared.trace.Command.TheVariants.{Wake, Sleep, SetMask, Nice, Tick, Rebuild}
use Rattle.lb_trace.specs.declared.trace.Row.{Row}
use Rattle.lb_trace.specs.declared.trace.TaskRow.{TaskRow}
use Rattle.lb_trace.specs.declared.trace.Header.{Header}
use Rattle.lb_trace.specs.declared.trace.Trace.{Trace}
use Rattle.lb_generator.specs.Draws.{Drawn, draw, with_drawn}
use Rattle.lb_generator.specs.declared.rows.TheConstants.{CPUS, LANES, TASKS, ROW_TIME}

-- ---- the machine and its tasks
-- CPUs 0 to 7, 8 to 15, and all
abbrev pub lower_cpus : Mask
lower_cpus = first_cpus 8

abbrev pub all_cpus : Mask
all_cpus = first_cpus CPUS

abbrev pub upper_cpus : Mask
upper_cpus = without all_cpus lower_cpus

abbrev pub cpu_at : ℕ → CpuRow
cpu_at i = record { core = i / 2; cache = i / 4; node = i / 8 }

abbrev pub task_at : ℕ → TaskRow
task_at i = record { nice = pos (i % 7) -ℤ pos 3; home = i % CPUS; mask = if i % 10 == 9 then lower_cpus else all_cpus }

-- the first CPUs and the first tasks
unfoldable pub first_rows : ℕ → List CpuRow
first_rows n = map cpu_at (range_with_len 0 n)

unfoldable pub first_tasks : ℕ → List TaskRow
first_tasks n = map task_at (range_with_len 0 n)

abbrev pub distances : List (List ℕ)
distances = (10 ∷ 20 ∷ []) ∷ (20 ∷ 10 ∷ []) ∷ []

abbrev pub header : Header
header =
    record {
      cpus = first_rows CPUS;
      distances = distances;
      parts = all_cpus ∷ [];
      lanes = LANES;
      tasks = first_tasks TASKS;
    }

-- ---- what a row asks for
-- one of two partitions
unfoldable pub rebuild_drawn : ℕ → Drawn Command
rebuild_drawn x =
    with_drawn (draw 2 x) (λ n. Rebuild (if n == 0 then lower_cpus ∷ upper_cpus ∷ [] else all_cpus ∷ []))

abbrev pub mask_numbered : ℕ → Mask
mask_numbered n = if n == 0 then all_cpus else (if n == 1 then lower_cpus else upper_cpus)

-- one of three masks for a task
abbrev pub mask_for : Drawn ℕ → Drawn Command
mask_for task = with_drawn (draw 3 task.state) (λ n. SetMask task.value (mask_numbered n))

-- a nice value for a task
abbrev pub nice_for : Drawn ℕ → Drawn Command
nice_for task = with_drawn (draw 40 task.state) (λ n. Nice task.value (pos n -ℤ pos 20))

-- a change of the masks or of a nice value
abbrev pub change_for : Drawn ℕ → Drawn Command
change_for choice =
    if choice.value == 0 then rebuild_drawn choice.state
    else (if nat_lt choice.value 4 then mask_for (draw TASKS choice.state)
    else nice_for (draw TASKS choice.state))

unfoldable pub change_drawn : ℕ → Drawn Command
change_drawn x = change_for (draw 8 x)

-- a wake, a sleep, a tick or a change
abbrev pub command_for : Drawn ℕ → Drawn Command
command_for choice =
    if nat_lt choice.value 4 then with_drawn (draw TASKS choice.state) (λ task. Wake task)
    else (if nat_lt choice.value 6 then with_drawn (draw TASKS choice.state) (λ task. Sleep task)
    else (if nat_lt choice.value 9 then with_drawn (draw CPUS choice.state) (λ cpu. Tick cpu)
    else change_drawn choice.state))

unfoldable pub command_drawn : ℕ → Drawn Command
command_drawn x = command_for (draw 10 x)

-- ---- rows
-- a tick is of the lane of its CPU; other rows are of the lanes in turn
abbrev pub lane_of : ℕ → Command → ℕ
lane_of r (Tick cpu) = cpu % LANES
lane_of r command = r % LANES

abbrev pub row_with : ℕ → Command → Row
row_with r command = record { lane = lane_of r command; at = ROW_TIME * r; command = command }

-- row r
unfoldable pub row_drawn : ℕ → ℕ → Drawn Row
row_drawn r x = with_drawn (command_drawn x) (row_with r)

-- so many rows from row r on
unfoldable pub rows_from : ℕ → ℕ → ℕ → List Row
rows_from zero r x = []
rows_from (suc n) r x = (row_drawn r x).value ∷ rows_from n (r + 1) (row_drawn r x).state

-- the trace that is drawn from a number, with so many rows
abbrev pub trace_drawn : ℕ → ℕ → Trace
trace_drawn number rows = record { header = header; rows = rows_from rows 0 number }
