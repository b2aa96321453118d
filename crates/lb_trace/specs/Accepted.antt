-- What an accepted trace keeps to: the ranges of its numbers, a machine and masks without a fault, and
-- rows that name what is declared alone. What a list keeps to is a test of each item.
-- Cited by the law `accepted`, and `is_nested` and `Header::machine`; also by `lb`, `lb_act` and other crates.
use Rattle.std.specs.Prelude.{◌≡◌, ℕ, ℤ, pos, negsuc, ◌<◌, ◌≤◌, ◌^◌, ◌==◌, nat_lt, nat_le, Bool, true, false, not, ◌&&◌, ◌||◌, List, [], ◌∷◌, length, None, is_none}
use Rattle.std.specs.List.{list_all}
use Rattle.lb_base.specs.declared.mask.Mask.{Mask}
use Rattle.lb_base.specs.declared.mask.TheConstants.{MAX_CPUS}
use Rattle.lb_base.specs.Sets.{is_empty, is_below}
use Rattle.lb_levels.specs.declared.cpu_row.CpuRow.{CpuRow}
use Rattle.lb_levels.specs.Faults.{fault_of, parts_fault_of}
use Rattle.lb_trace.specs.declared.trace.TheConstants.{MAX_NODES, MAX_DISTANCE, MAX_LANES, MAX_TASKS, MAX_ROWS, MAX_MOMENT}
use Rattle.lb_trace.specs.declared.trace.Command.{Command}
use Rattle.lb_trace.specs.declared.trace.Command.TheVariants as commands
use Rattle.lb_trace.specs.declared.trace.Row.{Row}
use Rattle.lb_trace.specs.declared.trace.TaskRow.{TaskRow}
use Rattle.lb_trace.specs.declared.trace.Header.{Header}
use Rattle.lb_trace.specs.declared.trace.Trace.{Trace}
use Rattle.lb_trace.specs.Naming.{ticks_cpu}

-- ---- the header
abbrev pub is_cpu : CpuRow → Bool
is_cpu row = nat_lt row.core MAX_CPUS && nat_lt row.cache MAX_CPUS && nat_lt row.node MAX_NODES

abbrev pub is_distance : ℕ → Bool
is_distance d = nat_le 1 d && nat_le d MAX_DISTANCE

-- the mask has no CPU past the greatest that there can be
abbrev pub is_mask : Mask → Bool
is_mask mask = nat_lt mask.bits (2 ^ MAX_CPUS)

-- -20 to 19
abbrev pub is_nice_value : ℤ → Bool
is_nice_value (pos n) = nat_le n 19
is_nice_value (negsuc n) = nat_le n 19

-- a task on a machine of so many CPUs
abbrev pub is_task : ℕ → TaskRow → Bool
is_task cpus task =
    is_nice_value task.nice
    && nat_lt task.home cpus
    && not (is_empty task.mask)
    && is_below task.mask cpus
    && is_mask task.mask

pub record IsHeader (h : Header) : Type 0 where
  pub some_cpu : 1 ≤ length h.cpus
  pub most_cpus : length h.cpus ≤ MAX_CPUS
  pub cpus : list_all is_cpu h.cpus ≡ true
  pub distances : list_all (list_all is_distance) h.distances ≡ true
  pub machine : fault_of h.cpus h.distances ≡ None
  pub some_part : 1 ≤ length h.parts
  pub few_parts : length h.parts < 2 ^ 32
  pub masks : list_all is_mask h.parts ≡ true
  pub parts : parts_fault_of (length h.cpus) h.parts ≡ None
  pub some_lane : 1 ≤ h.lanes
  pub most_lanes : h.lanes ≤ MAX_LANES
  pub most_tasks : length h.tasks ≤ MAX_TASKS
  pub tasks : list_all (is_task (length h.cpus)) h.tasks ≡ true

-- ---- the rows
-- the masks part the CPUs of a machine
abbrev pub is_partition : ℕ → List Mask → Bool
is_partition cpus parts =
    nat_le 1 (length parts) && nat_lt (length parts) (2 ^ 32) && list_all is_mask parts && is_none (parts_fault_of cpus parts)

-- what the command names is declared
abbrev pub is_command : Header → Command → Bool
is_command h (commands.Wake task) = nat_lt task (length h.tasks)
is_command h (commands.Sleep task) = nat_lt task (length h.tasks)
is_command h (commands.Exit task) = nat_lt task (length h.tasks)
is_command h (commands.SetMask task mask) = nat_lt task (length h.tasks) && is_mask mask
is_command h (commands.Nice task nice) = nat_lt task (length h.tasks) && is_nice_value nice
is_command h (commands.Tick cpu) = nat_lt cpu (length h.cpus)
is_command h (commands.Rebuild parts) = is_partition (length h.cpus) parts

abbrev pub is_row : Header → Row → Bool
is_row h row = nat_lt row.lane h.lanes && nat_le row.at MAX_MOMENT && is_command h row.command

-- both rows tick the CPU
abbrev pub both_tick : Command → Command → Bool
both_tick (commands.Tick cpu) command = ticks_cpu cpu command
both_tick command other = false

-- two rows that tick one CPU are of one lane
abbrev pub agree : Row → Row → Bool
agree a b = not (both_tick a.command b.command) || (a.lane == b.lane)

abbrev pub ticks_agree : List Row → Bool
ticks_agree rows = list_all (λ a. list_all (agree a) rows) rows

pub record IsTrace (t : Trace) : Type 0 where
  pub header : IsHeader t.header
  pub most_rows : length t.rows ≤ MAX_ROWS
  pub rows : list_all (is_row t.header) t.rows ≡ true
  pub ticks : ticks_agree t.rows ≡ true
