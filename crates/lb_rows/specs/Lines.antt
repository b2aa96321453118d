-- Short forms for what a history is written with: its machine, its tasks, and its entries by their
-- owners.
-- Cited by the contracts of `one_task_moves`, `one_task_stays`, `newly_idle` and others; also by `lb_journal_rows`.
use Rattle.std.specs.Prelude.{ℕ, ℤ, Option, Some, List, [], ◌∷◌}
use Rattle.lb_base.specs.declared.mask.Mask.{Mask}
use Rattle.lb_base.specs.Mask.{first_cpus}
use Rattle.lb_levels.specs.declared.cpu_row.CpuRow.{CpuRow}
use Rattle.lb_trace.specs.declared.trace.Header.{Header}
use Rattle.lb_trace.specs.declared.trace.TaskRow.{TaskRow}
use Rattle.lb_core.specs.declared.entry.Entry.{Entry}
use Rattle.lb_core.specs.declared.entry.FigName.{FigName}
use Rattle.lb_core.specs.declared.entry.Owner.TheVariants.{Publisher, Lane, Queue}
use Rattle.lb_core.specs.declared.entry.What.{What}
use Rattle.lb_core.specs.declared.rule.Rule.{Rule}
use Rattle.lb_core.specs.declared.history.History.{History}
use Rattle.lb_core.specs.Legal.{Fault, first_fault}

-- the mask with these bits
abbrev pub cpus : ℕ → Mask
cpus bits = record { bits = bits }

-- a CPU of a core, a cache and a node
abbrev pub cpu : ℕ → ℕ → ℕ → CpuRow
cpu core cache node = record { core = core; cache = cache; node = node }

-- a task with a nice value, a home and the bits of its mask
abbrev pub task : ℤ → ℕ → ℕ → TaskRow
task nice home bits = record { nice = nice; home = home; mask = cpus bits }

-- one CPU
abbrev pub one_cpu : ℕ → List TaskRow → Header
one_cpu lanes tasks = record { cpus = cpu 0 0 0 ∷ []; distances = (10 ∷ []) ∷ []; parts = cpus 1 ∷ []; lanes = lanes; tasks = tasks }

-- two CPUs of one cache
abbrev pub two_cpus : ℕ → List TaskRow → Header
two_cpus lanes tasks = record {
  cpus = cpu 0 0 0 ∷ cpu 1 0 0 ∷ [];
  distances = (10 ∷ []) ∷ [];
  parts = cpus 3 ∷ [];
  lanes = lanes;
  tasks = tasks;
}

-- three CPUs of one cache
abbrev pub three_cpus : ℕ → List TaskRow → Header
three_cpus lanes tasks = record {
  cpus = cpu 0 0 0 ∷ cpu 1 0 0 ∷ cpu 2 0 0 ∷ [];
  distances = (10 ∷ []) ∷ [];
  parts = cpus 7 ∷ [];
  lanes = lanes;
  tasks = tasks;
}

-- four CPUs on two nodes, the first two of one core
abbrev pub four_cpus : ℕ → List TaskRow → Header
four_cpus lanes tasks = record {
  cpus = cpu 0 0 0 ∷ cpu 0 0 0 ∷ cpu 1 1 1 ∷ cpu 2 1 1 ∷ [];
  distances = (10 ∷ 20 ∷ []) ∷ (20 ∷ 10 ∷ []) ∷ [];
  parts = cpus 15 ∷ [];
  lanes = lanes;
  tasks = tasks;
}

-- an entry of a lane, with the lane's previous ticket
abbrev pub by_lane : ℕ → ℕ → What → Entry
by_lane lane prev what = record { owner = Lane lane; lane = lane; prev = prev; what = what }

-- an entry of a queue, drawn by a lane
abbrev pub at_queue : ℕ → ℕ → ℕ → What → Entry
at_queue cpu lane prev what = record { owner = Queue cpu; lane = lane; prev = prev; what = what }

-- an entry of the publisher, drawn by a lane
abbrev pub by_publisher : ℕ → ℕ → What → Entry
by_publisher lane prev what = record { owner = Publisher; lane = lane; prev = prev; what = what }

-- the n-th figure of a CPU
abbrev pub figure_name : ℕ → ℕ → FigName
figure_name cpu n = record { cpu = cpu; n = n }

-- the first fault of a history
abbrev pub fault_of : History → Option Fault
fault_of history = first_fault history.header history.entries

-- this rule is broken first, at this ticket
abbrev pub fault_at : ℕ → Rule → Option Fault
fault_at ticket rule = Some (record { ticket = ticket; rule = rule })
