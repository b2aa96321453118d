-- What holds of the lines that were read so far: what an accepted trace keeps to, as far as they say it,
-- and that lines stand in their order. The contracts of Reading's functions ask for it and keep it, and lb_read's proofs cite
-- it.
-- Cited by the contracts of `Reading::dist_line`, `is_bad_distance`, `is_nested` and others; also by `lb_read`.
use Rattle.std.specs.Prelude.{◌≡◌, ℕ, ◌<◌, ◌≤◌, ◌==◌, Bool, true, false, List, [], length, take, IfSome, is_some}
use Rattle.std.specs.List.{list_all}
use Rattle.lb_base.specs.declared.mask.Mask.{Mask}
use Rattle.lb_base.specs.declared.mask.TheConstants.{MAX_CPUS}
use Rattle.lb_levels.specs.declared.cpu_row.CpuRow.{CpuRow}
use Rattle.lb_levels.specs.Rows.{row_at, distances_at, cpu_clashes, is_bad_distance, is_nested}
use Rattle.lb_levels.specs.Faults.{nodes_of}
use Rattle.lb_trace.specs.declared.trace.TheConstants.{MAX_LANES, MAX_TASKS, MAX_ROWS}
use Rattle.lb_trace.specs.declared.trace.TaskRow.{TaskRow}
use Rattle.lb_trace.specs.declared.trace.Row.{Row}
use Rattle.lb_trace.specs.declared.trace.Header.{Header}
use Rattle.lb_trace.specs.declared.reading.Reading.{Reading}
use Rattle.lb_trace.specs.Places.{is_whole}
use Rattle.lb_trace.specs.Grammar.{trace_of}
use Rattle.lb_trace.specs.Accepted.{is_cpu, is_distance, is_partition, is_task, is_row, ticks_agree}

-- a row of distances has an entry for each of so many nodes
abbrev pub has_size : ℕ → List ℕ → Bool
has_size nodes row = length row == nodes

-- the rows and the table describe a machine, if the nodes are nested
pub record StandsIfNested (cpus : List CpuRow) (table : List (List ℕ)) : Type 0 where
  pub cpus_stand : (k : ℕ) → k < length cpus → cpu_clashes (take k cpus) (row_at cpus k) ≡ false
  pub rows : length table ≡ nodes_of cpus
  pub sizes : list_all (has_size (nodes_of cpus)) table ≡ true
  pub rows_stand : (a : ℕ) → a < length table → is_bad_distance (take a table) (distances_at table a) ≡ false

-- the CPUs and the distances so far
pub record IsSoundMachine (rows : List CpuRow) (table : List (List ℕ)) : Type 0 where
  pub most_cpus : length rows ≤ MAX_CPUS
  pub cpus : list_all is_cpu rows ≡ true
  pub cpus_stand : (k : ℕ) → k < length rows → cpu_clashes (take k rows) (row_at rows k) ≡ false
  pub most_distances : length table ≤ nodes_of rows
  pub sizes : list_all (has_size (nodes_of rows)) table ≡ true
  pub distances : list_all (list_all is_distance) table ≡ true
  pub rows_stand : (a : ℕ) → a < length table → is_bad_distance (take a table) (distances_at table a) ≡ false
  pub nested : length table ≡ nodes_of rows → is_nested table ≡ true

-- the number of lanes, on a whole machine
pub record AreLanes (cpus : List CpuRow) (table : List (List ℕ)) (lanes : ℕ) : Type 0 where
  pub some : 1 ≤ lanes
  pub most : lanes ≤ MAX_LANES
  pub machine : is_whole cpus table ≡ true

-- partition masks, on a whole machine
pub record AreParts (cpus : List CpuRow) (table : List (List ℕ)) (parts : List Mask) : Type 0 where
  pub partition : is_partition (length cpus) parts ≡ true
  pub machine : is_whole cpus table ≡ true

-- tasks of a machine of so many CPUs; there is none before the number of lanes
pub record AreTasks (cpus : ℕ) (after_lanes : Bool) (tasks : List TaskRow) : Type 0 where
  pub none : after_lanes ≡ false → tasks ≡ []
  pub most : length tasks ≤ MAX_TASKS
  pub all : list_all (is_task cpus) tasks ≡ true

-- rows under a header; there is none before the number of lanes
pub record AreRows (h : Header) (after_lanes : Bool) (rows : List Row) : Type 0 where
  pub none : after_lanes ≡ false → rows ≡ []
  pub most : length rows ≤ MAX_ROWS
  pub all : list_all (is_row h) rows ≡ true
  pub ticks : ticks_agree rows ≡ true

pub record IsSound (r : Reading) : Type 0 where
  pub machine : IsSoundMachine r.cpus r.distances
  pub parts : IfSome r.parts (AreParts r.cpus r.distances)
  pub lanes : IfSome r.lanes (AreLanes r.cpus r.distances)
  pub tasks : AreTasks (length r.cpus) (is_some r.lanes) r.tasks
  pub rows : AreRows (trace_of r).header (is_some r.lanes) r.rows
