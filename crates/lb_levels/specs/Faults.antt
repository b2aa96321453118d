-- What keeps the rows of CPUs and the table of distances from being a machine, and what keeps masks
-- from parting its CPUs: the first fault that there is, and where it is.
-- Cited by the laws `a_machine_has_no_fault`, `a_partition_has_no_fault`, `levels_are_few` and `spans_part_and_grow`,
-- and `Machine::read`, `Machine::cpus` and others; also by `lb_cpu`, `lb_domain` and other crates.
use Rattle.std.specs.Prelude.{◌≡◌, ℕ, ◌+◌, ◌<◌, ◌≤◌, ◌==◌, nat_le, max, Bool, true, false, not, ◌||◌, Option, Some, None, is_some, option_and_then, List, [], ◌∷◌, length, take, find}
use Rattle.std.specs.List.{range_with_len, slice_index_or, list_all}
use Rattle.std.specs.Option.{option_map}
use Rattle.lb_base.specs.declared.mask.Mask.{Mask}
use Rattle.lb_base.specs.declared.mask.TheConstants.{MAX_CPUS}
use Rattle.lb_base.specs.Mask.{no_cpus}
use Rattle.lb_base.specs.Sets.{is_below, are_apart, are_disjoint}
use Rattle.lb_levels.specs.declared.cpu_row.CpuRow.{CpuRow}
use Rattle.lb_levels.specs.declared.faults.MachineError.{MachineError}
use Rattle.lb_levels.specs.declared.faults.MachineError.TheVariants.{BadCpu, BadDistance, NotNested}
use Rattle.lb_levels.specs.declared.faults.PartsFault.{PartsFault}
use Rattle.lb_levels.specs.declared.faults.PartsFault.TheVariants.{NoSuchCpu, Overlap}
use Rattle.lb_levels.specs.Rows.{row_at, distances_at, cpu_clashes, is_bad_distance, is_nested, first_not_nested, IsSquare}

-- the first of two faults, where there is one
abbrev pub or_else : {F : Type 0} → Option F → Option F → Option F
or_else (Some fault) other = Some fault
or_else None other = other

-- how many nodes there are: 0 to the greatest that a CPU names
abbrev pub nodes_of : List CpuRow → ℕ
nodes_of [] = 0
nodes_of (row ∷ rows) = max (row.node + 1) (nodes_of rows)

-- the first CPU that cannot stand beside those before it
unfoldable pub first_clash : List CpuRow → Option ℕ
first_clash cpus = find (λ k. cpu_clashes (take k cpus) (row_at cpus k)) (range_with_len 0 (length cpus))

-- the table has no row for node a, or there is no such node, or its row has not one entry a node
abbrev pub is_misfit : ℕ → List (List ℕ) → ℕ → Bool
is_misfit nodes table a = nat_le nodes a || not (length (distances_at table a) == nodes)

-- the first such row
unfoldable pub first_misfit : ℕ → List (List ℕ) → Option ℕ
first_misfit nodes table = find (is_misfit nodes table) (range_with_len 0 (max nodes (length table)))

-- the first row that cannot stand below those before it
unfoldable pub first_bad_row : List (List ℕ) → Option ℕ
first_bad_row table = find (λ a. is_bad_distance (take a table) (distances_at table a)) (range_with_len 0 (length table))

-- the first fault of the rows and the table
unfoldable pub fault_of : List CpuRow → List (List ℕ) → Option MachineError
fault_of cpus table =
    or_else (option_map (λ cpu. BadCpu cpu) (first_clash cpus))
    (or_else (option_map (λ row. BadDistance row) (first_misfit (nodes_of cpus) table))
    (or_else (option_map (λ row. BadDistance row) (first_bad_row table))
    (option_map (λ distance. NotNested distance) (first_not_nested table))))

-- the mask of a part
abbrev pub part_at : List Mask → ℕ → Mask
part_at parts i = slice_index_or parts i no_cpus

-- the first mask that has a CPU past the machine
unfoldable pub first_past : ℕ → List Mask → Option ℕ
first_past cpus parts = find (λ i. not (is_below (part_at parts i) cpus)) (range_with_len 0 (length parts))

-- the first mask before this one that shares a CPU with it
unfoldable pub first_sharing : List Mask → ℕ → Option ℕ
first_sharing parts second = find (λ i. not (are_apart (part_at parts i) (part_at parts second))) (range_with_len 0 second)

-- the first mask that shares a CPU with one before it, and the first of those
unfoldable pub first_overlap : List Mask → Option PartsFault
first_overlap parts =
    option_and_then (λ second. option_map (λ first. Overlap first second) (first_sharing parts second))
    (find (λ second. is_some (first_sharing parts second)) (range_with_len 0 (length parts)))

-- the first fault of the masks
unfoldable pub parts_fault_of : ℕ → List Mask → Option PartsFault
parts_fault_of cpus parts = or_else (option_map (λ part. NoSuchCpu part) (first_past cpus parts)) (first_overlap parts)

-- the rows and the table describe a machine: each line can stand after those before it, the table
-- has a row and an entry for each node, and the nodes are nested
pub record IsMachine (cpus : List CpuRow) (table : List (List ℕ)) : Type 0 where
  pub cpus_stand : (k : ℕ) → k < length cpus → cpu_clashes (take k cpus) (row_at cpus k) ≡ false
  pub rows : length table ≡ nodes_of cpus
  pub square : IsSquare table
  pub rows_stand : (a : ℕ) → a < length table → is_bad_distance (take a table) (distances_at table a) ≡ false
  pub nested : is_nested table ≡ true

-- a machine can be read of the rows and the table: there is a CPU and not too many, and no fault
pub record CanBeRead (cpus : List CpuRow) (table : List (List ℕ)) : Type 0 where
  pub some : 0 < length cpus
  pub few : length cpus ≤ MAX_CPUS
  pub good : fault_of cpus table ≡ None

-- the masks part a machine's CPUs: each has CPUs of the machine alone, and no two share one
pub record ArePartition (cpus : ℕ) (parts : List Mask) : Type 0 where
  pub below : list_all (λ part. is_below part cpus) parts ≡ true
  pub apart : are_disjoint parts ≡ true
