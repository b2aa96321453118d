-- Lines that no machine has: a CPU that shares with an earlier one a core and not all above it, or a
-- cache and not the node; distances that cannot stand below those of earlier nodes; and, at the last
-- node, nodes that are not nested.
-- For the definitions of `Tests`, and so for the laws `first_bad` and `accepted`.
use Rattle.std.specs.Prelude.{ℕ, ◌==◌, Bool, false, not, ◌&&◌, List, [], ◌∷◌, ◌++◌, length}
use Rattle.lb_levels.specs.Rows.{cpu_clashes, is_bad_distance, is_nested}
use Rattle.lb_levels.specs.Faults.{nodes_of}
use Rattle.lb_trace.specs.declared.kind.LineKind.{LineKind}
use Rattle.lb_trace.specs.declared.kind.LineKind.TheVariants as kinds
use Rattle.lb_trace.specs.declared.reading.Reading.{Reading}
use Rattle.lb_trace.specs.Values.{cpu_of, distances_in}

abbrev pub clashes_above : Reading → LineKind → List (List ℕ) → Bool
clashes_above r kinds.Cpu fields = cpu_clashes r.cpus (cpu_of fields)
clashes_above r kind fields = false

abbrev pub misplaces : Reading → LineKind → List (List ℕ) → Bool
misplaces r kinds.Dist fields = is_bad_distance r.distances (distances_in fields)
misplaces r kind fields = false

-- the table with a row more, where that is the last one, is not nested
abbrev pub ends_not_nested : ℕ → List (List ℕ) → Bool
ends_not_nested nodes table = length table == nodes && not (is_nested table)

abbrev pub is_not_nested : Reading → LineKind → List (List ℕ) → Bool
is_not_nested r kinds.Dist fields = ends_not_nested (nodes_of r.cpus) (r.distances ++ distances_in fields ∷ [])
is_not_nested r kind fields = false
