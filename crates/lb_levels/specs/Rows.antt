-- When the rows of CPUs and the table of distances describe a machine: which CPU cannot stand
-- beside those before it, which row of distances cannot stand below those before it, and at which
-- distance the nodes are not nested.
-- Cited by the law `levels_are_few`, and `Machine::read`, `first_clash` and others; also by `lb_cpu`, `lb_domain` and
-- other crates.
use Rattle.std.specs.Prelude.{◌≡◌, ℕ, ◌+◌, ◌<◌, ◌==◌, nat_lt, nat_le, Bool, not, ◌&&◌, ◌||◌, Option, is_none, List, [], ◌∷◌, ◌++◌, length, filter, find}
use Rattle.std.specs.List.{range_with_len, slice_index_or, list_any, list_all}
use Rattle.lb_levels.specs.declared.cpu_row.CpuRow.{CpuRow}
use Rattle.lb_levels.specs.declared.limits.TheConstants.{MAX_NODES, MAX_DISTANCE}

-- the rows of a machine's CPUs, and the distances between its nodes
pub record Layout : Type 0 where
  pub cpus : List CpuRow
  pub distances : List (List ℕ)

abbrev pub layout_of : List CpuRow → List (List ℕ) → Layout
layout_of cpus distances = record { cpus = cpus; distances = distances }

-- nodes are numbered below so many as there can be
abbrev pub nodes_in_range : List CpuRow → Bool
nodes_in_range cpus = list_all (λ row. nat_lt row.node MAX_NODES) cpus

-- no distance is above the greatest that there can be
abbrev pub distances_in_range : List (List ℕ) → Bool
distances_in_range table = list_all (λ row. list_all (λ d. nat_lt d (MAX_DISTANCE + 1)) row) table

-- stands where a CPU has no row
abbrev pub no_row : CpuRow
no_row = record { core = 0; cache = 0; node = 0 }

-- the row of a CPU
abbrev pub row_at : List CpuRow → ℕ → CpuRow
row_at cpus cpu = slice_index_or cpus cpu no_row

-- the two CPUs share a core and not all above it, or a cache and not the node
abbrev pub clashes : CpuRow → CpuRow → Bool
clashes a b =
    (a.core == b.core && not (a.cache == b.cache && a.node == b.node))
    || (a.cache == b.cache && not (a.node == b.node))

-- the row of the next CPU cannot stand beside those before it
unfoldable pub cpu_clashes : List CpuRow → CpuRow → Bool
cpu_clashes earlier row = list_any (λ other. clashes other row) earlier

-- the distances of node a
abbrev pub distances_at : List (List ℕ) → ℕ → List ℕ
distances_at table a = slice_index_or table a []

-- the distance from node a to node b
abbrev pub distance : List (List ℕ) → ℕ → ℕ → ℕ
distance table a b = slice_index_or (distances_at table a) b 0

-- the distance of each node from itself
abbrev pub own_distance : List (List ℕ) → ℕ
own_distance table = distance table 0 0

-- in a table whose last row is that of node a, its entry for node b cannot stand there: its own is
-- not the first row's own, another is not greater than that, or an earlier node has another distance
-- from this one
abbrev pub is_bad_entry : List (List ℕ) → ℕ → ℕ → Bool
is_bad_entry table a b =
    (b == a && not (distance table a a == own_distance table))
    || (not (b == a) && nat_le (distance table a b) (own_distance table))
    || (nat_lt b a && not (distance table a b == distance table b a))

-- the row of the next node cannot stand below those before it
unfoldable pub is_bad_distance : List (List ℕ) → List ℕ → Bool
is_bad_distance earlier row =
    list_any (is_bad_entry (earlier ++ row ∷ []) (length earlier)) (range_with_len 0 (length row))

-- some node is at distance d from some node
abbrev pub is_entry : List (List ℕ) → ℕ → Bool
is_entry table d = list_any (λ row. list_any (λ e. e == d) row) table

-- the distances of the table, rising
unfoldable pub distances_of : List (List ℕ) → List ℕ
distances_of table = filter (is_entry table) (range_with_len 0 (MAX_DISTANCE + 1))

-- node b is within distance d of node a
abbrev pub is_within : List (List ℕ) → ℕ → ℕ → ℕ → Bool
is_within table d a b = nat_le (distance table a b) d

-- each node within distance d of a is within it of b
unfoldable pub is_inside : List (List ℕ) → ℕ → ℕ → ℕ → Bool
is_inside table d a b =
    list_all (λ k. not (is_within table d a k) || is_within table d b k) (range_with_len 0 (length table))

-- no node is within distance d of a and of b
unfoldable pub is_apart : List (List ℕ) → ℕ → ℕ → ℕ → Bool
is_apart table d a b =
    list_all (λ k. not (is_within table d a k && is_within table d b k)) (range_with_len 0 (length table))

-- the nodes within distance d of a are those within it of b, or no node is among both
abbrev pub are_nested : List (List ℕ) → ℕ → ℕ → ℕ → Bool
are_nested table d a b = (is_inside table d a b && is_inside table d b a) || is_apart table d a b

-- so for each two nodes
unfoldable pub is_nested_at : List (List ℕ) → ℕ → Bool
is_nested_at table d =
    list_all (λ a. list_all (are_nested table d a) (range_with_len 0 (length table))) (range_with_len 0 (length table))

-- the least distance at which the nodes are not nested
unfoldable pub first_not_nested : List (List ℕ) → Option ℕ
first_not_nested table = find (λ d. not (is_nested_at table d)) (distances_of table)

-- the nodes are nested at each distance
abbrev pub is_nested : List (List ℕ) → Bool
is_nested table = is_none (first_not_nested table)

-- each node has as many distances as there are nodes
abbrev pub IsSquare : List (List ℕ) → Type 0
IsSquare table = (a : ℕ) → a < length table → length (distances_at table a) ≡ length table

-- each CPU is of a node that the table has
abbrev pub AllHaveNodes : List CpuRow → List (List ℕ) → Type 0
AllHaveNodes cpus table = (cpu : ℕ) → cpu < length cpus → (row_at cpus cpu).node < length table
