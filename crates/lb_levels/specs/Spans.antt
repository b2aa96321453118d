-- The levels of a machine from the bottom, and the span of a CPU at a level: the CPUs that share a
-- core, a cache or a node with it, or whose nodes are within a distance of its own.
-- Cited by the laws `levels_are_few` and `spans_part_and_grow`, and `Machine::levels`, `Machine::name` and others;
-- also by `lb_domain`, `lb_journal_rows` and `lb_rows`.
use Rattle.std.specs.Prelude.{◌≡◌, ℕ, ◌+◌, ◌<◌, ◌==◌, nat_lt, Bool, true, ◌&&◌, List, ◌∷◌, length, map, filter}
use Rattle.std.specs.List.{range_with_len, slice_index_or}
use Rattle.lb_base.specs.declared.mask.Mask.{Mask}
use Rattle.lb_base.specs.declared.shape.LevelName.{LevelName}
use Rattle.lb_base.specs.declared.shape.LevelName.TheVariants.{Smt, Mc, Pkg, Numa}
use Rattle.lb_base.specs.Mask.{has, IsSubset}
use Rattle.lb_base.specs.Sets.{mask_where}
use Rattle.lb_levels.specs.declared.cpu_row.CpuRow.{CpuRow}
use Rattle.lb_levels.specs.declared.limits.TheConstants.{MAX_DISTANCE}
use Rattle.lb_levels.specs.Rows.{row_at, own_distance, is_entry, is_within}

-- some node is at distance d from another
abbrev pub is_far : List (List ℕ) → ℕ → Bool
is_far table d = nat_lt (own_distance table) d && is_entry table d

-- the levels, from the bottom
unfoldable pub levels_of : List (List ℕ) → List LevelName
levels_of table = Smt ∷ Mc ∷ Pkg ∷ map (λ d. Numa d) (filter (is_far table) (range_with_len 0 (MAX_DISTANCE + 1)))

-- the level with this number, from 0 at the bottom
abbrev pub level_at : List (List ℕ) → ℕ → LevelName
level_at table level = slice_index_or (levels_of table) level Smt

-- what the CPUs of these rows share at a level
abbrev pub shares : List (List ℕ) → LevelName → CpuRow → CpuRow → Bool
shares table Smt a b = a.core == b.core
shares table Mc a b = a.cache == b.cache
shares table Pkg a b = a.node == b.node
shares table (Numa d) a b = is_within table d a.node b.node

-- the span of a CPU at a level
unfoldable pub span_of : List CpuRow → List (List ℕ) → LevelName → ℕ → Mask
span_of cpus table level cpu =
    mask_where (λ k. nat_lt k (length cpus) && shares table level (row_at cpus cpu) (row_at cpus k))

-- the spans of all CPUs at a level
unfoldable pub spans_at : List CpuRow → List (List ℕ) → LevelName → List Mask
spans_at cpus table level = map (span_of cpus table level) (range_with_len 0 (length cpus))

-- the spans of all CPUs at every level
unfoldable pub spans_of : List CpuRow → List (List ℕ) → List (List Mask)
spans_of cpus table = map (spans_at cpus table) (levels_of table)

-- the spans of a CPU are of the machine's CPUs; at each level they part them: a CPU is in its own,
-- and the CPUs of a span have that span; and from level to level the span of a CPU grows
pub record SpansPartAndGrow (cpus : List CpuRow) (table : List (List ℕ)) : Type 0 where
  pub within : (level cpu k : ℕ) → has (span_of cpus table (level_at table level) cpu) k ≡ true → k < length cpus
  pub own : (level cpu : ℕ) → level < length (levels_of table) → cpu < length cpus
      → has (span_of cpus table (level_at table level) cpu) cpu ≡ true
  pub same : (level cpu k : ℕ) → level < length (levels_of table) → cpu < length cpus
      → has (span_of cpus table (level_at table level) cpu) k ≡ true
      → span_of cpus table (level_at table level) k ≡ span_of cpus table (level_at table level) cpu
  pub grow : (lower upper cpu : ℕ) → lower < upper → upper < length (levels_of table) → cpu < length cpus
      → IsSubset (span_of cpus table (level_at table lower) cpu) (span_of cpus table (level_at table upper) cpu)
