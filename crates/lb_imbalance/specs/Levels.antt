-- What the decision asks of a domain's level: its imbalance percentage, whether it is above the
-- shared cache, and whether the domain has siblings below it.
-- Cited by the contracts of `percent`, `above_cache` and `siblings`; also by `lb_ready`.
use Rattle.std.specs.Prelude.{ℕ, Bool, true, false, Option, Some, None}
use Rattle.lb_base.specs.declared.shape.LevelName.{LevelName}
use Rattle.lb_base.specs.declared.shape.LevelName.TheVariants.{Smt, Mc, Pkg, Numa}

-- the percentage by which loads may differ before that counts
abbrev pub percent_of : LevelName → ℕ
percent_of Smt = 110
percent_of Mc = 117
percent_of Pkg = 117
percent_of (Numa d) = 117

-- the level is above the one whose CPUs share a cache
abbrev pub is_above_cache : LevelName → Bool
is_above_cache Smt = false
is_above_cache Mc = false
is_above_cache Pkg = true
is_above_cache (Numa d) = true

-- there is a kept domain below, and it is not a NUMA one
abbrev pub has_siblings : Option LevelName → Bool
has_siblings None = false
has_siblings (Some Smt) = true
has_siblings (Some Mc) = true
has_siblings (Some Pkg) = true
has_siblings (Some (Numa d)) = false
