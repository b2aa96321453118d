-- The levels counted as the code counts them: step 0 are the single CPUs, and each step above it is
-- a level, from the bottom. Which CPUs come first in their spans is kept for all parts at once, each
-- CPU within its own part.
-- Cited by the contracts of `topology_of`, `step_span`, `all_leaders` and others.
use Rattle.std.specs.Prelude.{◌≡◌, ℕ, zero, suc, ◌<◌, ◌≤◌, nat_lt, Bool, true, false, ◌&&◌, Option, Some, None, List, length, map}
use Rattle.std.specs.List.{range_with_len, slice_index_or}
use Rattle.lb_base.specs.declared.mask.Mask.{Mask}
use Rattle.lb_base.specs.Mask.{has, no_cpus, only}
use Rattle.lb_base.specs.Sets.{least}
use Rattle.lb_levels.specs.declared.cpu_row.CpuRow.{CpuRow}
use Rattle.lb_levels.specs.declared.limits.TheConstants.{MAX_LEVELS}
use Rattle.lb_levels.specs.Spans.{levels_of, level_at}
use Rattle.lb_domain.specs.Domains.{part_of, cut_span, is_first}

-- the span of a CPU at a step, within its part
abbrev pub step_span : List CpuRow → List (List ℕ) → Mask → ℕ → ℕ → Mask
step_span cpus table part zero cpu = only cpu
step_span cpus table part (suc level) cpu = cut_span cpus table part (level_at table level) cpu

-- the CPU has a part, and is the first of its span there
abbrev pub leads : List CpuRow → List (List ℕ) → Option Mask → ℕ → ℕ → Bool
leads cpus table None step cpu = false
leads cpus table (Some part) step cpu = is_first (least (step_span cpus table part step cpu)) cpu

-- the part of each CPU below n
unfoldable pub own_parts : ℕ → List Mask → List (Option Mask)
own_parts n parts = map (part_of parts) (range_with_len 0 n)

-- for each step below the uppermost level, the CPUs that lead
pub record AreLeaders (cpus : List CpuRow) (table : List (List ℕ)) (own : List (Option Mask)) (leaders : List Mask) : Type 0 where
  pub steps : length leaders ≡ length (levels_of table)
  pub few : length leaders ≤ MAX_LEVELS
  pub lead : (step : ℕ) → step < length leaders → (k : ℕ)
      → has (slice_index_or leaders step no_cpus) k ≡ (nat_lt k (length own) && leads cpus table (slice_index_or own k None) step k)

-- for each of these steps, the CPUs of the part that lead within it
pub record LeadWithin (cpus : List CpuRow) (table : List (List ℕ)) (part : Mask) (leaders : List Mask) : Type 0 where
  pub steps : length leaders ≡ length (levels_of table)
  pub lead : (step : ℕ) → step < length leaders → (k : ℕ) → k < length cpus → has part k ≡ true
      → has (slice_index_or leaders step no_cpus) k ≡ is_first (least (step_span cpus table part step k)) k
