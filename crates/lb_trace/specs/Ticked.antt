-- Which lane ticked each CPU, as it is kept beside the rows that were read.
-- Cited by the contracts of `Reading::take_line`, `Reading::tick_line`, `none_ticked` and others.
use Rattle.std.specs.Prelude.{◌≡◌, ℕ, ◌<◌, ◌==◌, Bool, false, not, Option, Some, None, List, length}
use Rattle.std.specs.List.{slice_index_or}
use Rattle.lb_trace.specs.declared.trace.Row.{Row}
use Rattle.lb_trace.specs.Naming.{is_ticked_beside}

-- a lane ticked, and it is another than this one
abbrev pub is_other : Option ℕ → ℕ → Bool
is_other None lane = false
is_other (Some ticking) lane = not (ticking == lane)

-- for each CPU the lane that ticked it, where one did
abbrev pub AreTicked : List Row → List (Option ℕ) → Type 0
AreTicked rows ticked =
    (cpu lane : ℕ) → cpu < length ticked → is_ticked_beside rows cpu lane ≡ is_other (slice_index_or ticked cpu None) lane
