-- Laws of the drawn traces: their texts are accepted, and their moments stay below five seconds.
-- Cited by the laws `are_accepted` and `moments_are_small`.
use Rattle.std.specs.Prelude.{◌≡◌, ℕ, ◌≤◌, true, nat_lt, Ok}
use Rattle.std.specs.List.{list_all}
use Rattle.lb_trace.specs.declared.trace.TheConstants.{MAX_ROWS}
use Rattle.lb_trace.specs.Grammar.{reading_of}
use Rattle.lb_generator.specs.Generator.{trace_drawn}
use Rattle.lb_generator.specs.Text.{text_drawn}

-- the text reads as the trace
abbrev pub AreAccepted : Type 0
AreAccepted = (number rows : ℕ) → rows ≤ MAX_ROWS → reading_of (text_drawn number rows) ≡ Ok (trace_drawn number rows)

-- each moment is below 5,000,000,000 ns
abbrev pub MomentsAreSmall : Type 0
MomentsAreSmall = (number rows : ℕ) → rows ≤ MAX_ROWS
    → list_all (λ row. nat_lt row.at 5000000000) (trace_drawn number rows).rows ≡ true
