-- The figures of the CPUs of a mask: the figure of one CPU, whether it is tickless, and the total of
-- a number over all of them.
-- Cited by `lb_busiest`, `lb_core` and other crates.
use Rattle.std.specs.Prelude.{ℕ, ◌≡◌, ◌<◌, ◌==◌, Bool, true, List, length, sum_by}
use Rattle.std.specs.Int.{bit_at}
use Rattle.std.specs.List.{slice_index_or}
use Rattle.lb_base.specs.declared.mask.Mask.{Mask}
use Rattle.lb_base.specs.declared.figure.Fig.{Fig}
use Rattle.lb_base.specs.Mask.{has, members}

-- stands where a CPU has no figure
abbrev pub no_fig : Fig
no_fig = record { n = 0; ticket = 0; nr = 0; load = 0; util = 0; runnable = 0; flags = 0 }

-- the figure of a CPU; `figs` has one for each CPU, from CPU 0
abbrev pub fig_at : List Fig → ℕ → Fig
fig_at figs cpu = slice_index_or figs cpu no_fig

-- whether a figure has the tickless flag
unfoldable pub is_tickless : Fig → Bool
is_tickless fig = bit_at fig.flags 0 == 1

-- the total of a number over the CPUs of a mask
unfoldable pub total : (Fig → ℕ) → List Fig → Mask → ℕ
total f figs group = sum_by (λ cpu. f (fig_at figs cpu)) (members group)

-- each CPU of the mask has a figure
abbrev pub AllHaveFigures : List Fig → Mask → Type 0
AllHaveFigures figs group = (cpu : ℕ) → has group cpu ≡ true → cpu < length figs
