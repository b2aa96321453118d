-- Which CPUs of a span have stopped their tick, by their published figures. A kick goes to the least
-- of them, and the turns that it starts are for all of them.
-- Cited by the contracts of `kick_target` and `turns`; also by `lb_core`, `lb_journal_rows` and other crates.
use Rattle.std.specs.Prelude.{◌&&◌, List}
use Rattle.lb_base.specs.declared.mask.Mask.{Mask}
use Rattle.lb_base.specs.declared.figure.Fig.{Fig}
use Rattle.lb_base.specs.Mask.{has}
use Rattle.lb_base.specs.Sets.{mask_where}
use Rattle.lb_base.specs.Figures.{fig_at, is_tickless}

-- the tickless CPUs of a span
unfoldable pub tickless_cpus : List Fig → Mask → Mask
tickless_cpus figs span = mask_where (λ cpu. has span cpu && is_tickless (fig_at figs cpu))
