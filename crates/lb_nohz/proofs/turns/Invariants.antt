-- The loops of `turns` of src/lib.rt: the CPUs for which a kick starts a turn: those of `span` whose figure
-- has the tickless flag.
use Rattle.std.proofs.Common.{◌≡◌, ℕ, nat_lt, ◌&&◌}
use Rattle.lb_base.specs.Mask.{has}
use Rattle.lb_base.specs.Figures.{fig_at, is_tickless}
use Rattle.lb_nohz.proofs.turns.Given as goal

abbrev pub invariant-loop-cpu : goal.invariant-loop-cpu
invariant-loop-cpu l = (k : ℕ) → has l.found k ≡ (nat_lt k l.cpu && (has l.span k && is_tickless (fig_at l.figs k)))
