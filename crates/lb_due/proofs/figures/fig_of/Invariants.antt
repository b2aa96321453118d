-- The loops of `fig_of` of src/figures.rt: the figure of a CPU among those that are named.
use Rattle.std.proofs.Common.{◌≡◌, ◌==◌, find, drop}
use Rattle.lb_core.specs.Machine.{figures_named}
use Rattle.lb_due.proofs.figures.fig_of.Given as goal

abbrev pub invariant-loop-name : goal.invariant-loop-name
invariant-loop-name l = find (λ f. f.cpu == l.cpu) (figures_named l.engine.machine.figures l.names) ≡ find
    (λ f. f.cpu == l.cpu) (figures_named l.engine.machine.figures (drop l.name-index l.names))
