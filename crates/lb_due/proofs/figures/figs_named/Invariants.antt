-- The loops of `figs_named` of src/figures.rt: the named figures, one for each CPU, from CPU 0. A CPU that is
-- not named has none.
use Rattle.std.proofs.Common.{ℕ, ◌≡◌, ◌==◌, length, take, map, find}
use Rattle.std.specs.List.{range_with_len}
use Rattle.lb_base.specs.declared.mask.TheConstants.{MAX_CPUS}
use Rattle.lb_core.specs.Sight.{fig_or_none}
use Rattle.lb_core.specs.Machine.{figures_named}
use Rattle.lb_due.proofs.figures.figs_named.Given as goal

abbrev pub invariant-loop-cpu : goal.invariant-loop-cpu
invariant-loop-cpu l = record {
  room : length l.figs ≡ MAX_CPUS;
  so_far : take l.cpu l.figs ≡ map (λ (cpu : ℕ). fig_or_none
      (find (λ f. f.cpu == cpu) (figures_named l.engine.machine.figures l.names))) (range_with_len 0 l.cpu);
}
