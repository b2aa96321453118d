-- The loops of `by_cpu` of src/figures.rt: the figures that were read, one for each CPU, from CPU 0. A CPU of
-- which none was read has none.
use Rattle.std.proofs.Common.{ℕ, ◌≡◌, ◌==◌, length, take, map, find}
use Rattle.std.specs.List.{range_with_len}
use Rattle.lb_base.specs.declared.mask.TheConstants.{MAX_CPUS}
use Rattle.lb_core.specs.Sight.{fig_or_none}
use Rattle.lb_course.proofs.figures.by_cpu.Given as goal

abbrev pub invariant-loop-cpu : goal.invariant-loop-cpu
invariant-loop-cpu l = record {
  room : length l.figs ≡ MAX_CPUS;
  so_far : take l.cpu l.figs ≡ map (λ (cpu : ℕ). fig_or_none (find (λ f. f.cpu == cpu) l.figures)) (range_with_len 0 l.cpu);
}
