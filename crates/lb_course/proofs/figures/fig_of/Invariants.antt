-- The loops of `fig_of` of src/figures.rt: the figure of a CPU among those that were read.
use Rattle.std.proofs.Common.{◌≡◌, ◌==◌, drop, find}
use Rattle.lb_course.proofs.figures.fig_of.Given as goal

abbrev pub invariant-loop-figure : goal.invariant-loop-figure
invariant-loop-figure l = find (λ f. f.cpu == l.cpu) l.figures ≡ find (λ f. f.cpu == l.cpu) (drop l.figure-index l.figures)
