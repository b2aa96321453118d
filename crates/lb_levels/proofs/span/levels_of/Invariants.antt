-- The loops of `levels_of` of src/span.rt: the levels, from the bottom.
use Rattle.std.proofs.Common.{◌≡◌, ◌∷◌, map, filter}
use Rattle.std.specs.List.{range_with_len}
use Rattle.lb_base.specs.declared.shape.LevelName.TheVariants.{Smt, Mc, Pkg, Numa}
use Rattle.lb_levels.specs.Spans.{is_far}
use Rattle.lb_levels.proofs.span.levels_of.Given as goal

abbrev pub invariant-loop-d : goal.invariant-loop-d
invariant-loop-d l = l.names ≡ Smt ∷ Mc ∷ Pkg ∷ map (λ d. Numa d) (filter (is_far l.distances) (range_with_len 0 l.d))
