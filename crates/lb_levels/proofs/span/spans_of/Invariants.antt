-- The loops of `spans_of` of src/span.rt: the spans of all CPUs at each of these levels.
use Rattle.std.proofs.Common.{◌≡◌, map, take}
use Rattle.lb_levels.specs.Spans.{spans_at}
use Rattle.lb_levels.proofs.span.spans_of.Given as goal

abbrev pub invariant-loop-level : goal.invariant-loop-level
invariant-loop-level l = l.spans ≡ map (spans_at l.cpus l.distances) (take l.level-index l.levels)
