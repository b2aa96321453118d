-- The loops of `spans_at` of src/span.rt: the spans of all CPUs at a level.
use Rattle.std.proofs.Common.{◌≡◌, map}
use Rattle.std.specs.List.{range_with_len}
use Rattle.lb_levels.specs.Spans.{span_of}
use Rattle.lb_levels.proofs.span.spans_at.Given as goal

abbrev pub invariant-loop-cpu : goal.invariant-loop-cpu
invariant-loop-cpu l = l.spans ≡ map (span_of l.cpus l.distances l.level) (range_with_len 0 l.cpu)
