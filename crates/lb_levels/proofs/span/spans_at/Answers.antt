-- For `spans_at` of src/span.rt: the spans of all CPUs at a level.
use Rattle.std.proofs.Common.{◌≡◌, ℕ, length, map, ◌∙◌, ap, arith}
use Rattle.std.specs.List.{range_with_len}
use Rattle.lb_levels.specs.Spans.{span_of, spans_at}
use Rattle.lb_base.proofs.Ranges.{map_range_more}
use Rattle.lb_levels.proofs.span.spans_at.Goals as goal

pub loop-cpu-preserved : goal.loop-cpu-preserved
loop-cpu-preserved c = grind (arith, map_range_more (span_of c.args.cpus.now c.args.distances.now c.args.level) c.loop-cpu.cpu)

pub returns : goal.returns
unfolding spans_at
returns c =
    let all : c.loop-cpu.cpu ≡ length c.args.cpus.now = omega arith in
    c.loop-cpu.invariant ∙ ap (λ (n : ℕ). map (span_of c.args.cpus.now c.args.distances.now c.args.level)
    (range_with_len 0 n)) all
