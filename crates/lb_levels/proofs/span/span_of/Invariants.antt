-- The loops of `span_of` of src/span.rt: the span of a CPU at a level.
use Rattle.std.proofs.Common.{◌≡◌, ℕ, ltb, ◌&&◌}
use Rattle.lb_base.specs.Mask.{has}
use Rattle.lb_levels.specs.Rows.{row_at}
use Rattle.lb_levels.specs.Spans.{shares}
use Rattle.lb_levels.proofs.span.span_of.Given as goal

abbrev pub invariant-loop-k : goal.invariant-loop-k
invariant-loop-k l =
    (k : ℕ) → has l.span k ≡ (ltb k l.k && shares l.distances l.level (row_at l.cpus l.cpu) (row_at l.cpus k))
