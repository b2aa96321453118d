-- For `is_nested_with_all` of src/rows.rt: whether the nodes within distance `d` of node `a` are nested with
-- those of each node.
use Rattle.std.proofs.Common.{length, arith, rules}
use Rattle.lb_levels.specs.Rows.{are_nested}
use Rattle.lb_base.proofs.Ranges.{all_pass, one_fails}
use Rattle.lb_levels.proofs.rows.is_nested_with_all.Goals as goal

pub returns-then-not-are_nested : goal.returns-then-not-are_nested
returns-then-not-are_nested c =
    one_fails (are_nested c.args.distances.now c.args.d c.args.a) (length c.args.distances.now) c.loop-b.b
    (omega arith) (search rules)

pub returns : goal.returns
returns c =
    all_pass (are_nested c.args.distances.now c.args.d c.args.a) (length c.args.distances.now)
    (λ k lt. c.loop-b.invariant k (omega (arith, lt)))
