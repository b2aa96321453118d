-- For `is_apart` of src/rows.rt: whether no node is within distance `d` of both.
use Rattle.std.proofs.Common.{◌&&◌, not, length, arith, rules}
use Rattle.lb_levels.specs.Rows.{is_within, is_apart}
use Rattle.lb_base.proofs.Ranges.{all_pass, one_fails}
use Rattle.lb_levels.proofs.rows.is_apart.Goals as goal

pub returns-then-is_shared : goal.returns-then-is_shared
unfolding is_apart
returns-then-is_shared c =
    one_fails (λ k. not (is_within c.args.distances.now c.args.d c.args.a k && is_within c.args.distances.now c.args.d
    c.args.b k)) (length c.args.distances.now) c.loop-node.node
    (omega arith) (search rules)

pub returns : goal.returns
unfolding is_apart
returns c =
    all_pass (λ k. not (is_within c.args.distances.now c.args.d c.args.a k && is_within c.args.distances.now c.args.d
    c.args.b k)) (length c.args.distances.now)
    (λ k lt. c.loop-node.invariant k (omega (arith, lt)))
