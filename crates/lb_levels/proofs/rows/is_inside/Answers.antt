-- For `is_inside` of src/rows.rt: whether each node within distance `d` of `a` is within it of `b`.
use Rattle.std.proofs.Common.{◌||◌, not, length, arith, rules}
use Rattle.lb_levels.specs.Rows.{is_within, is_inside}
use Rattle.lb_base.proofs.Ranges.{all_pass, one_fails}
use Rattle.lb_levels.proofs.rows.is_inside.Goals as goal

pub returns-then-not-follows : goal.returns-then-not-follows
unfolding is_inside
returns-then-not-follows c =
    one_fails (λ k. not (is_within c.args.distances.now c.args.d c.args.a k) || is_within c.args.distances.now
    c.args.d c.args.b k) (length c.args.distances.now) c.loop-node.node
    (omega arith) (search rules)

pub returns : goal.returns
unfolding is_inside
returns c =
    all_pass (λ k. not (is_within c.args.distances.now c.args.d c.args.a k) || is_within c.args.distances.now c.args.d
    c.args.b k) (length c.args.distances.now)
    (λ k lt. c.loop-node.invariant k (omega (arith, lt)))
