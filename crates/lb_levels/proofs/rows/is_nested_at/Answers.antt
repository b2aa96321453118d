-- For `is_nested_at` of src/rows.rt.
use Rattle.std.proofs.Common.{length, arith, rules}
use Rattle.std.specs.List.{range_with_len, list_all}
use Rattle.lb_levels.specs.Rows.{are_nested, is_nested_at}
use Rattle.lb_base.proofs.Ranges.{all_pass, one_fails}
use Rattle.lb_levels.proofs.rows.is_nested_at.Goals as goal

pub returns-then-not-is_nested_with_all : goal.returns-then-not-is_nested_with_all
unfolding is_nested_at
returns-then-not-is_nested_with_all c =
    one_fails (λ a. list_all (are_nested c.args.distances.now c.args.d a)
    (range_with_len 0 (length c.args.distances.now))) (length c.args.distances.now) c.loop-a.a
    (omega arith) (search rules)

pub returns : goal.returns
unfolding is_nested_at
returns c =
    all_pass (λ a. list_all (are_nested c.args.distances.now c.args.d a)
    (range_with_len 0 (length c.args.distances.now))) (length c.args.distances.now)
    (λ k lt. c.loop-a.invariant k (omega (arith, lt)))
