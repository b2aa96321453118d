-- For `first_bad_row` of src/rows.rt: the first row that cannot stand below those before it.
use Rattle.std.proofs.Common.{length, take, arith, rules}
use Rattle.lb_levels.specs.Rows.{distances_at, is_bad_distance}
use Rattle.lb_levels.specs.Faults.{first_bad_row}
use Rattle.lb_base.proofs.Ranges.{found, not_found}
use Rattle.lb_levels.proofs.rows.first_bad_row.Goals as goal

pub returns-then-is_bad_row : goal.returns-then-is_bad_row
unfolding first_bad_row
returns-then-is_bad_row c =
    found (λ a. is_bad_distance (take a c.args.distances.now) (distances_at c.args.distances.now a))
    (length c.args.distances.now) c.loop-a.a
    (omega arith) c.loop-a.invariant (search rules)

pub returns : goal.returns
unfolding first_bad_row
returns c =
    not_found (λ a. is_bad_distance (take a c.args.distances.now) (distances_at c.args.distances.now a))
    (length c.args.distances.now)
    (λ k lt. c.loop-a.invariant k (omega (arith, lt)))
