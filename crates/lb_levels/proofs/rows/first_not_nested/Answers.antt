-- For `first_not_nested` of src/rows.rt: the least distance at which the nodes are not nested.
use Rattle.std.proofs.Common.{◌&&◌, not, arith, rules, sym, ◌∙◌}
use Rattle.std.specs.List.{range_with_len}
use Rattle.lb_levels.specs.Rows.{is_entry, is_nested_at, distances_of, first_not_nested}
use Rattle.lb_base.proofs.Ranges.{found, not_found, find-filter}
use Rattle.lb_levels.proofs.rows.first_not_nested.Goals as goal

pub returns-then-not-is_nested_at : goal.returns-then-not-is_nested_at
unfolding first_not_nested distances_of
returns-then-not-is_nested_at c =
    found (λ d. is_entry c.args.distances.now d && not (is_nested_at c.args.distances.now d)) 256 c.loop-d.d
    (omega arith) c.loop-d.invariant (search rules)
    ∙ sym (find-filter (is_entry c.args.distances.now) (λ d. not (is_nested_at c.args.distances.now d)) (range_with_len 0 256))

pub returns : goal.returns
unfolding first_not_nested distances_of
returns c =
    not_found (λ d. is_entry c.args.distances.now d && not (is_nested_at c.args.distances.now d)) 256
    (λ k lt. c.loop-d.invariant k (omega (arith, lt)))
    ∙ sym (find-filter (is_entry c.args.distances.now) (λ d. not (is_nested_at c.args.distances.now d)) (range_with_len 0 256))
