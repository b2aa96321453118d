-- For `rows_of_lanes` of src/rows.rt: the rows of each lane, in their order.
use Rattle.std.proofs.Common.{ℕ, List, [], ◌∷◌, ◌++◌, map, ap, sym, ◌∙◌, rules, arith}
use Rattle.std.specs.List.{range_with_len}
use Rattle.std.proofs.lemmas.List.FromFn.{map-range_with_len_more}
use Rattle.lb_trace.specs.declared.trace.Row.{Row}
use Rattle.lb_core.specs.OfTrace.{of_lane}
use Rattle.lb_cpu.proofs.rows.rows_of_lanes.Goals as goal

pub loop-lane-preserved : goal.loop-lane-preserved
loop-lane-preserved c =
    let f : ℕ → List Row = λ lane. of_lane lane c.args.rows.now in
    let i = c.loop-lane.lane in (
      c.push_reserved.ensures.items
          ∙ ap (λ (l : List (List Row)). l ++ c.in_ok-list.list ∷ []) c.loop-lane.invariant.0
          ∙ ap (λ (x : List Row). map f (range_with_len 0 i) ++ x ∷ []) c.in_ok-list.ensures
          ∙ sym (map-range_with_len_more f 0 i i (omega arith)),
      search rules,
      search rules,
    )
