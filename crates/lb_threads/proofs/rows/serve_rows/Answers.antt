-- For `serve_rows` of src/rows.rt: serves the rows of a lane, in file order.
use Rattle.std.proofs.Common.{ap, ◌∙◌}
use Rattle.lb_cell.specs.Cells.{LaneIs as SideIs}
use Rattle.lb_threads.proofs.Going.{next_row}
use Rattle.lb_threads.proofs.rows.serve_rows.Goals as goal

pub serve_next-requires-clause-next : goal.serve_next-requires-clause-next
serve_next-requires-clause-next g c κs within =
    next_row c.args.rows.now c.loop-row.row-index c.args.lane.now c.loop-row.lane c.row-item.result c.loop-row.invariant
    c.loop-row-test.true c.row-item.is
    (c.if-row-number.true ∙ c.number-number.ensures ∙ ap (λ (s : SideIs). s.number) c.side.ensures)
