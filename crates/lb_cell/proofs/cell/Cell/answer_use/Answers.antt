-- For `Cell::answer_use` of src/opening.rt: answers the lane's `use`, the last entry that it drew: a turn
-- opens, by a `turn`, and the lane has the counters that it found; or it is shut where one is open, by a
-- `shut`.
use Rattle.std.proofs.Common.{is_some, ap, sym, ◌∙◌}
use Rattle.lb_queue.specs.Turns.{positions_found}
use Rattle.lb_core.specs.Course.{turn_kind}
use Rattle.lb_cell.specs.Cells.{CellIs, LaneIs}
use Rattle.lb_cell.proofs.Turning.{opened_is, shut_is}
use Rattle.lb_cell.proofs.cell.Cell.answer_use.Goals as goal

pub open_turn-requires-clause-closed : goal.open_turn-requires-clause-closed
open_turn-requires-clause-closed g c =
    let l = c.lane.inside.parts in
    let o =
    opened_is c.self.inside.parts.queue.state l.course.at c.turn_kind-kind.result l.course.version c.as_slice-shapes.result.now
    c.in-Opened.positions (sym c.in-Opened.is ∙ c.opens-reply.ensures) in
    ap (λ (x : CellIs). is_some x.queue.state.open_turn) (sym c.self.view_is) ∙ o.0

pub open_turn-requires-clause-positions : goal.open_turn-requires-clause-positions
open_turn-requires-clause-positions g c =
    let l = c.lane.inside.parts in
    let kind = c.turn_kind-kind.ensures ∙ ap (λ (x : LaneIs). turn_kind x.course) c.lane.view_is in
    let o =
    opened_is c.self.inside.parts.queue.state l.course.at c.turn_kind-kind.result l.course.version c.as_slice-shapes.result.now
    c.in-Opened.positions (sym c.in-Opened.is ∙ c.opens-reply.ensures) in
    o.1
    ∙ (λ i.
    positions_found (c.self.view_is i).queue.state (c.lane.view_is i).course.at (kind i) (c.lane.view_is i).course.version
    c.as_slice-shapes.result.now)

pub shut_turn-requires-clause-open : goal.shut_turn-requires-clause-open
shut_turn-requires-clause-open g c =
    let l = c.lane.inside.parts in
    ap (λ (x : CellIs). is_some x.queue.state.open_turn) (sym c.self.view_is)
    ∙ shut_is c.self.inside.parts.queue.state l.course.at c.turn_kind-kind.result l.course.version c.as_slice-shapes.result.now
    (sym c.in-TurnOpen.is ∙ c.opens-reply.ensures)
