-- For `Cell::can_land` of src/landing.rt: whether what a landing of the lane's hand asks of this queue holds:
-- room and the landings are booked, the tasks come to this CPU, and none of them is known here.
use Rattle.std.proofs.Common.{rules, ◌≡◌, ◌<◌, ◌≤◌, not, length, sym, ap, ◌∙◌}
use Rattle.std.specs.List.{list_all}
use Rattle.lb_queue.specs.declared.record.TaskRecord.{TaskRecord}
use Rattle.lb_queue.specs.Queue.{knows}
use Rattle.lb_cell.specs.Cells.{LaneIs}
use Rattle.lb_cell.proofs.Moving.{none_known}
use Rattle.lb_cell.proofs.cell.Cell.can_land.Goals as goal

pub returns : goal.returns
returns g c =
    let cell = c.args.self.now in
    let course = c.args.lane.now.course in
    let hand = c.as_slice.ensures ∙ ap (λ (l : LaneIs). l.course.hand) c.lane.view_is in
    let none = none_known cell.queue.state course.hand in
    let tests : c.knows_none.result ≡ list_all (λ (t : TaskRecord). not (knows cell.queue.state t.id)) course.hand =
    c.knows_none.ensures
    ∙ (λ i. list_all (λ (t : TaskRecord). not (knows (c.self.view_is i).queue.state t.id)) (hand i)) in
    let booked : (0 < cell.room) × (length c.args.hand.now.tasks ≤ cell.queue.booked) = search rules in (
      λ h. record {
        room = booked.0;
        booked = booked.1;
        to = ap (λ (l : LaneIs). l.course.to) (sym c.lane.view_is) ∙ (c.if-course-cpu.false ∙ sym c.cpu.ensures.own);
        unknown = none.0 (sym tests ∙ h);
      },
      λ can. tests ∙ none.1 can.unknown,
    )
