-- For `Before::enter` of src/enter.rt: draws the entry of a queue for a lane, upon the cell and the lane as
-- they were before it.
use Rattle.std.proofs.Common.{rules, sym, subst}
use Rattle.lb_ticket.specs.Seats.{SeatIs}
use Rattle.lb_journal.specs.Journal.{Journal}
use Rattle.lb_journal.specs.contracts.journal.Left.{the_row}
use Rattle.lb_cell.specs.declared.parts.LaneParts.{LaneParts}
use Rattle.lb_cell.specs.Cells.{LaneKeeps}
use Rattle.lb_cell.proofs.Entering.{cell_more, lane_more}
use Rattle.lb_cell.proofs.before.Before.enter.Goals as goal

pub returns-clause-cell : goal.returns-clause-cell
returns-clause-cell g c =
    let n = g.N.Names in
    let b = c.args.self in
    cell_more n.header n.book n.board b.cell b.lane c.args.what c.args.cell.now.queue c.draw_at.new.log
    c.args.cell.now.room c.draw_at.result c.item_of-item.ensures.cell c.requires.may.of_queue c.requires.may.at_work
    c.requires.room.0 c.requires.room.1
    (search rules) (search rules) (search rules) (search rules) (search rules)

pub returns-clause-lane : goal.returns-clause-lane
returns-clause-lane g c =
    let n = g.N.Names in
    let b = c.args.self in
    let l : LaneParts = c.args.lane.now in
    let keeps = lane_more n.header n.book n.board the_row.coded b.cell b.lane c.args.what l.number c.args.cell.now.queue.state
    l.course c.item_of-item.new.course c.draw_at.new.known l.landing c.item_of-item.ensures.lane c.requires.may.of_queue
    c.item_of-item.ensures.small c.requires.lane.0 c.requires.course (search rules) c.requires.landing (search rules)
    (search rules) (search rules) in
    subst
    (λ (s : SeatIs Journal). LaneKeeps n.header n.book n.board the_row.coded (record {
      number = l.number;
      course = c.item_of-item.new.course;
      known = c.draw_at.new.known;
      seat = s;
      landing = l.landing;
    })) (sym c.requires.lane.2) keeps
