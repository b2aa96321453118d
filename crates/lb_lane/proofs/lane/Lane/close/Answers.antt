-- For `Lane::close` of src/in_turns.rt: closes the position in work, and answers how it ended, as
-- [`Cell::close`] does.
use Rattle.std.proofs.Common.{refl, sym, subst}
use Rattle.lb_cell.specs.Turns.{CanClose, closing}
use Rattle.lb_journal.specs.contracts.journal.Journal.{the_row}
use Rattle.lb_lane.specs.Lanes.{LaneIs}
use Rattle.lb_lane.proofs.AtQueues.{at_queue, done_not_due}
use Rattle.lb_lane.proofs.lane.Lane.close.Goals as goal

pub invariant_of-self : goal.invariant_of-self
invariant_of-self g c =
    let n = g.N.Names in
    let i = c.self.inside in
    let l : LaneIs =
    record { side = i.side; looker = i.looker; rows = i.rows; vouched = i.vouched; turned = i.turned; domains = i.domains } in
    let due : CanClose n.header l.side.course c.args.cell.now.log.writer.cpu =
    subst (λ (k : LaneIs). CanClose n.header k.side.course c.args.cell.now.log.writer.cpu) (sym c.self.view_is) c.requires.due in
    let late = done_not_due l.side.course.form n.header l.side.course due.done in
    at_queue n.header n.book n.board g.N.Versions.versions the_row.coded l c.close.new.lane c.args.cell.now c.close.new.self
    (closing n.header c.args.cell.now l.side) c.look_sees_more.ensures c.saw_stays.ensures c.self.invariant c.keeps.ensures.named
    c.keeps-2.ensures
    refl late c.close.ensures.drew
