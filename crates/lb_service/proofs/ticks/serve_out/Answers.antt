-- For `serve_out` of src/ticks.rt: the next owed stop, or the push, if one is due: its tasks leave and land.
use Rattle.std.proofs.Common.{Option, Some, subst}
use Rattle.lb_queue.specs.Hands.{HandState}
use Rattle.lb_queue.specs.Tasks.{ids}
use Rattle.lb_core.specs.declared.entry.What.TheVariants as whats
use Rattle.lb_journal.specs.contracts.journal.Journal.{the_row}
use Rattle.lb_lane_laws.proofs.Lanes.{rows_still}
use Rattle.lb_cpu.specs.Hands.{DepartedDue, OutDue}
use Rattle.lb_cpu.specs.Turns.{due_at}
use Rattle.lb_service.proofs.Entries.{out_serves}
use Rattle.lb_service.proofs.Rows.{there_same}
use Rattle.lb_service.proofs.ticks.serve_out.Goals as goal

pub returns-clause-serving : goal.returns-clause-serving
returns-clause-serving g c =
    let n = g.N.Names in
    let l = c.args.lane.now in
    let m = c.out_due.new.lane in
    let left : DepartedDue n.header n.book n.board the_row.coded l m (due_at l.side.course) c.in-Some.hand =
    subst (λ (o : Option HandState). OutDue n.header n.book n.board the_row.coded l m (due_at l.side.course) o) c.in-Some.is
    c.in_ok-hand.ensures.due in
    out_serves n.header n.book n.board the_row.coded l m c.land.new.lane (due_at l.side.course) c.in-Some.hand.to left.cause
    (ids c.in-Some.hand.tasks) (ids m.side.course.hand) left.there.before.queue.state c.requires left.there left.why
    left.flies.cause_is c.land.ensures

pub returns-clause-rows : goal.returns-clause-rows
returns-clause-rows g c =
    let n = g.N.Names in
    let l = c.args.lane.now in
    let m = c.out_due.new.lane in
    let left : DepartedDue n.header n.book n.board the_row.coded l m (due_at l.side.course) c.in-Some.hand =
    subst (λ (o : Option HandState). OutDue n.header n.book n.board the_row.coded l m (due_at l.side.course) o) c.in-Some.is
    c.in_ok-hand.ensures.due in
    rows_still l m c.land.new.lane
    (there_same n.header n.book n.board the_row.coded l m (due_at l.side.course)
    (whats.Out left.cause c.in-Some.hand.to (ids c.in-Some.hand.tasks)) left.there)
    (there_same n.header n.book n.board the_row.coded m c.land.new.lane m.side.course.to
    (whats.Landed (ids m.side.course.hand)) c.land.ensures)
