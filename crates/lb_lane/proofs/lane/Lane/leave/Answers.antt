-- For `Lane::leave` of src/at_queues.rt: the task of the lane's wake leaves the queue for another CPU, as by
-- [`Cell::leave`].
use Rattle.std.proofs.Common.{◌≡◌, ◌∙◌, false, refl, ap}
use Rattle.lb_core.specs.declared.entry.What.TheVariants.{Out}
use Rattle.lb_queue.specs.Tasks.{ids}
use Rattle.lb_queue.specs.declared.answers.OutCause.TheVariants as cause
use Rattle.lb_journal.specs.contracts.journal.Journal.{the_row}
use Rattle.lb_lane.specs.Lanes.{LaneIs, is_due}
use Rattle.lb_lane.proofs.AtQueues.{at_queue_if}
use Rattle.lb_lane.proofs.lane.Lane.leave.Goals as goal

pub invariant_of-self : goal.invariant_of-self
invariant_of-self g c =
    let n = g.N.Names in
    let i = c.self.inside in
    let l : LaneIs =
    record { side = i.side; looker = i.looker; rows = i.rows; vouched = i.vouched; turned = i.turned; domains = i.domains } in
    let late : is_due l.side.course.form ≡ false =
    ap is_due (ap (λ (k : LaneIs). k.side.course.form) c.self.view_is ∙ c.requires.wake.form) in
    at_queue_if n.header n.book n.board g.N.Versions.versions the_row.coded _ c.leave.result l c.leave.new.lane c.args.cell.now
    c.leave.new.self (Out cause.Wake c.args.hand.now.to (ids c.leave.new.hand.tasks)) c.look_sees_more.ensures
    c.saw_stays.ensures c.self.invariant c.keeps.ensures.named c.keeps-2.ensures refl late c.leave.ensures.drew
    c.leave.ensures.refused
