-- For `Lane::land` of src/at_queues.rt: the tasks of the lane's hand land at the queue, as by [`Cell::land`].
use Rattle.std.proofs.Common.{◌≡◌, ◌∙◌, false, refl, ap}
use Rattle.lb_core.specs.declared.entry.What.TheVariants.{Landed}
use Rattle.lb_queue.specs.Tasks.{ids}
use Rattle.lb_journal.specs.contracts.journal.Journal.{the_row}
use Rattle.lb_lane.specs.Lanes.{LaneIs, is_due}
use Rattle.lb_lane.proofs.AtQueues.{at_queue}
use Rattle.lb_lane.proofs.lane.Lane.land.Goals as goal

pub invariant_of-self : goal.invariant_of-self
invariant_of-self g c =
    let n = g.N.Names in
    let i = c.self.inside in
    let l : LaneIs =
    record { side = i.side; looker = i.looker; rows = i.rows; vouched = i.vouched; turned = i.turned; domains = i.domains } in
    let late : is_due l.side.course.form ≡ false =
    ap is_due (ap (λ (k : LaneIs). k.side.course.form) c.self.view_is ∙ c.requires.due.form) in
    at_queue n.header n.book n.board g.N.Versions.versions the_row.coded l c.land.new.lane c.args.cell.now c.land.new.self
    (Landed (ids l.side.course.hand)) c.look_sees_more.ensures c.saw_stays.ensures c.self.invariant c.keeps.ensures.named
    c.keeps-2.ensures
    refl late c.land.ensures.drew
