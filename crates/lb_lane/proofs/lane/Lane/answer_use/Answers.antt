-- For `Lane::answer_use` of src/turns.rt: the queue answers the `use` that the lane drew last, over the
-- domains that the lane has, as by `Cell::answer_use`.
use Rattle.std.proofs.Common.{◌≡◌, ◌∙◌, false, ap}
use Rattle.lb_cell.specs.Turns.{turn_what}
use Rattle.lb_journal.specs.contracts.journal.Journal.{the_row}
use Rattle.lb_lane.specs.Lanes.{LaneIs, is_due}
use Rattle.lb_lane.proofs.AtQueues.{at_queue, turn_is_of_queue}
use Rattle.lb_lane.proofs.lane.Lane.answer_use.Goals as goal

pub invariant_of-self : goal.invariant_of-self
invariant_of-self g c =
    let n = g.N.Names in
    let i = c.self.inside in
    let l : LaneIs =
    record { side = i.side; looker = i.looker; rows = i.rows; vouched = i.vouched; turned = i.turned; domains = i.domains } in
    let late : is_due l.side.course.form ≡ false =
    ap is_due (ap (λ (k : LaneIs). k.side.course.form) c.self.view_is ∙ c.requires.due.form) in
    at_queue n.header n.book n.board g.N.Versions.versions the_row.coded l c.answer_use.new.lane c.args.cell.now
    c.answer_use.new.self
    (turn_what c.answer_use.result) c.look_sees_more.ensures c.saw_stays.ensures c.self.invariant c.keeps.ensures.named
    c.keeps-2.ensures
    (turn_is_of_queue c.answer_use.result) late c.answer_use.ensures.drew
