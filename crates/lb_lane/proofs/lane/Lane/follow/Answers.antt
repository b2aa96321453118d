-- For `Lane::follow` of src/at_queues.rt: reads all that the queue has drawn, which stands in the closed
-- lists: each further ticket of the lane is above it.
use Rattle.std.proofs.Common.{refl}
use Rattle.lb_journal.specs.contracts.journal.Journal.{the_row}
use Rattle.lb_lane.specs.Lanes.{LaneIs}
use Rattle.lb_lane.proofs.Adopting.{followed, same_self}
use Rattle.lb_lane.proofs.Refusing.{still}
use Rattle.lb_lane.proofs.lane.Lane.follow.Goals as goal

pub invariant_of-self : goal.invariant_of-self
invariant_of-self g c =
    let n = g.N.Names in
    let i = c.self.inside in
    let l : LaneIs = record {
      side = i.side;
      looker = i.looker;
      rows = i.rows;
      vouched = i.vouched;
      turned = i.turned;
      domains = i.domains;
    } in
    let e = c.follow_queue.ensures in
    still n.header n.board g.N.Versions.versions the_row.coded l c.follow_queue.new.self c.saw_stays.ensures c.uses_stay.ensures
    c.self.invariant (followed l.side l.side c.follow_queue.new.self _ (same_self l.side) (refl, refl) e.same e.read e.later)
