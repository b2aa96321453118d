-- For `Cell::leave_by_stop` of src/serving.rt: the task of an owed stop leaves.
use Rattle.std.proofs.Common.{rules, ◌≡◌, true, length, arith}
use Rattle.lb_queue.specs.Hands.{take_stop}
use Rattle.lb_cell.proofs.Moving.{stop_left, one_stops, came, are_for}
use Rattle.lb_cell.proofs.cell.Cell.leave_by_stop.Goals as goal

pub depart-requires-clause-left : goal.depart-requires-clause-left
depart-requires-clause-left g c =
    stop_left g.N.Names.header c.of-before.result.cell c.of-before.result.lane c.args.stop c.args.hand.now c.take_stop.new.hand
    c.take_stop.new.self.state (search rules) (search rules)
    (c.next_stops.ensures.asked c.of-before.result.cell.queue.state true) (search rules) (search rules) (search rules)
    (search rules)

pub depart-requires-clause-lists : goal.depart-requires-clause-lists
depart-requires-clause-lists g c =
    let q = c.self.inside.parts.queue.state in
    let at = c.lane.inside.parts.course.at in
    let one : length c.take_stop.new.hand.tasks ≡ 1 =
    came q at 1 (take_stop q at c.args.stop.id).0 c.args.hand.now c.take_stop.new.hand c.take_stop.ensures.hand c.requires.hand.0
    (one_stops q at c.args.stop.id c.args.hand.now.to (search rules)) in
    are_for 1 (length c.take_stop.new.hand.tasks) c.args.lists one c.requires.lists

pub depart-requires-clause-few : goal.depart-requires-clause-few
depart-requires-clause-few g c =
    let q = c.self.inside.parts.queue.state in
    let at = c.lane.inside.parts.course.at in
    let one : length c.take_stop.new.hand.tasks ≡ 1 =
    came q at 1 (take_stop q at c.args.stop.id).0 c.args.hand.now c.take_stop.new.hand c.take_stop.ensures.hand c.requires.hand.0
    (one_stops q at c.args.stop.id c.args.hand.now.to (search rules)) in
    omega (arith, one)
