-- For `Cell::leave` of src/leaving.rt: the task of the lane's wake leaves for another CPU, by an `out wake`,
-- in a hand that goes there and is empty.
use Rattle.std.proofs.Common.{rules, ◌≡◌, length, arith}
use Rattle.lb_queue.specs.Hands.{leave}
use Rattle.lb_cell.proofs.Moving.{wake_left, one_leaves, came, are_for}
use Rattle.lb_cell.proofs.cell.Cell.leave.Goals as goal

pub depart-requires-clause-left : goal.depart-requires-clause-left
depart-requires-clause-left g c =
    wake_left g.N.Names.header c.of-before.result.cell c.of-before.result.lane c.in-Some-Wake.task c.args.hand.now
    c.leave.new.hand
    c.leave.new.self.state (search rules) (search rules) (search rules) (search rules) (search rules) (search rules)

pub depart-requires-clause-lists : goal.depart-requires-clause-lists
depart-requires-clause-lists g c =
    let q = c.self.inside.parts.queue.state in
    let at = c.lane.inside.parts.course.at in
    let one : length c.leave.new.hand.tasks ≡ 1 =
    came q at 1 (leave q at c.in-Some-Wake.task).0 c.args.hand.now c.leave.new.hand c.leave.ensures.hand c.requires.hand.0
    (one_leaves q at c.in-Some-Wake.task c.args.hand.now.to (search rules)) in
    are_for 1 (length c.leave.new.hand.tasks) c.in_ok-lists.lists one c.in_ok-lists.ensures

pub depart-requires-clause-few : goal.depart-requires-clause-few
depart-requires-clause-few g c =
    let q = c.self.inside.parts.queue.state in
    let at = c.lane.inside.parts.course.at in
    let one : length c.leave.new.hand.tasks ≡ 1 =
    came q at 1 (leave q at c.in-Some-Wake.task).0 c.args.hand.now c.leave.new.hand c.leave.ensures.hand c.requires.hand.0
    (one_leaves q at c.in-Some-Wake.task c.args.hand.now.to (search rules)) in
    omega (arith, one)
