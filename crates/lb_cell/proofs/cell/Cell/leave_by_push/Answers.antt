-- For `Cell::leave_by_push` of src/serving.rt: the task of the push leaves, if there is one.
use Rattle.std.proofs.Common.{rules, ◌≡◌, length, if◌then◌else◌}
use Rattle.lb_queue.specs.Hands.{take_push}
use Rattle.lb_cell.proofs.Moving.{push_left, pushes, few_pushed, came, are_for}
use Rattle.lb_cell.proofs.cell.Cell.leave_by_push.Goals as goal

pub depart-requires-clause-left : goal.depart-requires-clause-left
depart-requires-clause-left g c =
    push_left g.N.Names.header c.of-before.result.cell c.of-before.result.lane c.args.hand.now c.take_push-pushed.new.hand
    c.take_push-pushed.new.self.state (search rules) (search rules) (search rules) (search rules) (search rules) (search rules)
    (search rules)

pub depart-requires-clause-lists : goal.depart-requires-clause-lists
depart-requires-clause-lists g c =
    let q = c.self.inside.parts.queue.state in
    let at = c.lane.inside.parts.course.at in
    let to = c.args.hand.now.to in
    let many : length c.take_push-pushed.new.hand.tasks ≡ (if c.take_push-pushed.result then 1 else 0) =
    came q at (if c.take_push-pushed.result then 1 else 0) (take_push q at to).0 c.args.hand.now c.take_push-pushed.new.hand
    c.take_push-pushed.ensures.hand c.requires.hand.0
    (pushes q at to c.take_push-pushed.result c.take_push-pushed.ensures.answer) in
    are_for (if c.take_push-pushed.result then 1 else 0) (length c.take_push-pushed.new.hand.tasks) c.only_if-lists.result many
    c.only_if-lists.ensures

pub depart-requires-clause-few : goal.depart-requires-clause-few
depart-requires-clause-few g c =
    let q = c.self.inside.parts.queue.state in
    let at = c.lane.inside.parts.course.at in
    let to = c.args.hand.now.to in
    few_pushed c.take_push-pushed.result (length c.take_push-pushed.new.hand.tasks)
    (came q at (if c.take_push-pushed.result then 1 else 0) (take_push q at to).0 c.args.hand.now c.take_push-pushed.new.hand
    c.take_push-pushed.ensures.hand c.requires.hand.0
    (pushes q at to c.take_push-pushed.result c.take_push-pushed.ensures.answer))
