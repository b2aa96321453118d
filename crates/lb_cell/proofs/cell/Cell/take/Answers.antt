-- For `Cell::take` of src/pulling.rt: takes from this queue, the source of the lane's last look, what that
-- look asks for, by an `out pull`, in a hand that goes to the turn's CPU, is empty and has room for a whole
-- pull; as many landings are booked there.
use Rattle.std.proofs.Common.{rules, ◌≡◌, length, refl}
use Rattle.lb_queue.specs.Hands.{take_pull}
use Rattle.lb_cell.proofs.Moving.{pull_left, many_pulled, few_pulled, came, are_for}
use Rattle.lb_cell.proofs.cell.Cell.take.Goals as goal

pub depart-requires-clause-left : goal.depart-requires-clause-left
depart-requires-clause-left g c =
    pull_left g.N.Names.header c.of-before.result.cell c.of-before.result.lane c.args.env.now c.take-taken.result c.args.hand.now
    c.take-taken.new.hand c.take-taken.new.self.state (search rules) (search rules) (search rules) (search rules) (search rules)
    (search rules) (search rules) (search rules)

pub depart-requires-clause-lists : goal.depart-requires-clause-lists
depart-requires-clause-lists g c =
    let q = c.self.inside.parts.queue.state in
    let at = c.lane.inside.parts.course.at in
    let env = c.args.env.now in
    let many : length c.take-taken.new.hand.tasks ≡ length c.in_ok-picked.picked.ids.items =
    came q at (length c.in_ok-picked.picked.ids.items) (take_pull q at env).0 c.args.hand.now c.take-taken.new.hand
    c.take-taken.ensures.hand c.requires.hand.1
    (many_pulled q at env c.in_ok-picked.picked.ids.items (c.pulls_follow_picks.ensures q at env) c.in_ok-picked.ensures.ids) in
    are_for c.len.result (length c.take-taken.new.hand.tasks) c.in_ok-lists.lists (search rules) c.in_ok-lists.ensures

pub depart-requires-clause-few : goal.depart-requires-clause-few
depart-requires-clause-few g c =
    let q = c.self.inside.parts.queue.state in
    let at = c.lane.inside.parts.course.at in
    let env = c.args.env.now in
    let f = (c.pulls_follow_picks.ensures q at env).few in
    few_pulled (length c.take-taken.new.hand.tasks) (length (take_pull q at env).0)
    (came q at (length (take_pull q at env).0) (take_pull q at env).0 c.args.hand.now c.take-taken.new.hand
    c.take-taken.ensures.hand c.requires.hand.1 refl)
    f
