-- For `picks_of` of src/pulls.rt: what a pull picks at a queue at the moment `at` (ns), in lists that have
-- room for the take itself.
use Rattle.std.proofs.Common.{rules, length, ap}
use Rattle.lb_act.proofs.Lists.{views_length}
use Rattle.lb_act.proofs.pulls.picks_of.Goals as goal

pub returns-clause-ids_room : goal.returns-clause-ids_room
returns-clause-ids_room c =
    let l = views_length c.args.queue.now.state c.args.at in
    let e = ap length c.in_ok-views.ensures in
    search rules

pub returns-clause-order_room : goal.returns-clause-order_room
returns-clause-order_room c =
    let l = views_length c.args.queue.now.state c.args.at in
    let e = ap length c.in_ok-views.ensures in
    search rules
