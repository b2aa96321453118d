-- For `leave` of src/lists.rt: an awake task leaves the list, in which it stands at most once.
use Rattle.std.proofs.Common.{reverse}
use Rattle.lb_queue.proofs.Sound.{left_is, left_none}
use Rattle.lb_queue.proofs.lists.leave.Goals as goal

pub returns-in-Some-clause-rest : goal.returns-in-Some-clause-rest
returns-in-Some-clause-rest c = left_is c.args.clock c.args.id c.in-Some.a
    (reverse c.args.awake.now.items) _ _ c.in-Some.ensures.found c.take_awake.ensures.rest c.pick_after.ensures.items

pub returns-in-None-clause-rest : goal.returns-in-None-clause-rest
returns-in-None-clause-rest c = left_none c.args.clock c.args.id
    (reverse c.args.awake.now.items) _ c.in-None.ensures.found c.take_awake.ensures.rest
