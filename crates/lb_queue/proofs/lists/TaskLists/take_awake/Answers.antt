-- For `TaskLists::take_awake` of src/lists.rt: an awake task is taken out: put down where it runs, and then
-- the one at the back is picked.
use Rattle.lb_queue.specs.contracts.lists.TaskLists.{the_view}
use Rattle.lb_queue.proofs.Keeping.{kept_out, unknown_down, once_awake, same_down}
use Rattle.lb_queue.proofs.lists.TaskLists.take_awake.Goals as goal

pub leave-requires : goal.leave-requires
leave-requires c = once_awake c.args.id c.self.inside.awake.items c.self.inside.asleep.items c.self.inside.gone.items
    c.self.invariant.sound

pub invariant_of-self : goal.invariant_of-self
invariant_of-self c = kept_out (the_view c.self.inside) _ _ _ _ _ c.args.clock c.args.id _ c.self.invariant
    c.leave.ensures.rest c.leave.ensures.capacity

pub returns-clause-unknown : goal.returns-clause-unknown
returns-clause-unknown c = unknown_down (the_view c.self.inside) c.args.clock c.args.id c.leave.result _
    c.leave.ensures.found c.leave.ensures.rest c.self.invariant.sound

pub returns-clause-same : goal.returns-clause-same
returns-clause-same c = rw (← c.self.view_is)
    (same_down (the_view c.self.inside) c.args.clock c.args.id c.leave.result _ c.leave.ensures.found c.leave.ensures.rest)
