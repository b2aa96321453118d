-- For `TaskLists::take_asleep` of src/lists.rt: a sleeping task is taken out.
use Rattle.lb_queue.specs.contracts.lists.TaskLists.{the_view}
use Rattle.lb_queue.proofs.Keeping.{kept_up, unknown_if, same_if}
use Rattle.lb_queue.proofs.lists.TaskLists.take_asleep.Goals as goal

pub invariant_of-self : goal.invariant_of-self
invariant_of-self c = kept_up (the_view c.self.inside) _ _ _ _ _ c.args.id _ c.self.invariant c.take_task.ensures.rest
    c.take_task.ensures.capacity

pub returns-clause-unknown : goal.returns-clause-unknown
returns-clause-unknown c = unknown_if (the_view c.self.inside) c.args.id c.take_task.result _
    c.take_task.ensures.found c.take_task.ensures.rest c.self.invariant.sound

pub returns-clause-same : goal.returns-clause-same
returns-clause-same c = rw (← c.self.view_is)
    (same_if (the_view c.self.inside) c.args.id c.take_task.result _ c.take_task.ensures.found c.take_task.ensures.rest)
