-- For `TaskLists::add_gone` of src/lists.rt: a task that is known nowhere is gone from now on.
use Rattle.std.proofs.Common.{sym, subst}
use Rattle.lb_queue.specs.contracts.lists.TaskLists.{the_view}
use Rattle.lb_queue.specs.Kept.{IsTask}
use Rattle.lb_queue.specs.Lists.{Lists, HasRoom, IsUnknown}
use Rattle.lb_queue.proofs.Keeping.{kept_gone}
use Rattle.lb_queue.proofs.lists.TaskLists.add_gone.Goals as goal

pub invariant_of-self : goal.invariant_of-self
invariant_of-self c =
    let back = sym c.self.view_is in
    let known : IsTask c.args.task = subst IsTask c.record-known.ensures.value c.record-known.ensures.kept in
    kept_gone (the_view c.self.inside) _ _ _ _ _ _ c.args.task c.self.invariant known.numbered
    (subst (λ (l : Lists). IsUnknown l c.args.task.id) back c.requires.unknown)
    (subst HasRoom back c.requires.room) c.push_reserved.ensures.items c.push_reserved.ensures.capacity
