-- For `TaskLists::join` of src/lists.rt: a task joins the front of the awake ones, and is picked where nobody
-- runs.
use Rattle.std.proofs.Common.{◌≡◌, true, sym, subst}
use Rattle.lb_base.specs.Mask.{has}
use Rattle.lb_queue.specs.contracts.lists.TaskLists.{the_view}
use Rattle.lb_queue.specs.Kept.{IsTask}
use Rattle.lb_queue.specs.Lists.{Lists, HasRoom, IsUnknown}
use Rattle.lb_queue.proofs.Keeping.{kept_in}
use Rattle.lb_queue.proofs.lists.TaskLists.join.Goals as goal

pub invariant_of-self : goal.invariant_of-self
invariant_of-self c =
    let back = sym c.self.view_is in
    let known : IsTask c.args.task = subst IsTask c.record-known.ensures.value c.record-known.ensures.kept in
    kept_in (the_view c.self.inside) _ _ _ _ _ c.args.clock _ c.args.task c.self.invariant known.numbered
    (subst (λ (l : Lists). IsUnknown l c.args.task.id) back c.requires.unknown)
    (subst HasRoom back c.requires.room)
    (subst (λ (l : Lists). has c.args.task.mask l.cpu ≡ true) back c.requires.permitted) c.join.ensures.items
    c.join.ensures.capacity
