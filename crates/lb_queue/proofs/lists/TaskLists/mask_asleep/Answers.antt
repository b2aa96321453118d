-- For `TaskLists::mask_asleep` of src/lists.rt: the sleeping task of that id gets a mask.
use Rattle.std.proofs.Common.{rules, ◌≡◌, ◌==◌, cond}
use Rattle.lb_queue.specs.declared.record.TaskRecord.{TaskRecord}
use Rattle.lb_queue.specs.contracts.lists.TaskLists.{the_view}
use Rattle.lb_queue.specs.Commands.{changed_task, with_mask}
use Rattle.lb_queue.proofs.Keeping.{kept_renamed}
use Rattle.lb_queue.proofs.Sound.{mask_name}
use Rattle.lb_queue.proofs.lists.TaskLists.mask_asleep.Goals as goal

pub invariant_of-self : goal.invariant_of-self
invariant_of-self c =
    let given : c.mask_asleep.new.tasks.items ≡ changed_task c.args.id (with_mask c.args.mask)
    c.self.inside.asleep.items = search rules in
    kept_renamed (the_view c.self.inside) _ _ _ _ _
    (λ (t : TaskRecord). cond (t.id == c.args.id) (with_mask c.args.mask t) t) _
    (mask_name c.args.id c.args.mask) c.self.invariant given c.mask_asleep.ensures.capacity
