-- For `TaskLists::renice_asleep` of src/lists.rt: the sleeping task of that id gets a nice value.
use Rattle.std.proofs.Common.{w32, ℤ, ◌≡◌, ◌==◌, ◌∙◌, ap, refl, cond}
use Rattle.lb_queue.specs.declared.record.TaskRecord.{TaskRecord}
use Rattle.lb_queue.specs.contracts.lists.TaskLists.{the_view}
use Rattle.lb_queue.specs.Commands.{changed_task, with_nice}
use Rattle.std.proofs.lemmas.Int.{to_z-of_z}
use Rattle.lb_queue.proofs.Keeping.{kept_renamed}
use Rattle.lb_queue.proofs.Sound.{nice_name}
use Rattle.lb_queue.proofs.lists.TaskLists.renice_asleep.Goals as goal

pub invariant_of-self : goal.invariant_of-self
invariant_of-self c =
    let given : c.renice_asleep.new.tasks.items ≡ changed_task c.args.id
    (with_nice c.args.nice) c.self.inside.asleep.items =
    c.renice_asleep.ensures.items ∙ ap (λ (z : ℤ). changed_task c.args.id
    (with_nice z) c.self.inside.asleep.items) (to_z-of_z w32 c.args.nice c.ranges.nice) in
    kept_renamed (the_view c.self.inside) _ _ _ _ _
    (λ (t : TaskRecord). cond (t.id == c.args.id) (with_nice c.args.nice t) t) _
    (nice_name c.args.id c.args.nice) c.self.invariant given c.renice_asleep.ensures.capacity

pub returns : goal.returns
returns c =
    let given : c.renice_asleep.new.tasks.items ≡ changed_task c.args.id
    (with_nice c.args.nice) c.self.inside.asleep.items =
    c.renice_asleep.ensures.items ∙ ap (λ (z : ℤ). changed_task c.args.id
    (with_nice z) c.self.inside.asleep.items) (to_z-of_z w32 c.args.nice c.ranges.nice) in
    rw (← c.self.view_is) (rw given refl)
