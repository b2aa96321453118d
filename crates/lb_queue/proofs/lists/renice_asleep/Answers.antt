-- For `renice_asleep` of src/lists.rt.
use Rattle.std.proofs.Common.{rules, ◌≡◌, ◌==◌, ◌∙◌, ap, sym}
use Rattle.lb_queue.specs.declared.record.TaskRecord.{TaskRecord}
use Rattle.lb_queue.specs.Commands.{with_nice}
use Rattle.lb_queue.proofs.Search.{changed_of_position, changed_of_none, find_of_no_position}
use Rattle.lb_queue.proofs.lists.renice_asleep.Goals as goal

pub returns-in-Some-clause-items : goal.returns-in-Some-clause-items
returns-in-Some-clause-items c =
    let given : c.renice.new.self ≡ with_nice c.args.nice c.index_mut.result.now = search rules in
    changed_of_position (λ (t : TaskRecord). t.id)
    (with_nice c.args.nice) c.args.id c.args.tasks.now.items c.in-Some.at c.renice.new.self c.index_mut.result.now
    (rw c.deref.ensures.value at (sym c.place_of.ensures ∙ c.in-Some.is)) c.requires.once
    (given ∙ ap (with_nice c.args.nice) c.index_mut.ensures.value)

pub returns-in_default-clause-items : goal.returns-in_default-clause-items
returns-in_default-clause-items c =
    changed_of_none (λ (t : TaskRecord). t.id) (with_nice c.args.nice) c.args.id c.args.tasks.now.items
    (find_of_no_position (λ (x : TaskRecord). x.id == c.args.id) c.args.tasks.now.items
    (rw c.deref.ensures.value at (sym c.place_of.ensures ∙ c.in_default.is)))
