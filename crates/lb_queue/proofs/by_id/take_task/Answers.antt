-- For `take_task` of src/by_id.rt: takes a task out of a list in which it stands at most once.
use Rattle.std.proofs.Common.{◌∙◌, sym, ◌==◌}
use Rattle.lb_queue.specs.declared.record.TaskRecord.{TaskRecord}
use Rattle.lb_queue.proofs.Search.{find_of_position, find_of_no_position, rest_of_position, rest_of_none}
use Rattle.lb_queue.proofs.by_id.take_task.Goals as goal

pub returns-in-Some-clause-found : goal.returns-in-Some-clause-found
returns-in-Some-clause-found c = sym (find_of_position
    (λ (t : TaskRecord). t.id == c.args.id) c.args.tasks.now.items c.in-Some.at c.remove.result
    (rw c.deref.ensures.value at (sym c.place_of.ensures ∙ c.in-Some.is)) c.remove.ensures.value)

pub returns-in-Some-clause-rest : goal.returns-in-Some-clause-rest
returns-in-Some-clause-rest c = c.remove.ensures.items
    ∙ rest_of_position (λ (t : TaskRecord). t.id) c.args.id c.args.tasks.now.items c.in-Some.at
    (rw c.deref.ensures.value at (sym c.place_of.ensures ∙ c.in-Some.is)) c.requires

pub returns-in-None-clause-found : goal.returns-in-None-clause-found
returns-in-None-clause-found c = sym (find_of_no_position
    (λ (t : TaskRecord). t.id == c.args.id) c.args.tasks.now.items
    (rw c.deref.ensures.value at (sym c.place_of.ensures ∙ c.in-None.is)))

pub returns-in-None-clause-rest : goal.returns-in-None-clause-rest
returns-in-None-clause-rest c =
    sym (rest_of_none (λ (t : TaskRecord). t.id) c.args.id c.args.tasks.now.items
    (find_of_no_position (λ (t : TaskRecord). t.id == c.args.id) c.args.tasks.now.items
    (rw c.deref.ensures.value at (sym c.place_of.ensures ∙ c.in-None.is))))
