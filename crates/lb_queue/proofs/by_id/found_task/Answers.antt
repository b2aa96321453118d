-- For `found_task` of src/by_id.rt: what is known of a task of a list.
use Rattle.std.proofs.Common.{◌==◌, ◌∙◌, sym, ap, get_or}
use Rattle.lb_queue.specs.declared.record.TaskRecord.{TaskRecord}
use Rattle.lb_queue.proofs.Search.{find_of_position, find_of_no_position}
use Rattle.lb_queue.proofs.by_id.found_task.Goals as goal

pub returns-in-Some-clause-found : goal.returns-in-Some-clause-found
returns-in-Some-clause-found c = sym (find_of_position
    (λ (t : TaskRecord). t.id == c.args.id) c.args.tasks.now c.in-Some.at c.record.result
    (sym c.place_of.ensures ∙ c.in-Some.is) (c.record.ensures.value ∙ c.index-tasks-at.is
    ∙ ap (get_or c.args.tasks.now c.in-Some.at) (sym c.record.ensures.value)))

pub returns-in-None-clause-found : goal.returns-in-None-clause-found
returns-in-None-clause-found c = sym (find_of_no_position (λ (t : TaskRecord). t.id == c.args.id) c.args.tasks.now
    (sym c.place_of.ensures ∙ c.in-None.is))
