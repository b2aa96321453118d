-- For `renice_awake` of src/lists.rt: the task of that id gets a nice value.
use Rattle.std.proofs.Common.{rules, ◌≡◌, ◌==◌, ◌∙◌, ap, sym}
use Rattle.lb_queue.specs.declared.awake.Awake.{Awake}
use Rattle.lb_queue.specs.Commands.{reniced}
use Rattle.lb_queue.proofs.Search.{changed_of_position, changed_of_none, find_of_no_position}
use Rattle.lb_queue.proofs.lists.renice_awake.Goals as goal

pub returns-in-Some-clause-items : goal.returns-in-Some-clause-items
returns-in-Some-clause-items c =
    let given : c.renice.new.self ≡ reniced c.args.nice c.index_mut.result.now = search rules in
    changed_of_position (λ (a : Awake). a.task.id)
    (reniced c.args.nice) c.args.id c.args.awake.now.items c.in-Some.at c.renice.new.self c.index_mut.result.now
    (rw c.deref.ensures.value at (sym c.place_of_awake.ensures ∙ c.in-Some.is)) c.requires.once
    (given ∙ ap (reniced c.args.nice) c.index_mut.ensures.value)

pub returns-in_default-clause-items : goal.returns-in_default-clause-items
returns-in_default-clause-items c =
    changed_of_none (λ (a : Awake). a.task.id) (reniced c.args.nice) c.args.id c.args.awake.now.items
    (find_of_no_position (λ (x : Awake). x.task.id == c.args.id) c.args.awake.now.items
    (rw c.deref.ensures.value at (sym c.place_of_awake.ensures ∙ c.in_default.is)))
