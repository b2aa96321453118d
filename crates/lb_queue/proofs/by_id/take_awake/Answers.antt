-- For `take_awake` of src/by_id.rt: takes an awake task out of a list in which it stands at most once.
use Rattle.std.proofs.Common.{◌∙◌, ap, sym, reverse, not, ◌==◌}
use Rattle.lb_queue.specs.declared.awake.Awake.{Awake}
use Rattle.lb_queue.proofs.Search.{find_of_position, find_of_no_position, rest_of_position, rest_of_none}
use Rattle.lb_queue.proofs.Turned.{find_turned, filter_reverse}
use Rattle.lb_queue.proofs.by_id.take_awake.Goals as goal

pub returns-in-Some-clause-found : goal.returns-in-Some-clause-found
returns-in-Some-clause-found c =
    sym (find_turned (λ (a : Awake). a.task.id) c.args.id c.args.awake.now.items c.requires
    ∙ find_of_position (λ (a : Awake). a.task.id == c.args.id) c.args.awake.now.items c.in-Some.at c.remove.result
    (rw c.deref.ensures.value at (sym c.place_of_awake.ensures ∙ c.in-Some.is)) c.remove.ensures.value)

pub returns-in-Some-clause-rest : goal.returns-in-Some-clause-rest
returns-in-Some-clause-rest c =
    ap reverse (c.remove.ensures.items ∙ rest_of_position
    (λ (a : Awake). a.task.id) c.args.id c.args.awake.now.items c.in-Some.at
    (rw c.deref.ensures.value at (sym c.place_of_awake.ensures ∙ c.in-Some.is)) c.requires)
    ∙ sym (filter_reverse (λ (a : Awake). not (a.task.id == c.args.id)) c.args.awake.now.items)

pub returns-in-None-clause-found : goal.returns-in-None-clause-found
returns-in-None-clause-found c =
    sym (find_turned (λ (a : Awake). a.task.id) c.args.id c.args.awake.now.items c.requires
    ∙ find_of_no_position (λ (a : Awake). a.task.id == c.args.id) c.args.awake.now.items
    (rw c.deref.ensures.value at (sym c.place_of_awake.ensures ∙ c.in-None.is)))

pub returns-in-None-clause-rest : goal.returns-in-None-clause-rest
returns-in-None-clause-rest c =
    ap reverse (sym (rest_of_none (λ (a : Awake). a.task.id) c.args.id c.args.awake.now.items
    (find_of_no_position (λ (a : Awake). a.task.id == c.args.id) c.args.awake.now.items
    (rw c.deref.ensures.value at (sym c.place_of_awake.ensures ∙ c.in-None.is)))))
    ∙ sym (filter_reverse (λ (a : Awake). not (a.task.id == c.args.id)) c.args.awake.now.items)
