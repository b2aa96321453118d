-- For `stop_of` of src/stops.rt: the request of a task goes to the least CPU of its mask.
use Rattle.std.proofs.Common.{◌≡◌, ◌∙◌, sym, ap, subst, ◌==◌, Option, Some}
use Rattle.std.specs.Prelude.{IfSome}
use Rattle.lb_base.specs.Sets.{least}
use Rattle.lb_queue.specs.declared.awake.Awake.{Awake}
use Rattle.lb_queue.specs.Requests.{stop_of}
use Rattle.lb_queue.proofs.Search.{find_of_position, find_of_no_position}
use Rattle.lb_queue.proofs.Turned.{find_turned}
use Rattle.lb_queue.proofs.Ids.{key}
use Rattle.lb_queue.proofs.stops.stop_of.Goals as goal

pub returns-in-Some-clause-value : goal.returns-in-Some-clause-value
returns-in-Some-clause-value c =
    c.stop_request.ensures.value ∙ ap stop_of
    (sym (find_turned key c.args.id c.args.awake.now c.requires
    ∙ find_of_position (λ (a : Awake). a.task.id == c.args.id) c.args.awake.now c.in-Some.at
    c.index-awake-at.result (sym c.place_of_awake.ensures ∙ c.in-Some.is) c.index-awake-at.is))

pub returns-in-Some-clause-goes : goal.returns-in-Some-clause-goes
returns-in-Some-clause-goes c =
    subst (λ (o : Option Awake). IfSome o (λ a. least a.task.mask ≡ Some c.stop_request.result.to))
    (sym (find_turned key c.args.id c.args.awake.now c.requires
    ∙ find_of_position (λ (a : Awake). a.task.id == c.args.id) c.args.awake.now c.in-Some.at
    c.index-awake-at.result (sym c.place_of_awake.ensures ∙ c.in-Some.is) c.index-awake-at.is))
    c.stop_request.ensures.goes

pub returns-in-None-clause-value : goal.returns-in-None-clause-value
returns-in-None-clause-value c =
    ap stop_of (sym (find_turned key c.args.id c.args.awake.now c.requires
    ∙ find_of_no_position (λ (a : Awake). a.task.id == c.args.id) c.args.awake.now (sym c.place_of_awake.ensures ∙ c.in-None.is)))
