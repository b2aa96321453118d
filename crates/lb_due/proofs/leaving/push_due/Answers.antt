-- For `push_due` of src/leaving.rt: the push that is due.
use Rattle.std.proofs.Common.{sym, ◌∙◌, ap, List}
use Rattle.lb_base.specs.declared.view.TaskView.{TaskView}
use Rattle.lb_active.specs.Choice.{pick_of}
use Rattle.lb_due.proofs.Pushing.{push_is}
use Rattle.lb_due.proofs.leaving.push_due.Goals as goal

pub returns-in-None : goal.returns-in-None
returns-in-None c =
    push_is c.args.queue.now.state c.args.at c.in-Some.to _ _ (sym c.active.ensures ∙ c.in-Some.is)
    (sym (c.active_pick.ensures ∙ ap (λ (vs : List TaskView). pick_of vs c.in-Some.to)
    (c.deref.ensures.value ∙ c.in_ok-views.ensures)) ∙ c.in-None.is) c.new.ensures

pub returns : goal.returns
returns c =
    push_is c.args.queue.now.state c.args.at c.in-Some.to _ _ (sym c.active.ensures ∙ c.in-Some.is)
    (sym (c.active_pick.ensures ∙ ap (λ (vs : List TaskView). pick_of vs c.in-Some.to)
    (c.deref.ensures.value ∙ c.in_ok-views.ensures)) ∙ c.in-Some-active_pick.is)
    c.in_ok-from_slice-in-Some-active_pick.ensures
