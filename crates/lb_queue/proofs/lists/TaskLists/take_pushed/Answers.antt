-- For `TaskLists::take_pushed` of src/lists.rt: the awake task nearest the back that may run at a CPU is
-- taken out.
use Rattle.std.proofs.Common.{List, ◌∙◌, reverse, map, ap}
use Rattle.lb_active.specs.Choice.{pick_of}
use Rattle.lb_base.specs.declared.view.TaskView.{TaskView}
use Rattle.lb_queue.specs.declared.awake.Awake.{Awake}
use Rattle.lb_queue.specs.Values.{view_at}
use Rattle.lb_queue.specs.contracts.lists.TaskLists.{the_view}
use Rattle.lb_queue.proofs.Keeping.{once_turned}
use Rattle.lb_queue.proofs.Pushes.{pushed_there}
use Rattle.lb_queue.proofs.lists.TaskLists.take_pushed.Goals as goal

pub returns-in-Some-clause-permitted : goal.returns-in-Some-clause-permitted
returns-in-Some-clause-permitted c =
    let l = the_view c.self.inside in
    let seen = c.deref-2.ensures.value ∙ c.fill_views.ensures.items
    ∙ ap (λ (xs : List Awake). map (view_at c.args.clock) (reverse xs)) c.deref.ensures.value in
    pushed_there c.args.to c.args.clock c.args.clock l.awake c.in-Some.id c.take_awake.result
    (once_turned l.awake l.asleep l.gone c.self.invariant.sound)
    (c.in-Some.ensures ∙ ap (λ (vs : List TaskView). pick_of vs c.args.to) seen) c.take_awake.ensures.found
