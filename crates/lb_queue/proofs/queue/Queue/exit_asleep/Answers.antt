-- For `Queue::exit_asleep` of src/queue/commands.rt: an exit of a task that is not awake here.
use Rattle.std.proofs.Common.{◌≡◌, ◌∙◌, sym, subst, ap, None}
use Rattle.lb_queue.specs.contracts.queue.Queue.{the_view}
use Rattle.lb_queue.specs.Queue.{BookedQueue}
use Rattle.lb_queue.specs.Lists.{Lists}
use Rattle.lb_queue.specs.Tasks.{task_with, awake_with}
use Rattle.lb_queue.specs.Commands.{not_here}
use Rattle.lb_queue.proofs.Replies.{exit_asleep_done, exit_unknown, of_lists}
use Rattle.lb_queue.proofs.queue.Queue.exit_asleep.Goals as goal

pub returns-in-Some-clause-step : goal.returns-in-Some-clause-step
returns-in-Some-clause-step c =
    let none = subst (λ (b : BookedQueue). awake_with c.args.id b.state.awake ≡ None) (sym c.self.view_is) c.requires in
    rw (← c.self.view_is) (exit_asleep_done
    (the_view c.self.inside).state c.args.at c.args.id c.max-self-inside.result c.in-Some.task
    c.take_asleep.new.self c.add_gone.new.self c.self.inside.lists
    c.max-self-inside.ensures none c.in-Some.ensures.found c.take_asleep.ensures.lists c.add_gone.ensures)

pub returns-in-None-clause-step : goal.returns-in-None-clause-step
returns-in-None-clause-step c =
    let none = subst (λ (b : BookedQueue). awake_with c.args.id b.state.awake ≡ None) (sym c.self.view_is) c.requires in
    let q = (the_view c.self.inside).state in
    rw (← c.self.view_is) (c.refuse.ensures.step
    ∙ ap (λ (l : Lists). not_here (of_lists q l) c.args.at (task_with c.args.id l.gone)) c.in-None.ensures.same
    ∙ exit_unknown q c.args.at c.args.id none (sym c.in-None.ensures.found))
