-- For `Queue::refuse_wake` of src/queue/commands.rt: a wake of a task that does not sleep here.
use Rattle.std.proofs.Common.{◌≡◌, ◌∙◌, sym, subst, None, is_some, false}
use Rattle.lb_queue.specs.contracts.queue.Queue.{the_view}
use Rattle.lb_queue.specs.Queue.{BookedQueue}
use Rattle.lb_queue.specs.Tasks.{task_with, awake_with}
use Rattle.lb_queue.proofs.Replies.{wake_already, wake_unknown}
use Rattle.lb_queue.proofs.queue.Queue.refuse_wake.Goals as goal

pub returns-then-is_awake-clause-step : goal.returns-then-is_awake-clause-step
returns-then-is_awake-clause-step c =
    let none = subst (λ (b : BookedQueue). task_with c.args.id b.state.asleep ≡ None) (sym c.self.view_is) c.requires in
    rw (← c.self.view_is) (rw c.max-self-inside.ensures
    (wake_already (the_view c.self.inside).state c.args.at c.args.id none (sym c.is_awake.ensures ∙ c.if-is_awake.true)))

pub returns-clause-step : goal.returns-clause-step
returns-clause-step c =
    let not_awake = subst (λ (b : BookedQueue). is_some (awake_with c.args.id b.state.awake) ≡ false) c.self.view_is
    (sym c.is_awake.ensures ∙ c.if-is_awake.false) in
    c.refuse.ensures.step ∙ wake_unknown c.args.self.now.state c.args.at c.args.id c.requires not_awake
