-- For `Queue::refuse_sleep` of src/queue/commands.rt: a sleep of a task that is not awake here.
use Rattle.std.proofs.Common.{◌≡◌, ◌∙◌, sym, subst, None, is_some, false}
use Rattle.lb_queue.specs.contracts.queue.Queue.{the_view}
use Rattle.lb_queue.specs.Queue.{BookedQueue}
use Rattle.lb_queue.specs.Tasks.{task_with, awake_with}
use Rattle.lb_queue.proofs.Replies.{sleep_already, sleep_unknown}
use Rattle.lb_queue.proofs.queue.Queue.refuse_sleep.Goals as goal

pub returns-then-is_asleep-clause-step : goal.returns-then-is_asleep-clause-step
returns-then-is_asleep-clause-step c =
    let none = subst (λ (b : BookedQueue). awake_with c.args.id b.state.awake ≡ None) (sym c.self.view_is) c.requires in
    rw (← c.self.view_is) (rw c.max-self-inside.ensures
    (sleep_already (the_view c.self.inside).state c.args.at c.args.id none (sym c.is_asleep.ensures ∙ c.if-is_asleep.true)))

pub returns-clause-step : goal.returns-clause-step
returns-clause-step c =
    let not_asleep = subst (λ (b : BookedQueue). is_some (task_with c.args.id b.state.asleep) ≡ false) c.self.view_is
    (sym c.is_asleep.ensures ∙ c.if-is_asleep.false) in
    c.refuse.ensures.step ∙ sleep_unknown c.args.self.now.state c.args.at c.args.id c.requires not_asleep
