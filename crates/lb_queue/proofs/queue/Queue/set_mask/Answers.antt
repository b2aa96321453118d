-- For `Queue::set_mask` of src/queue/commands.rt: sets a task's mask.
use Rattle.std.proofs.Common.{◌≡◌, ◌∙◌, sym, subst, is_some, false}
use Rattle.lb_queue.specs.Queue.{BookedQueue}
use Rattle.lb_queue.specs.Tasks.{task_with, awake_with}
use Rattle.lb_queue.proofs.Replies.{mask_unknown}
use Rattle.lb_queue.proofs.queue.Queue.set_mask.Goals as goal

pub returns-else-is_asleep-clause-step : goal.returns-else-is_asleep-clause-step
returns-else-is_asleep-clause-step c =
    let not_awake = subst (λ (b : BookedQueue). is_some (awake_with c.args.id b.state.awake) ≡ false) c.self.view_is
    (sym c.is_awake.ensures ∙ c.if-is_awake.false) in
    let not_asleep = subst (λ (b : BookedQueue). is_some (task_with c.args.id b.state.asleep) ≡ false) c.self.view_is
    (sym c.is_asleep.ensures ∙ c.if-is_asleep.false) in
    c.refuse.ensures.step ∙ mask_unknown c.args.self.now.state c.args.at c.args.id c.args.mask not_awake not_asleep
