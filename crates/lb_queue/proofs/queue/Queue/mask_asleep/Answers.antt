-- For `Queue::mask_asleep` of src/queue/commands.rt: sets the mask of a task that sleeps here.
use Rattle.std.proofs.Common.{◌≡◌, ◌∙◌, sym, subst, is_some, false, true}
use Rattle.lb_queue.specs.contracts.queue.Queue.{the_view}
use Rattle.lb_queue.specs.Queue.{BookedQueue}
use Rattle.lb_queue.specs.Tasks.{task_with, awake_with}
use Rattle.lb_queue.proofs.Replies.{mask_bad_asleep, mask_good_asleep}
use Rattle.lb_queue.proofs.queue.Queue.mask_asleep.Goals as goal

pub returns-then-is_bad-clause-step : goal.returns-then-is_bad-clause-step
returns-then-is_bad-clause-step c =
    let q = (the_view c.self.inside).state in
    let awake = subst (λ (b : BookedQueue). is_some (awake_with c.args.id b.state.awake) ≡ false) (sym c.self.view_is)
    c.requires.awake in
    let asleep = subst (λ (b : BookedQueue). is_some (task_with c.args.id b.state.asleep) ≡ true) (sym c.self.view_is)
    c.requires.asleep in
    rw (← c.self.view_is) (mask_bad_asleep q c.args.at c.args.id c.max-self-inside.result c.args.mask awake asleep
    (sym c.is_bad.ensures ∙ c.if-is_bad.true) c.max-self-inside.ensures)

pub returns-clause-step : goal.returns-clause-step
returns-clause-step c =
    let q = (the_view c.self.inside).state in
    let awake = subst (λ (b : BookedQueue). is_some (awake_with c.args.id b.state.awake) ≡ false) (sym c.self.view_is)
    c.requires.awake in
    let asleep = subst (λ (b : BookedQueue). is_some (task_with c.args.id b.state.asleep) ≡ true) (sym c.self.view_is)
    c.requires.asleep in
    rw (← c.self.view_is) (mask_good_asleep q c.args.at c.args.id c.max-self-inside.result c.args.mask
    c.mask_asleep.new.self c.self.inside.lists awake asleep
    (sym c.is_bad.ensures ∙ c.if-is_bad.false) c.max-self-inside.ensures c.mask_asleep.ensures)
