-- For `Queue::mask_awake` of src/queue/commands.rt: sets the mask of a task that is awake here.
use Rattle.std.proofs.Common.{◌≡◌, ◌∙◌, sym, subst, is_some, true}
use Rattle.lb_queue.specs.contracts.queue.Queue.{the_view}
use Rattle.lb_queue.specs.Queue.{BookedQueue}
use Rattle.lb_queue.specs.Tasks.{awake_with}
use Rattle.lb_queue.proofs.Replies.{mask_bad, mask_good}
use Rattle.lb_queue.proofs.queue.Queue.mask_awake.Goals as goal

pub returns-then-is_bad-clause-step : goal.returns-then-is_bad-clause-step
returns-then-is_bad-clause-step c =
    let q = (the_view c.self.inside).state in
    let awake = subst (λ (b : BookedQueue). is_some (awake_with c.args.id b.state.awake) ≡ true) (sym c.self.view_is)
    c.requires in
    rw (← c.self.view_is) (mask_bad q c.args.at c.args.id c.max-self-inside.result c.args.mask awake
    (sym c.is_bad.ensures ∙ c.if-is_bad.true) c.max-self-inside.ensures)

pub returns-clause-step : goal.returns-clause-step
returns-clause-step c =
    let q = (the_view c.self.inside).state in
    let awake = subst (λ (b : BookedQueue). is_some (awake_with c.args.id b.state.awake) ≡ true) (sym c.self.view_is)
    c.requires in
    rw (← c.self.view_is) (mask_good q c.args.at c.args.id c.max-self-inside.result c.args.mask c.mask_awake.new.self
    c.self.inside.lists awake (sym c.is_bad.ensures ∙ c.if-is_bad.false) c.max-self-inside.ensures
    c.self.invariant.same_cpu c.mask_awake.ensures)
