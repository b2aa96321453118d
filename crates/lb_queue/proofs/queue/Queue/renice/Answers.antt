-- For `Queue::renice` of src/queue/commands.rt: sets a task's nice value, -20 to 19. Its signal stays.
use Rattle.std.proofs.Common.{ℤ, w32, ◌≡◌, ◌∙◌, sym, subst, ap, is_some, false}
use Rattle.std.proofs.lemmas.Int.{to_z-of_z}
use Rattle.lb_queue.specs.contracts.queue.Queue.{the_view}
use Rattle.lb_queue.specs.Queue.{BookedQueue}
use Rattle.lb_queue.specs.Lists.{Lists}
use Rattle.lb_queue.specs.Tasks.{task_with, awake_with}
use Rattle.lb_queue.specs.Commands.{changed_awake, changed_task, reniced, with_nice}
use Rattle.lb_queue.proofs.Replies.{nice_awake, nice_asleep, nice_unknown}
use Rattle.lb_queue.proofs.queue.Queue.renice.Goals as goal

pub returns-then-is_awake-clause-step : goal.returns-then-is_awake-clause-step
returns-then-is_awake-clause-step c =
    let given = c.renice_awake.ensures ∙ ap
    (λ (z : ℤ). let l : Lists = record c.self.inside.lists {
      awake = changed_awake c.args.id
          (reniced z) c.self.inside.lists.awake;
    } in l) (to_z-of_z w32 c.args.nice c.ranges.nice) in
    rw (← c.self.view_is) (nice_awake (the_view c.self.inside).state c.args.at c.args.id c.max-self-inside.result
    c.args.nice c.renice_awake.new.self c.self.inside.lists
    (sym c.is_awake.ensures ∙ c.if-is_awake.true) c.max-self-inside.ensures given)

pub returns-then-is_asleep-clause-step : goal.returns-then-is_asleep-clause-step
returns-then-is_asleep-clause-step c =
    let given = c.renice_asleep.ensures ∙ ap
    (λ (z : ℤ). let l : Lists = record c.self.inside.lists {
      asleep = changed_task c.args.id
          (with_nice z) c.self.inside.lists.asleep;
    } in l) (to_z-of_z w32 c.args.nice c.ranges.nice) in
    rw (← c.self.view_is) (nice_asleep (the_view c.self.inside).state c.args.at c.args.id
    c.max-self-inside-then-is_asleep.result c.args.nice c.renice_asleep.new.self c.self.inside.lists
    (sym c.is_awake.ensures ∙ c.if-is_awake.false)
    (sym c.is_asleep.ensures ∙ c.if-is_asleep.true) c.max-self-inside-then-is_asleep.ensures given)

pub returns-clause-step : goal.returns-clause-step
returns-clause-step c =
    let not_awake = subst (λ (b : BookedQueue). is_some (awake_with c.args.id b.state.awake) ≡ false) c.self.view_is
    (sym c.is_awake.ensures ∙ c.if-is_awake.false) in
    let not_asleep = subst (λ (b : BookedQueue). is_some (task_with c.args.id b.state.asleep) ≡ false) c.self.view_is
    (sym c.is_asleep.ensures ∙ c.if-is_asleep.false) in
    c.refuse.ensures.step ∙ nice_unknown c.args.self.now.state c.args.at c.args.id c.args.nice not_awake not_asleep
