-- For `Queue::exit` of src/queue/commands.rt: a task that is awake or asleep here ends; one that is awake
-- falls asleep first.
use Rattle.std.proofs.Common.{◌∙◌, ap, refl}
use Rattle.lb_queue.specs.contracts.queue.Queue.{the_view}
use Rattle.lb_queue.specs.Lists.{Lists}
use Rattle.lb_queue.specs.Tasks.{awake_with}
use Rattle.lb_queue.specs.Commands.{exit}
use Rattle.lb_queue.proofs.Replies.{exit_done, not_awake, of_lists}
use Rattle.lb_queue.proofs.queue.Queue.exit.Goals as goal

pub exit_asleep-requires : goal.exit_asleep-requires
exit_asleep-requires c = ap (λ (l : Lists). awake_with c.args.id l.awake) c.in-None.ensures.same
    ∙ not_awake c.max-clock.result _ c.in-None.ensures.found

pub returns-in-Some-clause-step : goal.returns-in-Some-clause-step
returns-in-Some-clause-step c =
    rw (← c.self.view_is) (exit_done (the_view c.self.inside).state c.args.at c.args.id c.max-clock.result
    c.in-Some.task c.idle_from-self-inside.result c.take_awake.new.self c.add_gone.new.self c.self.inside.lists
    c.max-clock.ensures c.in-Some.ensures.found c.take_awake.ensures.lists c.add_gone.ensures
    (c.idle_from-self-inside.ensures ∙ rw c.is_idle.ensures refl))

pub returns-in-None-clause-step : goal.returns-in-None-clause-step
returns-in-None-clause-step c =
    rw (← c.self.view_is) (c.exit_asleep.ensures.step
    ∙ ap (λ (l : Lists). exit (of_lists (the_view c.self.inside).state l) c.args.at c.args.id) c.in-None.ensures.same)
