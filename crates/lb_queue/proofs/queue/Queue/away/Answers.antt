-- For `Queue::away` of src/queue.rt: the least CPU of the task's mask, exactly where the task sleeps here and
-- its mask lacks this CPU: where it has to wake.
use Rattle.std.proofs.Common.{◌∙◌, sym}
use Rattle.lb_queue.specs.contracts.queue.Queue.{the_view}
use Rattle.lb_queue.proofs.Replies.{away_none, away_here, away_there}
use Rattle.lb_queue.proofs.queue.Queue.away.Goals as goal

pub returns-in-None : goal.returns-in-None
returns-in-None c = rw (← c.self.view_is) (away_none (the_view c.self.inside).state c.args.id c.in-None.ensures.found)

pub returns-then-has : goal.returns-then-has
returns-then-has c = rw (← c.self.view_is)
    (away_here (the_view c.self.inside).state c.args.id c.in-Some.task c.in-Some.ensures.found
    (sym c.has.ensures ∙ c.if-has.true))

pub returns-else-has : goal.returns-else-has
returns-else-has c = rw (← c.self.view_is)
    (c.stop_target.ensures ∙ away_there (the_view c.self.inside).state c.args.id c.in-Some.task
    c.in-Some.ensures.found (sym c.has.ensures ∙ c.if-has.false))
