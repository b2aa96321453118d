-- For `Queue::wake` of src/queue/commands.rt: a task that sleeps here wakes: it joins the front, and is
-- picked where nobody runs.
use Rattle.std.proofs.Common.{◌≡◌, ◌∙◌, sym, subst, ap, refl, None}
use Rattle.lb_queue.specs.contracts.queue.Queue.{the_view}
use Rattle.lb_queue.specs.Queue.{BookedQueue, away}
use Rattle.lb_queue.specs.Commands.{wake}
use Rattle.lb_queue.specs.Lists.{Lists}
use Rattle.lb_queue.specs.Tasks.{task_with}
use Rattle.lb_queue.proofs.Replies.{wakes_here, wake_done, of_lists}
use Rattle.lb_queue.proofs.queue.Queue.wake.Goals as goal

pub join-requires-clause-permitted : goal.join-requires-clause-permitted
join-requires-clause-permitted c =
    let q = (the_view c.self.inside).state in
    let stays = subst (λ (b : BookedQueue). away b.state c.args.id ≡ None) (sym c.self.view_is) c.requires in
    let here = wakes_here q c.args.id c.in-Some.task c.in-Some.ensures.found stays c.advanced.ensures.somewhere in
    let cpu : c.take_asleep.new.self.cpu ≡ c.self.inside.cpu =
    ap (λ (l : Lists). l.cpu) c.take_asleep.ensures.lists ∙ c.self.invariant.same_cpu in
    rw (cpu, c.advanced.ensures.value) here

pub refuse_wake-requires : goal.refuse_wake-requires
refuse_wake-requires c = ap (λ (l : Lists). task_with c.args.id l.asleep) c.in-None.ensures.same ∙ sym c.in-None.ensures.found

pub returns-in-Some-clause-step : goal.returns-in-Some-clause-step
returns-in-Some-clause-step c =
    rw (← c.self.view_is) (wake_done (the_view c.self.inside).state c.args.at c.args.id c.max-self-inside.result
    c.sample-self-inside.result c.in-Some.task c.advanced.result c.take_asleep.new.self c.join.new.self c.self.inside.lists
    c.max-self-inside.ensures c.in-Some.ensures.found c.take_asleep.ensures.lists c.advanced.ensures.value
    c.join.ensures (c.sample-self-inside.ensures ∙ rw c.is_idle.ensures refl))

pub returns-in-None-clause-step : goal.returns-in-None-clause-step
returns-in-None-clause-step c =
    rw (← c.self.view_is) (c.refuse_wake.ensures.step
    ∙ ap (λ (l : Lists). wake (of_lists (the_view c.self.inside).state l) c.args.at c.args.id) c.in-None.ensures.same)
