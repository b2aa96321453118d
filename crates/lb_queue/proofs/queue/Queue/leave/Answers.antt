-- For `Queue::leave` of src/queue/hands.rt: a task that has to wake elsewhere leaves in a hand that goes
-- there, and has room for it.
use Rattle.std.proofs.Common.{◌≡◌, ◌∙◌, sym, subst, Some}
use Rattle.lb_queue.specs.contracts.queue.Queue.{the_view}
use Rattle.lb_queue.specs.Queue.{BookedQueue, away}
use Rattle.lb_queue.proofs.Leaving.{stays_not, leaves_there, leave_done, leave_hand}
use Rattle.lb_queue.proofs.queue.Queue.leave.Goals.{in-Some, in_default}
use Rattle.lb_queue.proofs.queue.Queue.leave.Goals as goal

pub load-requires-clause-permitted : goal.load-requires-clause-permitted
load-requires-clause-permitted c =
    let away = subst (λ (b : BookedQueue). away b.state c.args.id ≡ Some c.args.hand.now.to) (sym c.self.view_is)
    c.requires.away in
    rw c.advanced.ensures.value (leaves_there
    (the_view c.self.inside).state c.args.id c.in-Some.task c.args.hand.now.to c.in-Some.ensures.found away)

pub returns-clause-step : goal.returns-clause-step
returns-clause-step c =
    let q = (the_view c.self.inside).state in
    let fact = subst (λ (b : BookedQueue). away b.state c.args.id ≡ Some c.args.hand.now.to) (sym c.self.view_is)
    c.requires.away in
    elim c.match-take_asleep.branch [
      | in-Some w ↦ rw (← c.self.view_is)
          (leave_done q c.args.at c.args.id c.max-self-inside.result w.in-Some.task c.take_asleep.new.self
          c.self.inside.lists c.max-self-inside.ensures w.in-Some.ensures.found c.take_asleep.ensures.lists)
      | in_default w ↦ absurd (stays_not q c.args.id c.args.hand.now.to fact (sym w.in_default.is ∙ c.take_asleep.ensures.found))
    ]

pub returns-clause-hand : goal.returns-clause-hand
returns-clause-hand c =
    let q = (the_view c.self.inside).state in
    let fact = subst (λ (b : BookedQueue). away b.state c.args.id ≡ Some c.args.hand.now.to) (sym c.self.view_is)
    c.requires.away in
    elim c.match-take_asleep.branch [
      | in-Some w ↦ rw (← c.self.view_is)
          (w.hand-is ∙ w.load.ensures ∙ leave_hand q c.args.at c.args.id c.max-self-inside.result w.in-Some.task
          w.advanced.result c.args.hand.now c.max-self-inside.ensures w.in-Some.ensures.found w.advanced.ensures.value)
      | in_default w ↦ absurd (stays_not q c.args.id c.args.hand.now.to fact (sym w.in_default.is ∙ c.take_asleep.ensures.found))
    ]
