-- For `Queue::take_stop` of src/queue/hands.rt: a task whose pending stop request goes to the hand's
-- destination leaves in the hand, which has room for it.
use Rattle.std.proofs.Common.{◌≡◌, ◌∙◌, sym, subst, Some}
use Rattle.lb_queue.specs.contracts.queue.Queue.{the_view}
use Rattle.lb_queue.specs.Queue.{BookedQueue}
use Rattle.lb_queue.specs.Hands.{stop_to}
use Rattle.lb_queue.proofs.Leaving.{asked_not, stops_there, stop_done, stop_hand}
use Rattle.lb_queue.proofs.queue.Queue.take_stop.Goals.{in-Some, in_default}
use Rattle.lb_queue.proofs.queue.Queue.take_stop.Goals as goal

pub load-requires-clause-permitted : goal.load-requires-clause-permitted
load-requires-clause-permitted c =
    let stop = subst (λ (b : BookedQueue). stop_to b.state c.args.id ≡ Some c.args.hand.now.to) (sym c.self.view_is)
    c.requires.pending in
    stops_there (the_view c.self.inside).state c.args.id c.max-self-inside.result c.in-Some.task c.args.hand.now.to
    c.in-Some.ensures.found stop

pub returns-clause-step : goal.returns-clause-step
returns-clause-step c =
    let q = (the_view c.self.inside).state in
    let fact = subst (λ (b : BookedQueue). stop_to b.state c.args.id ≡ Some c.args.hand.now.to) (sym c.self.view_is)
    c.requires.pending in
    elim c.match-take_awake.branch [
      | in-Some w ↦ rw (← c.self.view_is)
          (stop_done q c.args.at c.args.id c.max-self-inside.result w.in-Some.task c.take_awake.new.self
          c.self.inside.lists c.max-self-inside.ensures w.in-Some.ensures.found c.take_awake.ensures.lists)
      | in_default w ↦ absurd (asked_not q c.args.id c.max-self-inside.result c.args.hand.now.to fact
          (sym w.in_default.is ∙ c.take_awake.ensures.found))
    ]

pub returns-clause-hand : goal.returns-clause-hand
returns-clause-hand c =
    let q = (the_view c.self.inside).state in
    let fact = subst (λ (b : BookedQueue). stop_to b.state c.args.id ≡ Some c.args.hand.now.to) (sym c.self.view_is)
    c.requires.pending in
    elim c.match-take_awake.branch [
      | in-Some w ↦ rw (← c.self.view_is)
          (w.hand-is ∙ w.load.ensures ∙ stop_hand q c.args.at c.args.id c.max-self-inside.result w.in-Some.task
          c.args.hand.now c.max-self-inside.ensures w.in-Some.ensures.found)
      | in_default w ↦ absurd (asked_not q c.args.id c.max-self-inside.result c.args.hand.now.to fact
          (sym w.in_default.is ∙ c.take_awake.ensures.found))
    ]
