-- For `Queue::take_push` of src/queue/hands.rt: a pending active request goes to the hand's destination: the
-- task nearest the back whose mask has it, the running one too, leaves in the hand, which has room for it.
use Rattle.std.proofs.Common.{◌≡◌, ◌∙◌, sym, ap, Option}
use Rattle.std.specs.Prelude.{is_some}
use Rattle.lb_queue.specs.contracts.queue.Queue.{the_view}
use Rattle.lb_queue.specs.declared.record.TaskRecord.{TaskRecord}
use Rattle.lb_queue.proofs.Pushes.{push_answer, push_done, push_hand, held}
use Rattle.lb_queue.proofs.queue.Queue.take_push.Goals.{in-Some, in-None}
use Rattle.lb_queue.proofs.queue.Queue.take_push.Goals as goal

pub returns-clause-answer : goal.returns-clause-answer
returns-clause-answer c =
    let found = rw c.to.ensures at c.take_pushed.ensures.found in
    let said : c.match-take_pushed.result ≡ is_some c.take_pushed.result = elim c.match-take_pushed.branch [
      | in-Some w ↦ w.result-is ∙ ap is_some (sym w.in-Some.is)
      | in-None w ↦ w.result-is ∙ ap is_some (sym w.in-None.is)
    ] in
    rw (← c.self.view_is) (said ∙ push_answer
    (the_view c.self.inside).state c.args.at c.args.hand.now.to c.max-self-inside.result c.take_pushed.result
    c.max-self-inside.ensures found)

pub returns-clause-step : goal.returns-clause-step
returns-clause-step c =
    let lists = rw c.to.ensures at c.take_pushed.ensures.lists in
    rw (← c.self.view_is) (push_done (the_view c.self.inside).state c.args.at c.args.hand.now.to
    c.max-self-inside.result c.take_pushed.new.self c.self.inside.lists c.max-self-inside.ensures lists)

pub returns-clause-hand : goal.returns-clause-hand
returns-clause-hand c =
    let found = rw c.to.ensures at c.take_pushed.ensures.found in
    let holds : c.match-take_pushed.hand ≡ held c.self.inside.cpu c.max-self-inside.result c.take_pushed.result
    c.args.hand.now = elim c.match-take_pushed.branch [
      | in-Some w ↦ w.hand-is ∙ w.load.ensures
          ∙ ap (λ (o : Option TaskRecord). held c.self.inside.cpu c.max-self-inside.result o c.args.hand.now) (sym w.in-Some.is)
      | in-None w ↦ w.hand-is ∙ w.load_nothing.ensures
          ∙ ap (λ (o : Option TaskRecord). held c.self.inside.cpu c.max-self-inside.result o c.args.hand.now) (sym w.in-None.is)
    ] in
    rw (← c.self.view_is) (holds ∙ push_hand
    (the_view c.self.inside).state c.args.at c.args.hand.now.to c.max-self-inside.result c.take_pushed.result
    c.args.hand.now c.max-self-inside.ensures found)
