-- For `Queue::take` of src/queue/hands.rt: a pull takes out of the awake tasks what docs/rules/picked-list.md
-- picks, at most [`EXAMINED_AT_MOST`] tasks: they leave in the hand in the order in which they are picked,
-- and the others stand in the order that the examination left.
use Rattle.std.proofs.Common.{◌≡◌, ◌≤◌, ◌∙◌, ℕ, List, sym, ap, subst, Some, ◌++◌, map}
use Rattle.lb_queue.specs.Lists.{Lists}
use Rattle.lb_queue.specs.declared.answers.Taken.{Taken}
use Rattle.lb_queue.specs.Hands.{HandState, in_order}
use Rattle.lb_queue.specs.Tasks.{occurs, set_down}
use Rattle.lb_queue.specs.Pulls.{AllCanGo}
use Rattle.lb_queue.specs.Values.{view_at}
use Rattle.lb_queue.specs.contracts.queue.Queue.{the_view}
use Rattle.lb_queue.proofs.PickedIds.{picked_once, picked_can_go}
use Rattle.lb_queue.proofs.Pulling.{pulling, pulling_turned, pull_done, pull_hand, pull_answer}
use Rattle.lb_queue.proofs.queue.Queue.take.Goals as goal

pub load_all-requires-clause-once : goal.load_all-requires-clause-once
load_all-requires-clause-once c =
    let ids = c.deref.ensures.value ∙ c.examine.ensures.ids in
    λ u. subst (λ (is : List ℕ). occurs u is ≤ 1) (sym ids)
    (picked_once c.args.env.now c.max-self-inside.result c.self.inside.lists.awake c.examine.ensures.once u)

pub load_all-requires-clause-can_go : goal.load_all-requires-clause-can_go
load_all-requires-clause-can_go c =
    let ids = c.deref.ensures.value ∙ c.examine.ensures.ids in
    let env = c.args.env.now in
    let l = c.self.inside.lists in
    let view = map (view_at c.max-self-inside.result) l.awake in
    let go = picked_can_go env c.max-self-inside.result l.awake c.examine.ensures.once (c.picked_is_sound.ensures env view) in
    let here = subst (λ (is : List ℕ). AllCanGo env.to l.awake is) (sym ids) go in
    let there = subst (λ (to : ℕ). AllCanGo to l.awake c.deref.result.now) (sym c.requires.to) here in
    subst (λ (m : Lists). AllCanGo c.args.hand.now.to m.awake c.deref.result.now) (sym c.examine.ensures.same) there

pub set_order-requires : goal.set_order-requires
set_order-requires c =
    let ids = c.deref.ensures.value ∙ c.examine.ensures.ids in
    let order = c.deref-2.ensures.value ∙ c.examine.ensures.order in
    let h = pulling c.args.env.now c.max-self-inside.result c.self.inside.lists c.examine.new.self c.deref.result.now
    c.deref-2.result.now c.load_all.new.lists c.examine.ensures.once c.examine.ensures.same ids order c.load_all.ensures.lists in
    pulling_turned c.args.env.now c.max-self-inside.result c.self.inside.lists c.deref.result.now c.deref-2.result.now
    c.load_all.new.lists h

pub returns-clause-answer : goal.returns-clause-answer
returns-clause-answer c =
    let e = c.examine.ensures in
    let t : Taken = record {
      some_pinned = c.examine.new.picked.some_pinned;
      all_pinned = c.examine.new.picked.all_pinned;
      left = c.examine.new.picked.left;
    } in
    rw (← c.self.view_is) (pull_answer (the_view c.self.inside).state c.args.at c.max-self-inside.result
    c.args.env.now t c.max-self-inside.ensures e.some_pinned e.all_pinned e.left)

pub returns-clause-step : goal.returns-clause-step
returns-clause-step c =
    let ids = c.deref.ensures.value ∙ c.examine.ensures.ids in
    let order = c.deref-2.ensures.value ∙ c.examine.ensures.order in
    let h = pulling c.args.env.now c.max-self-inside.result c.self.inside.lists c.examine.new.self c.deref.result.now
    c.deref-2.result.now c.load_all.new.lists c.examine.ensures.once c.examine.ensures.same ids order c.load_all.ensures.lists in
    rw (← c.self.view_is) (pull_done (the_view c.self.inside).state c.args.at c.max-self-inside.result c.args.env.now
    c.self.inside.lists c.deref.result.now c.deref-2.result.now c.load_all.new.lists c.set_order.new.self h
    c.max-self-inside.ensures c.set_order.ensures)

pub returns-clause-hand : goal.returns-clause-hand
returns-clause-hand c =
    let ids = c.deref.ensures.value ∙ c.examine.ensures.ids in
    let h = c.args.hand.now in
    let clock = c.max-self-inside.result in
    let given : c.load_all.new.hand ≡ record h {
      source = Some c.self.inside.cpu;
      moment = clock;
      tasks = h.tasks ++ map (set_down clock) (in_order c.deref.result.now c.self.inside.lists.awake);
    } =
    c.load_all.ensures.hand ∙ ap (λ (l : Lists). let k : HandState =
    record h {
      source = Some c.self.inside.cpu;
      moment = clock;
      tasks = h.tasks ++ map (set_down clock) (in_order c.deref.result.now l.awake);
    } in k) c.examine.ensures.same in
    rw (← c.self.view_is) (given ∙ pull_hand
    (the_view c.self.inside).state c.args.at clock c.args.env.now c.deref.result.now h c.max-self-inside.ensures ids)
