-- For `load_all` of src/queue/hands.rt: tasks that wait leave in a hand, one after the other.
use Rattle.std.proofs.Common.{◌<◌, ◌∙◌, ℕ, List, length, take, get_or, arith, sym, subst, ap}
use Rattle.std.proofs.lemmas.List.{take_more, length-take-le}
use Rattle.lb_queue.specs.declared.awake.Awake.{Awake}
use Rattle.lb_queue.specs.Lists.{Lists}
use Rattle.lb_queue.proofs.Taking.{IsTaking, taking_none, taking_next, taking_room, taking_more, taking_all, once_next}
use Rattle.lb_queue.proofs.queue.hands.load_all.Goals as goal

pub loop-id-init : goal.loop-id-init
loop-id-init c = taking_none c.args.cpu c.args.clock c.args.lists.now c.args.hand.now c.load_nothing.new.self
    c.load_nothing.ensures

pub load_one-requires-clause-can_go : goal.load_one-requires-clause-can_go
load_one-requires-clause-can_go c =
    let i = c.loop-id.id-index in
    let ids = c.args.ids.now in
    let lt : i < length ids = c.loop-id-test.true in
    taking_next c.args.cpu c.args.clock (take i ids)
    (get_or ids i 0) c.args.lists.now c.args.hand.now c.loop-id.lists c.loop-id.hand c.loop-id.invariant
    (once_next ids i c.requires.once lt) (c.requires.can_go i 0 lt)

pub load_one-requires-clause-room : goal.load_one-requires-clause-room
load_one-requires-clause-room c =
    let i = c.loop-id.id-index in
    let ids = c.args.ids.now in
    let lt : i < length ids = c.loop-id-test.true in
    let l = length-take-le i ids (omega arith) in
    taking_room c.args.cpu c.args.clock (take i ids) c.args.lists.now c.args.hand.now c.loop-id.lists c.loop-id.hand
    c.loop-id.invariant (let r = c.requires.room in omega arith)

pub loop-id-preserved : goal.loop-id-preserved
loop-id-preserved c =
    let i = c.loop-id.id-index in
    let ids = c.args.ids.now in
    let lt : i < length ids = c.loop-id-test.true in
    subst (λ (is : List ℕ). IsTaking c.args.cpu c.args.clock is c.args.lists.now c.args.hand.now c.load_one.new.lists
    c.load_one.new.hand) (sym (take_more ids i 0 lt))
    (taking_more c.args.cpu c.args.clock (take i ids)
    (get_or ids i 0) c.args.lists.now c.args.hand.now c.loop-id.lists c.load_one.new.lists c.loop-id.hand
    c.load_one.new.hand c.loop-id.invariant (once_next ids i c.requires.once lt) c.load_one.ensures.lists c.load_one.ensures.hand)

pub returns-clause-lists : goal.returns-clause-lists
returns-clause-lists c =
    let all = taking_all c.args.cpu c.args.clock c.args.ids.now c.loop-id.id-index c.args.lists.now c.args.hand.now
    c.loop-id.lists c.loop-id.hand c.loop-id-test.false c.loop-id.invariant in
    all.lists ∙ ap (λ (xs : List Awake). let l : Lists = record c.args.lists.now { awake = xs } in l) all.awake

pub returns-clause-hand : goal.returns-clause-hand
returns-clause-hand c =
    (taking_all c.args.cpu c.args.clock c.args.ids.now c.loop-id.id-index c.args.lists.now c.args.hand.now
    c.loop-id.lists c.loop-id.hand c.loop-id-test.false c.loop-id.invariant).hand_is
