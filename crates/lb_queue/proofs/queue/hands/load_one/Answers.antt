-- For `load_one` of src/queue/hands.rt: a task that waits leaves in a hand.
use Rattle.std.proofs.Common.{◌∙◌, ap, List}
use Rattle.lb_queue.specs.declared.awake.Awake.{Awake}
use Rattle.lb_queue.specs.Lists.{Lists}
use Rattle.lb_queue.proofs.Taking.{waits_out}
use Rattle.lb_queue.proofs.queue.hands.load_one.Goals as goal

pub returns-in-Some-clause-lists : goal.returns-in-Some-clause-lists
returns-in-Some-clause-lists c = c.take_awake.ensures.lists
    ∙ ap (λ (xs : List Awake). let l : Lists = record c.args.lists.now { awake = xs } in l)
    (waits_out c.args.hand.now.to c.args.clock c.args.id c.args.lists.now.awake c.requires.can_go)
