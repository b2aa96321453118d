-- For `join` of src/lists.rt: a task joins the front, which is the end of the vector.
use Rattle.std.proofs.Common.{rules, ◌∙◌, ap}
use Rattle.lb_queue.specs.Tasks.{picked}
use Rattle.lb_queue.proofs.Turned.{joined_waiting, joined_picked}
use Rattle.lb_queue.proofs.lists.join.Goals as goal

pub returns-then-runs-clause-items : goal.returns-then-runs-clause-items
returns-then-runs-clause-items c = rw c.push_reserved.ensures.items
    (joined_waiting c.args.clock c.args.task c.waiting.result c.args.awake.now.items (search rules) c.waiting.ensures)

pub returns-else-runs-clause-items : goal.returns-else-runs-clause-items
returns-else-runs-clause-items c =
    rw c.push_reserved-else-runs.ensures.items
    (joined_picked c.args.clock c.args.task c.picked.result c.args.awake.now.items (search rules)
    (c.picked.ensures ∙ ap (picked c.args.clock) c.waiting-else-runs.ensures))
