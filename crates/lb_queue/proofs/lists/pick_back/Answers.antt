-- For `pick_back` of src/lists.rt: the task at the back is picked, and goes to the front.
use Rattle.std.proofs.Common.{◌<◌, ◌∙◌, arith, sym, length}
use Rattle.std.proofs.lemmas.Bool.{eqb-true, eqb-false}
use Rattle.lb_queue.proofs.Turned.{nobody_picked, back_picked}
use Rattle.lb_queue.proofs.lists.pick_back.Goals as goal

pub returns-then-is_empty-clause-items : goal.returns-then-is_empty-clause-items
returns-then-is_empty-clause-items c = let z = eqb-true _ 0 (sym c.is_empty.ensures ∙ c.if-is_empty.true) in let o =
    c.args.awake.now.ok.0 in nobody_picked c.args.clock c.args.awake.now.items (omega arith)

pub returns-clause-items : goal.returns-clause-items
returns-clause-items c =
    let z = eqb-false _ 0 (sym c.is_empty.ensures ∙ c.if-is_empty.false) in
    let o = c.args.awake.now.ok.0 in
    let some : 0 < length c.args.awake.now.items = omega arith in
    rw c.push_reserved.ensures.items (back_picked c.args.clock c.args.awake.now.items c.remove-back.new.self.items
    c.remove-back.result c.picked.result some c.remove-back.ensures.value c.remove-back.ensures.items c.picked.ensures)
