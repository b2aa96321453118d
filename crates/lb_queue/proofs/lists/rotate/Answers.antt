-- For `rotate` of src/lists.rt: where two or more are awake, the one nearest the back that does not run takes
-- the place of the running one.
use Rattle.std.proofs.Common.{◌≤◌, ◌∙◌, sym, arith, length}
use Rattle.lb_queue.proofs.Ticking.{rotate_short, rotate_none, rotate_some}
use Rattle.lb_queue.proofs.lists.rotate.Goals as goal

pub returns-then-len-lt2-clause-items : goal.returns-then-len-lt2-clause-items
returns-then-len-lt2-clause-items c = let o = c.args.awake.now.ok.0 in let l = c.len.ensures in let t =
    c.if-len-lt2.true in rotate_short c.args.clock c.args.awake.now.items (omega arith)

pub returns-in-Some-clause-items : goal.returns-in-Some-clause-items
returns-in-Some-clause-items c =
    let o = c.args.awake.now.ok.0 in
    let l = c.len.ensures in
    let t = c.if-len-lt2.false in
    let two : 2 ≤ length c.args.awake.now.items = omega arith in
    rw c.push_reserved.ensures.items (rotate_some c.args.clock c.args.awake.now.items c.remove-next.new.self.items
    c.preempt_all.new.awake.items c.in-Some.at c.remove-next.result c.picked.result two
    (rw c.deref.ensures.value at (sym c.first_waiting.ensures ∙ c.in-Some.is)) c.requires c.remove-next.ensures.value
    c.remove-next.ensures.items c.preempt_all.ensures.items c.picked.ensures)

pub returns-in_default-clause-items : goal.returns-in_default-clause-items
returns-in_default-clause-items c =
    let o = c.args.awake.now.ok.0 in
    let l = c.len.ensures in
    let t = c.if-len-lt2.false in
    let two : 2 ≤ length c.args.awake.now.items = omega arith in
    rotate_none c.args.clock c.args.awake.now.items two
    (rw c.deref.ensures.value at (sym c.first_waiting.ensures ∙ c.in_default.is))
