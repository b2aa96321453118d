-- For `mask_asleep` of src/lists.rt: the task of that id, which sleeps, gets a mask.
use Rattle.std.proofs.Common.{◌==◌, ◌∙◌, ap, arith, ◌<◌, ◌≤◌, length, List, get_or}
use Rattle.std.specs.Prelude.{if◌then◌else◌}
use Rattle.std.proofs.Math.ListN.{set}
use Rattle.lb_queue.specs.declared.record.TaskRecord.{TaskRecord}
use Rattle.lb_queue.specs.Commands.{with_mask}
use Rattle.lb_queue.proofs.Mapped.{mapped_set, mapped_at, mapped_done}
use Rattle.lb_queue.proofs.lists.mask_asleep.Goals as goal

pub loop-t-preserved : goal.loop-t-preserved
loop-t-preserved c =
    let f = (λ (t : TaskRecord). if t.id == c.args.id then with_mask c.args.mask t else t) in
    let i = c.loop-t.t-index in
    let before = c.args.tasks.now.items in
    let here : i < length before = let k = c.loop-t-test.true in let l = ap length c.deref_mut-t-items.ensures.value in
    omega arith in
    ap (λ (xs : List TaskRecord). set xs i c.set_mask.new.self) c.loop-t.invariant
    ∙ mapped_set f i before c.set_mask.new.self c.t-item.result here
    (c.set_mask.ensures ∙ ap f (ap (λ (xs : List TaskRecord). get_or xs i c.t-item.result) c.loop-t.invariant
    ∙ mapped_at f i before c.t-item.result))

pub returns-clause-items : goal.returns-clause-items
returns-clause-items c =
    let before = c.args.tasks.now.items in
    let far : length before ≤ c.loop-t.t-index = let k = c.loop-t-test.false in let l =
    ap length c.deref_mut-t-items.ensures.value in omega arith in
    mapped_done (λ (t : TaskRecord). if t.id == c.args.id then with_mask c.args.mask t else t) before c.loop-t.t-items
    c.loop-t.t-index _ c.loop-t.invariant far c.args.tasks.now.ok.0
