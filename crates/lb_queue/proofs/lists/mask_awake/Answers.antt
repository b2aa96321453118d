-- For `mask_awake` of src/lists.rt: the task of that id gets a mask.
use Rattle.std.proofs.Common.{◌==◌, ◌∙◌, ap, arith, ◌<◌, ◌≤◌, length, List, get_or}
use Rattle.std.specs.Prelude.{if◌then◌else◌}
use Rattle.std.proofs.Math.ListN.{set}
use Rattle.lb_queue.specs.declared.awake.Awake.{Awake}
use Rattle.lb_queue.specs.Commands.{masked}
use Rattle.lb_queue.proofs.Mapped.{mapped_set, mapped_at, mapped_done}
use Rattle.lb_queue.proofs.lists.mask_awake.Goals as goal

pub loop-a-preserved : goal.loop-a-preserved
loop-a-preserved c =
    let f = (λ (a : Awake). if a.task.id == c.args.id then masked c.args.cpu c.args.mask a else a) in
    let i = c.loop-a.a-index in
    let before = c.args.awake.now.items in
    let here : i < length before = let k = c.loop-a-test.true in let l = ap length c.deref_mut-a-items.ensures.value in
    omega arith in
    ap (λ (xs : List Awake). set xs i c.set_mask.new.self) c.loop-a.invariant
    ∙ mapped_set f i before c.set_mask.new.self c.a-item.result here
    (c.set_mask.ensures ∙ ap f (ap (λ (xs : List Awake). get_or xs i c.a-item.result) c.loop-a.invariant
    ∙ mapped_at f i before c.a-item.result))

pub returns-clause-items : goal.returns-clause-items
returns-clause-items c =
    let before = c.args.awake.now.items in
    let far : length before ≤ c.loop-a.a-index = let k = c.loop-a-test.false in let l =
    ap length c.deref_mut-a-items.ensures.value in omega arith in
    mapped_done (λ (a : Awake). if a.task.id == c.args.id then masked c.args.cpu c.args.mask a else a) before
    c.loop-a.a-items c.loop-a.a-index _ c.loop-a.invariant far c.args.awake.now.ok.0
