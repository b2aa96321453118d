-- For `owe_all` of src/lists.rt: pending requests become owed.
use Rattle.std.proofs.Common.{◌∙◌, ap, arith, ◌<◌, ◌≤◌, length, List, get_or}
use Rattle.std.proofs.Math.ListN.{set}
use Rattle.lb_queue.specs.declared.awake.Awake.{Awake}
use Rattle.lb_queue.specs.Requests.{owes}
use Rattle.lb_queue.proofs.Mapped.{mapped_set, mapped_at, mapped_done}
use Rattle.lb_queue.proofs.lists.owe_all.Goals as goal

pub loop-a-preserved : goal.loop-a-preserved
loop-a-preserved c =
    let i = c.loop-a.a-index in
    let before = c.args.awake.now.items in
    let here : i < length before = let k = c.loop-a-test.true in let l = ap length c.deref_mut-a-items.ensures.value in
    omega arith in
    ap (λ (xs : List Awake). set xs i c.owe.new.self) c.loop-a.invariant
    ∙ mapped_set owes i before c.owe.new.self c.a-item.result here
    (c.owe.ensures ∙ ap owes (ap (λ (xs : List Awake). get_or xs i c.a-item.result) c.loop-a.invariant
    ∙ mapped_at owes i before c.a-item.result))

pub returns-clause-items : goal.returns-clause-items
returns-clause-items c =
    let before = c.args.awake.now.items in
    let far : length before ≤ c.loop-a.a-index = let k = c.loop-a-test.false in let l =
    ap length c.deref_mut-a-items.ensures.value in omega arith in
    mapped_done owes before c.loop-a.a-items c.loop-a.a-index _ c.loop-a.invariant far c.args.awake.now.ok.0
