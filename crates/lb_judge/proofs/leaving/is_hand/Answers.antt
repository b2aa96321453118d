-- For `is_hand` of src/leaving.rt: whether these are the tasks in the hand, in their order.
use Rattle.std.proofs.Common.{arith, ◌≡◌, ◌==◌, true, false, refl, sym, ◌∙◌, get_or}
use Rattle.std.proofs.lemmas.Bool.{eq-eqb}
use Rattle.std.proofs.lemmas.Bool.{ne_eqb}
use Rattle.std.proofs.lemmas.List.{length-map}
use Rattle.lb_queue.specs.declared.record.TaskRecord.{TaskRecord}
use Rattle.lb_queue.specs.Tasks.{ids}
use Rattle.lb_judge.proofs.Lists.{other_length, same_more, get_map}
use Rattle.lb_judge.proofs.leaving.is_hand.Goals as goal

pub returns-then-tasks-len : goal.returns-then-tasks-len
returns-then-tasks-len c = other_length c.args.tasks.now (ids c.args.course.now.hand)
    (λ e. let l = length-map c.args.course.now.hand (λ (t : TaskRecord). t.id) in omega arith)

pub returns-then-tasks-i : goal.returns-then-tasks-i
returns-then-tasks-i c =
    let hand = c.args.course.now.hand in
    let l = length-map hand (λ (t : TaskRecord). t.id) in
    let more = same_more c.args.tasks.now (ids hand) c.loop-i.i (omega arith) (omega arith) in
    let here = get_map (λ (t : TaskRecord). t.id) hand c.loop-i.i c.get.result.now c.get.ensures in
    let differ : (get_or c.args.tasks.now c.loop-i.i 0 == get_or (ids hand) c.loop-i.i 0) ≡ false =
    rw here (ne_eqb _ _ c.if-tasks-i.true) in
    sym (c.loop-i.invariant ∙ more ∙ rw differ refl)

pub loop-i-preserved : goal.loop-i-preserved
loop-i-preserved c =
    let hand = c.args.course.now.hand in
    let l = length-map hand (λ (t : TaskRecord). t.id) in
    let more = same_more c.args.tasks.now (ids hand) c.loop-i.i (omega arith) (omega arith) in
    let here = get_map (λ (t : TaskRecord). t.id) hand c.loop-i.i c.get.result.now c.get.ensures in
    let agree : (get_or c.args.tasks.now c.loop-i.i 0 == get_or (ids hand) c.loop-i.i 0) ≡ true = rw here
    (eq-eqb _ _ c.if-tasks-i.false) in
    c.loop-i.invariant ∙ more ∙ rw agree refl
