-- For `name` of src/lists.rt: the ids of the tasks in a hand.
use Rattle.std.proofs.Common.{◌≡◌, ◌<◌, ◌+◌, length, take, get_or, sym, ap, ◌∙◌, arith}
use Rattle.std.proofs.Math.ListN.{length-set}
use Rattle.std.proofs.lemmas.List.{length-map, get_or-map}
use Rattle.std.proofs.lemmas.Option.{get_or_from_slice_get}
use Rattle.lb_queue.specs.declared.record.TaskRecord.{TaskRecord}
use Rattle.lb_queue.specs.Tasks.{ids}
use Rattle.lb_turn.proofs.Filling.{filled_more}
use Rattle.lb_cell.proofs.lists.name.Goals as goal

pub loop-i-preserved : goal.loop-i-preserved
loop-i-preserved c =
    let i = c.loop-i.i in
    let tasks = c.args.hand.now.tasks in
    let t = c.record.result in
    let room : length c.loop-i.list ≡ length tasks = c.loop-i.invariant.room in
    let same : length (ids tasks) ≡ length tasks = length-map tasks (λ (x : TaskRecord). x.id) in
    let inside : i < length c.loop-i.list = omega arith in
    let here : i < length tasks = omega arith in
    let there : i < length (ids tasks) = omega arith in
    let read : t ≡ get_or tasks i t =
    c.record.ensures.value ∙ sym (get_or_from_slice_get tasks i c.task.result.now t c.task.ensures) in
    let id : t.id ≡ get_or (ids tasks) i t.id =
    ap (λ (x : TaskRecord). x.id) read ∙ sym (get_or-map (λ (x : TaskRecord). x.id) tasks i t t.id here) in
    record {
      room = ap (λ l. length l) c.set.ensures ∙ length-set c.loop-i.list i t.id ∙ room;
      so_far =
          ap (λ l. take (i + 1) l) c.set.ensures
          ∙ filled_more (ids tasks) c.loop-i.list i t.id t.id inside there id c.loop-i.invariant.so_far;
    }
