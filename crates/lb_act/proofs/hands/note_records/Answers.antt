-- For `note_records` of src/hands.rt: the records of the tasks in a hand take the place of as many others.
use Rattle.std.proofs.Common.{◌≡◌, ◌<◌, ◌+◌, length, take, sym, ap, ◌∙◌, arith}
use Rattle.std.proofs.Math.ListN.{length-set}
use Rattle.std.proofs.lemmas.Option.{get_or_from_slice_get}
use Rattle.lb_turn.proofs.Filling.{filled_more}
use Rattle.std.specs.List.{slice_index_or}
use Rattle.lb_act.proofs.hands.note_records.Goals as goal

pub loop-i-preserved : goal.loop-i-preserved
loop-i-preserved c =
    let i = c.loop-i.i in
    let tasks = c.args.hand.now.tasks in
    let x = c.record.result in
    let t = c.task.result.now in
    let room : length c.loop-i.records ≡ length tasks = c.loop-i.invariant.room in
    let inside : i < length c.loop-i.records = omega arith in
    let there : i < length tasks = omega arith in
    let read : x ≡ slice_index_or tasks i x =
    c.record.ensures.value ∙ sym (get_or_from_slice_get tasks i t x c.task.ensures) in
    record {
      room = ap (λ l. length l) c.set.ensures ∙ length-set c.loop-i.records i x ∙ room;
      so_far = ap (λ l. take (i + 1) l) c.set.ensures
          ∙ filled_more tasks c.loop-i.records i x x inside there read c.loop-i.invariant.so_far;
    }
