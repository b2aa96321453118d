-- For `TaskLists::awake_len` of src/lists.rt: how many tasks are awake.
use Rattle.std.proofs.Common.{arith, reverse}
use Rattle.std.proofs.lemmas.List.{length-reverse}
use Rattle.lb_queue.proofs.Keeping.{known_length}
use Rattle.lb_queue.proofs.lists.TaskLists.awake_len.Goals as goal

pub overflow_cast-result : goal.overflow_cast-result
overflow_cast-result c =
    let k = known_length _ (reverse c.self.inside.awake.items) c.self.inside.asleep.items c.self.inside.gone.items
    c.self.invariant.sound in
    let r = length-reverse c.self.inside.awake.items in
    let o = c.self.inside.awake.ok.0 in
    omega arith
