-- For `TaskLists::next_stop` of src/lists.rt: the stop request of the least id, of the owed ones only if
-- asked.
use Rattle.lb_queue.proofs.Keeping.{once_awake}
use Rattle.lb_queue.proofs.lists.TaskLists.next_stop.Goals as goal

pub next_stop-requires : goal.next_stop-requires
next_stop-requires c = λ u. rw c.deref.ensures.value
    (once_awake u c.self.inside.awake.items c.self.inside.asleep.items c.self.inside.gone.items c.self.invariant.sound)
