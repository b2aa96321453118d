-- For `TaskLists::land` of src/lists.rt: tasks land, one after the other, for which landings are booked.
use Rattle.std.proofs.Common.{◌<◌, arith, length}
use Rattle.lb_queue.proofs.Landing.{landing_step}
use Rattle.lb_queue.proofs.lists.TaskLists.land.Goals as goal

pub loop-tasks-preserved : goal.loop-tasks-preserved
loop-tasks-preserved c =
    let some : 0 < length c.loop-tasks.tasks.items = let o = c.loop-tasks.tasks.ok.0 in let l =
    c.remove-task.ensures.len in omega arith in
    landing_step c.args.clock c.args.self.now c.args.tasks.items c.loop-tasks.self c.land_one.new.self
    c.loop-tasks.tasks.items c.remove-task.new.self.items c.remove-task.result c.loop-tasks.invariant some
    c.remove-task.ensures.value c.remove-task.ensures.items c.land_one.ensures
