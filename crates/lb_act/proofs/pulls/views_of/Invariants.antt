-- The loops of `views_of` of src/pulls.rt: the awake tasks of a queue from the front to the back, as a pull
-- sees them at the moment `at` (ns).
use Rattle.std.proofs.Common.{◌≡◌, ◌≤◌, take, length, vec_capacity}
use Rattle.lb_queue.specs.Values.{views}
use Rattle.lb_act.proofs.pulls.views_of.Given as goal

abbrev pub invariant-loop-i : goal.invariant-loop-i
invariant-loop-i l = (l.views.items ≡ take l.i (views l.queue.state l.at)) × (length l.queue.state.awake ≤ vec_capacity l.views)
