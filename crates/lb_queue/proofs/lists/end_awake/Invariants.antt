-- The loops of `end_awake` of src/lists.rt.
use Rattle.std.proofs.Common.{vec_len}
use Rattle.lb_queue.proofs.lists.end_awake.Given as goal

abbrev pub decreases-loop-a : goal.decreases-loop-a
decreases-loop-a l = vec_len l.awake
