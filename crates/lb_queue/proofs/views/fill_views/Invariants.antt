-- The loops of `fill_views` of src/views.rt: what a pull at a moment sees of the awake tasks, from the front
-- to the back.
use Rattle.std.proofs.Common.{◌≡◌, vec_capacity, vec_len, take, map}
use Rattle.lb_queue.specs.Values.{view_at}
use Rattle.lb_queue.proofs.views.fill_views.Given as goal

abbrev pub invariant-loop-a : goal.invariant-loop-a
invariant-loop-a l = (l.views.items ≡ map (view_at l.now) (take l.a-index l.awake)) × (vec_len l.views ≡ l.a-index)
    × (vec_capacity l.views ≡ vec_capacity l.fn.views)
