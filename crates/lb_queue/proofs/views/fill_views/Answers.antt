-- For `fill_views` of src/views.rt: what a pull at a moment sees of the awake tasks, from the front to the
-- back.
use Rattle.std.proofs.Common.{◌∙◌, map, reverse, sym, ap, take_all}
use Rattle.lb_queue.specs.Values.{view_at}
use Rattle.lb_queue.proofs.Turned.{map_reverse}
use Rattle.lb_queue.proofs.views.fill_views.Goals as goal

pub returns-clause-items : goal.returns-clause-items
returns-clause-items c =
    c.reverse.ensures.items ∙ ap reverse
    (c.loop-a.invariant.0 ∙ ap (map (view_at c.args.now))
    (take_all c.loop-a.a-index c.args.awake.now c.loop-a-test.false)) ∙ sym (map_reverse (view_at c.args.now) c.args.awake.now)
