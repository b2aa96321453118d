-- For `Queue::view` of src/queue/values.rt: the `i`-th awake task from the front as a pull at the moment `at`
-- would see it: with its values and its hotness at the greater of the clock and `at`.
use Rattle.std.proofs.Common.{ℕ, ◌∙◌, sym, ap, map, slice_get}
use Rattle.lb_queue.specs.Values.{views, view_at}
use Rattle.lb_queue.proofs.queue.Queue.view.Goals as goal

pub returns : goal.returns
unfolding views
returns c =
    rw (← c.self.view_is) (ap (λ (n : ℕ). slice_get (map (view_at n) c.self.inside.lists.awake) c.args.i)
    (sym c.max.ensures) ∙ c.view.ensures)
