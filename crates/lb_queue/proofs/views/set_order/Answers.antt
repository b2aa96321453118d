-- For `set_order` of src/views.rt: the awake tasks stand in an order from now on, which has two parts of them
-- the other way round.
use Rattle.std.proofs.Common.{◌∙◌, ◌==◌, ℕ, ap, List}
use Rattle.std.specs.Prelude.{unwrap_or, option_and_then, position, slice_get, length, ◌-◌}
use Rattle.lb_queue.specs.declared.awake.Awake.{Awake}
use Rattle.lb_queue.proofs.Order.{order_set}
use Rattle.lb_queue.proofs.views.set_order.Goals as goal

pub returns-clause-items : goal.returns-clause-items
returns-clause-items c =
    let order = c.args.order.now in
    let back = c.place_of_last-back.ensures.value
    ∙ ap (λ (xs : List Awake). unwrap_or
    (option_and_then (λ (id : ℕ). position (λ (a : Awake). a.task.id == id) xs)
    (slice_get order (length order - 1))) 0) c.deref.ensures.value in
    order_set c.args.awake.now.items c.rotate_left.new.self.items order c.place_of_last-back.result c.requires.once
    c.requires.turned back c.rotate_left.ensures.items
