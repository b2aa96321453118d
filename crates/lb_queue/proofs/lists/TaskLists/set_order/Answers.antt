-- For `TaskLists::set_order` of src/lists.rt: the awake tasks stand in an order from now on, which has two
-- parts of them the other way round.
use Rattle.std.proofs.Common.{◌∙◌, sym, subst, length, List, ap}
use Rattle.lb_queue.specs.declared.awake.Awake.{Awake}
use Rattle.lb_queue.specs.Lists.{Lists}
use Rattle.lb_queue.specs.Tasks.{awake_ids}
use Rattle.lb_queue.specs.Kept.{AreSound}
use Rattle.lb_queue.specs.Pulls.{IsTurned}
use Rattle.lb_queue.specs.contracts.lists.TaskLists.{the_view}
use Rattle.lb_queue.proofs.Keeping.{once_awake, once_turned, kept_awake}
use Rattle.lb_queue.proofs.Order.{in_order_turned, sound_turned, length_turned}
use Rattle.lb_queue.proofs.lists.TaskLists.set_order.Goals as goal

pub set_order-requires-clause-once : goal.set_order-requires-clause-once
set_order-requires-clause-once c = λ u. once_awake u c.self.inside.awake.items c.self.inside.asleep.items
    c.self.inside.gone.items c.self.invariant.sound

pub invariant_of-self : goal.invariant_of-self
invariant_of-self c =
    let l = the_view c.self.inside in
    let t = subst (λ (m : Lists). IsTurned (awake_ids m.awake) c.args.order.now) (sym c.self.view_is) c.requires in
    let n = length t.front in
    let made = c.set_order.ensures.items
    ∙ in_order_turned l.awake c.args.order.now (once_turned l.awake l.asleep l.gone c.self.invariant.sound) t in
    kept_awake l _ _ _ _ _ _ c.self.invariant
    (subst (λ (ys : List Awake). AreSound l.cpu ys l.asleep l.gone) (sym made)
    (sound_turned l.cpu n l.awake l.asleep l.gone c.self.invariant.sound))
    (ap length made ∙ length_turned n l.awake) c.set_order.ensures.capacity
