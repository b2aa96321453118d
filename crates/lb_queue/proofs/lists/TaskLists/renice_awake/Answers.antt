-- For `TaskLists::renice_awake` of src/lists.rt: the awake task of that id gets a nice value.
use Rattle.std.proofs.Common.{w32, ℤ, ◌≡◌, ◌==◌, ◌∙◌, refl, sym, ap, cond, reverse}
use Rattle.lb_queue.specs.declared.awake.Awake.{Awake}
use Rattle.lb_queue.specs.contracts.lists.TaskLists.{the_view}
use Rattle.lb_queue.specs.Commands.{changed_awake, reniced}
use Rattle.std.proofs.lemmas.Int.{to_z-of_z}
use Rattle.lb_queue.proofs.Keeping.{kept_map, once_awake}
use Rattle.lb_queue.proofs.Sound.{reniced_asked, reniced_key, reniced_running}
use Rattle.lb_queue.proofs.Turned.{map_reverse}
use Rattle.lb_queue.proofs.lists.TaskLists.renice_awake.Goals as goal

pub invariant_of-self : goal.invariant_of-self
invariant_of-self c =
    let l = the_view c.self.inside in
    let given : c.renice_awake.new.awake.items ≡ changed_awake c.args.id
    (reniced c.args.nice) c.self.inside.awake.items =
    c.renice_awake.ensures.items ∙ ap (λ (z : ℤ). changed_awake c.args.id (reniced z) c.self.inside.awake.items)
    (to_z-of_z w32 c.args.nice c.ranges.nice) in
    let f = λ (a : Awake). cond (a.task.id == c.args.id) (reniced c.args.nice a) a in
    kept_map l _ _ _ _ _ f _ (reniced_key c.args.id c.args.nice) (reniced_running c.args.id c.args.nice)
    (reniced_asked l.cpu c.args.id c.args.nice) c.self.invariant
    (ap reverse given ∙ sym (map_reverse f c.self.inside.awake.items)) c.renice_awake.ensures.capacity

pub returns : goal.returns
returns c =
    let l = the_view c.self.inside in
    let given : c.renice_awake.new.awake.items ≡ changed_awake c.args.id
    (reniced c.args.nice) c.self.inside.awake.items =
    c.renice_awake.ensures.items ∙ ap (λ (z : ℤ). changed_awake c.args.id (reniced z) c.self.inside.awake.items)
    (to_z-of_z w32 c.args.nice c.ranges.nice) in
    let f = λ (a : Awake). cond (a.task.id == c.args.id) (reniced c.args.nice a) a in
    rw (← c.self.view_is) (rw (ap reverse given ∙ sym (map_reverse f c.self.inside.awake.items)) refl)

pub renice_awake-requires-clause-once : goal.renice_awake-requires-clause-once
renice_awake-requires-clause-once c = once_awake c.args.id c.self.inside.awake.items c.self.inside.asleep.items
    c.self.inside.gone.items c.self.invariant.sound
