-- For `TaskLists::mask_awake` of src/lists.rt: the awake task of that id gets a mask.
use Rattle.std.proofs.Common.{rules, ◌≡◌, ◌==◌, ◌∙◌, refl, sym, ap, cond, reverse}
use Rattle.lb_queue.specs.declared.awake.Awake.{Awake}
use Rattle.lb_queue.specs.contracts.lists.TaskLists.{the_view}
use Rattle.lb_queue.specs.Commands.{changed_awake, masked}
use Rattle.lb_queue.proofs.Keeping.{kept_map}
use Rattle.lb_queue.proofs.Sound.{masked_asked, masked_key, masked_running}
use Rattle.lb_queue.proofs.Turned.{map_reverse}
use Rattle.lb_queue.proofs.lists.TaskLists.mask_awake.Goals as goal

pub invariant_of-self : goal.invariant_of-self
invariant_of-self c =
    let l = the_view c.self.inside in
    let given : c.mask_awake.new.awake.items ≡ changed_awake c.args.id
    (masked c.self.inside.cpu c.args.mask) c.self.inside.awake.items = search rules in
    let f = λ (a : Awake). cond (a.task.id == c.args.id) (masked l.cpu c.args.mask a) a in
    kept_map l _ _ _ _ _ f _ (masked_key l.cpu c.args.id c.args.mask) (masked_running l.cpu c.args.id c.args.mask)
    (masked_asked l.cpu c.args.id c.args.mask) c.self.invariant
    (ap reverse given ∙ sym (map_reverse f c.self.inside.awake.items)) c.mask_awake.ensures.capacity

pub returns : goal.returns
returns c =
    let l = the_view c.self.inside in
    let given : c.mask_awake.new.awake.items ≡ changed_awake c.args.id
    (masked c.self.inside.cpu c.args.mask) c.self.inside.awake.items = search rules in
    let f = λ (a : Awake). cond (a.task.id == c.args.id) (masked l.cpu c.args.mask a) a in
    rw (← c.self.view_is) (rw (ap reverse given ∙ sym (map_reverse f c.self.inside.awake.items)) refl)
