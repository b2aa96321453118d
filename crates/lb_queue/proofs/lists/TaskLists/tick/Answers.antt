-- For `TaskLists::tick` of src/lists.rt: another task takes the place of the running one, and pending
-- requests become owed.
use Rattle.std.proofs.Common.{◌≡◌, ◌∙◌, refl, sym, ap, map, reverse, length, arith}
use Rattle.std.proofs.lemmas.List.{length-reverse}
use Rattle.lb_queue.specs.contracts.lists.TaskLists.{the_view}
use Rattle.lb_queue.specs.Requests.{owes, rotated}
use Rattle.lb_queue.proofs.Keeping.{once_awake, kept_awake}
use Rattle.lb_queue.proofs.Turned.{map_reverse}
use Rattle.lb_queue.proofs.Ticking.{sound_ticked}
use Rattle.lb_queue.proofs.lists.TaskLists.tick.Goals as goal

pub rotate-requires : goal.rotate-requires
rotate-requires c = λ u. once_awake u c.self.inside.awake.items c.self.inside.asleep.items c.self.inside.gone.items
    c.self.invariant.sound

pub invariant_of-self : goal.invariant_of-self
invariant_of-self c =
    let l = the_view c.self.inside in
    let made : reverse c.owe_all.new.awake.items ≡ map owes (rotated c.args.clock l.awake) =
    ap reverse c.owe_all.ensures.items ∙ sym (map_reverse owes c.rotate.new.awake.items) ∙ ap (map owes) c.rotate.ensures.items in
    let long : length (reverse c.owe_all.new.awake.items) ≡ length l.awake =
    (let a = length-reverse c.owe_all.new.awake.items in
    let b = length-reverse c.self.inside.awake.items in
    let x = c.owe_all.new.awake.ok.0 in
    let y = c.self.inside.awake.ok.0 in
    let m = c.owe_all.ensures.len in
    let n = c.rotate.ensures.len in
    omega arith) in
    let cap = c.owe_all.ensures.capacity ∙ c.rotate.ensures.capacity in
    kept_awake l _ _ _ _ _ (reverse c.owe_all.new.awake.items) c.self.invariant
    (rw made (sound_ticked l.cpu c.args.clock l.awake l.asleep l.gone c.self.invariant.sound)) long cap

pub returns : goal.returns
returns c = rw (← c.self.view_is) (rw (ap reverse c.owe_all.ensures.items
    ∙ sym (map_reverse owes c.rotate.new.awake.items) ∙ ap (map owes) c.rotate.ensures.items) refl)
