-- For `land_all` of src/engine/ending.rt: each hand lands where it goes, the last lane's first.
use Rattle.std.proofs.Common.{◌≡◌, Option, List, [], ◌∷◌, ◌++◌, ap, subst, ◌∙◌}
use Rattle.lb_queue.specs.Hands.{HandState}
use Rattle.lb_engine.specs.Ending.{CanLand}
use Rattle.lb_engine.proofs.Queues.{states, bookings}
use Rattle.lb_engine.proofs.engine.ending.land_all.Goals as goal

pub loop-slot-preserved : goal.loop-slot-preserved
loop-slot-preserved c =
    let rest = c.pop.new.self.items in
    let e : c.loop-slot.hands.items ≡ rest ++ c.in-Some.slot ∷ [] = c.in-Some.ensures.items in
    let P : List (Option HandState) → Type 0 = λ l. CanLand l (states c.loop-slot.queues) (bookings c.loop-slot.queues) in
    c.land_last.ensures rest (subst P (e ∙ ap (λ (s : Option HandState). rest ++ s ∷ []) c.in-Some-slot.is) c.loop-slot.invariant)
