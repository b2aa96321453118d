-- The loops of `opening_places` of src/engine/opening.rt: each task's place before any entry.
use Rattle.std.proofs.Common.{◌≡◌, map, take}
use Rattle.lb_core.specs.declared.place.Place.TheVariants.{Asleep}
use Rattle.lb_engine.proofs.engine.opening.opening_places.Given as goal

abbrev pub invariant-loop-task : goal.invariant-loop-task
invariant-loop-task l = l.places.items ≡ map (λ row. Asleep row.home) (take l.task-index l.header.tasks)
