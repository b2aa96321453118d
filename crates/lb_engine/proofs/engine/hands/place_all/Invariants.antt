-- The loops of `place_all` of src/engine/hands.rt: the tasks are at a place.
use Rattle.std.proofs.Common.{◌≡◌, drop, length}
use Rattle.lb_core.specs.Step.{set_places}
use Rattle.lb_engine.proofs.engine.hands.place_all.Given as goal

abbrev pub invariant-loop-id : goal.invariant-loop-id
invariant-loop-id l = record {
  room : length l.places.items ≡ length l.initial.places.items;
  so_far : set_places l.ids l.place l.initial.places.items ≡ set_places (drop l.id-index l.ids) l.place l.places.items;
}
