-- The loops of `no_hands` of src/engine/opening.rt: no lane has a hand.
use Rattle.std.proofs.Common.{◌≡◌, ◌≤◌, None, replicate, vec_capacity}
use Rattle.lb_engine.proofs.engine.opening.no_hands.Given as goal

abbrev pub invariant-loop-lane : goal.invariant-loop-lane
invariant-loop-lane l = record {
  so_far : l.hands.items ≡ replicate l._lane None;
  room : l.lanes ≤ vec_capacity l.hands;
}
