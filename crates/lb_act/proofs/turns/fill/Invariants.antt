-- The loops of `fill` of src/turns.rt: as many counters as there are take the place of others.
use Rattle.std.proofs.Common.{◌≡◌, length, take}
use Rattle.lb_act.proofs.turns.fill.Given as goal

abbrev pub invariant-loop-i : goal.invariant-loop-i
invariant-loop-i l = record {
  room : length l.rows ≡ length l.counters;
  so_far : take l.i l.rows ≡ take l.i l.counters;
}
