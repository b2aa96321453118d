-- The loops of `shapes_of` of src/turn/shapes.rt: the shapes of domains.
use Rattle.std.proofs.Common.{◌≡◌, length, take}
use Rattle.lb_levels.specs.declared.limits.TheConstants.{MAX_LEVELS}
use Rattle.lb_core.specs.Course.{shapes_of}
use Rattle.lb_turn.proofs.turn.shapes.shapes_of.Given as goal

abbrev pub invariant-loop-i : goal.invariant-loop-i
invariant-loop-i l = record {
  room : length l.list ≡ MAX_LEVELS;
  so_far : take l.i l.list ≡ take l.i (shapes_of l.domains);
}
