-- The loops of `first_overlap` of src/parts.rt: the first mask that shares a CPU with one before it, and the
-- first of those.
use Rattle.std.proofs.Common.{◌≡◌, ℕ, ◌<◌, is_some, false}
use Rattle.lb_levels.specs.Faults.{first_sharing}
use Rattle.lb_levels.proofs.Overlaps.{IsUnion}
use Rattle.lb_levels.proofs.parts.first_overlap.Given as goal

abbrev pub invariant-loop-second : goal.invariant-loop-second
invariant-loop-second l = record {
  none : (i : ℕ) → i < l.second → is_some (first_sharing l.parts i) ≡ false;
  union : IsUnion l.parts l.second l.seen;
}
