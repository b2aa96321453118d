-- The loops of `first_sharing` of src/parts.rt: the first mask before this one that shares a CPU with it.
use Rattle.std.proofs.Common.{◌≡◌, ℕ, ◌<◌, not, false}
use Rattle.lb_base.specs.Sets.{are_apart}
use Rattle.lb_levels.specs.Faults.{part_at}
use Rattle.lb_levels.proofs.parts.first_sharing.Given as goal

abbrev pub invariant-loop-first : goal.invariant-loop-first
invariant-loop-first l = (k : ℕ) → k < l.first → not (are_apart (part_at l.parts k) (part_at l.parts l.second)) ≡ false
