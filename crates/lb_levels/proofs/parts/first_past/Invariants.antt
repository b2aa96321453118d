-- The loops of `first_past` of src/parts.rt: the first mask that has a CPU past the machine.
use Rattle.std.proofs.Common.{◌≡◌, ℕ, ◌<◌, not, false}
use Rattle.lb_base.specs.Sets.{is_below}
use Rattle.lb_levels.specs.Faults.{part_at}
use Rattle.lb_levels.proofs.parts.first_past.Given as goal

abbrev pub invariant-loop-part : goal.invariant-loop-part
invariant-loop-part l = (k : ℕ) → k < l.part → not (is_below (part_at l.parts k) l.cpus) ≡ false
