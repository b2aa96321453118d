-- The loops of `live_parts` of src/build.rt: the parts that have a CPU.
use Rattle.std.proofs.Common.{◌≡◌, ◌==◌, not, filter, take}
use Rattle.lb_domain.proofs.build.live_parts.Given as goal

abbrev pub invariant-loop-part : goal.invariant-loop-part
invariant-loop-part l = l.live ≡ filter (λ part. not (part.bits == 0)) (take l.part-index l.parts)
