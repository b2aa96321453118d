-- The loops of `part_of` of src/build.rt: the part that has the CPU.
use Rattle.std.proofs.Common.{◌≡◌, drop}
use Rattle.lb_domain.specs.Domains.{part_of}
use Rattle.lb_domain.proofs.build.part_of.Given as goal

abbrev pub invariant-loop-part : goal.invariant-loop-part
invariant-loop-part l = part_of l.parts l.cpu ≡ part_of (drop l.part-index l.parts) l.cpu
