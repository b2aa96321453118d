-- The loops of `are_disjoint` of src/masks.rt: whether no two masks share a CPU.
use Rattle.std.proofs.Common.{take}
use Rattle.lb_trace.proofs.MaskFacts.{AreDisjointSoFar}
use Rattle.lb_trace.proofs.masks.are_disjoint.Given as goal

abbrev pub invariant-loop-mask : goal.invariant-loop-mask
invariant-loop-mask l = AreDisjointSoFar (take l.mask-index l.masks) l.seen
