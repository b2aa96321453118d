-- The loops of `are_disjoint` of src/rows.rt: whether no two of the masks share a CPU.
use Rattle.std.proofs.Common.{◌≡◌, drop}
use Rattle.lb_base.specs.Sets.{are_disjoint}
use Rattle.lb_due.proofs.rows.are_disjoint.Given as goal

abbrev pub invariant-loop-i : goal.invariant-loop-i
invariant-loop-i l = are_disjoint l.masks ≡ are_disjoint (drop l.i l.masks)
