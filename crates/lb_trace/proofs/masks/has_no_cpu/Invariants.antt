-- The loops of `has_no_cpu` of src/masks.rt: whether some mask has an undeclared CPU.
use Rattle.std.proofs.Common.{◌≡◌, true, take}
use Rattle.std.specs.List.{list_all}
use Rattle.lb_base.specs.Sets.{is_below}
use Rattle.lb_trace.proofs.masks.has_no_cpu.Given as goal

abbrev pub invariant-loop-mask : goal.invariant-loop-mask
invariant-loop-mask l = list_all (λ mask. is_below mask l.cpus) (take l.mask-index l.masks) ≡ true
