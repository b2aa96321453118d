-- The loops of `own_parts` of src/build.rt: the part of each CPU below `cpus`.
use Rattle.std.proofs.Common.{◌≡◌, map}
use Rattle.std.specs.List.{range_with_len}
use Rattle.lb_domain.specs.Domains.{part_of}
use Rattle.lb_domain.proofs.build.own_parts.Given as goal

abbrev pub invariant-loop-cpu : goal.invariant-loop-cpu
invariant-loop-cpu l = l.own ≡ map (part_of l.parts) (range_with_len 0 l.cpu)
