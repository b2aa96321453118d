-- For `own_parts` of src/build.rt: the part of each CPU below `cpus`.
use Rattle.std.proofs.Common.{◌≡◌, ℕ, map, ◌∙◌, ap, arith}
use Rattle.std.specs.List.{range_with_len}
use Rattle.lb_base.proofs.Ranges.{map_range_more}
use Rattle.lb_domain.specs.Domains.{part_of}
use Rattle.lb_domain.specs.Steps.{own_parts}
use Rattle.lb_domain.proofs.build.own_parts.Goals as goal

pub loop-cpu-preserved : goal.loop-cpu-preserved
loop-cpu-preserved c = grind (arith, map_range_more (part_of c.args.parts.now) c.loop-cpu.cpu)

pub returns : goal.returns
unfolding own_parts
returns c =
    let all : c.loop-cpu.cpu ≡ c.args.cpus = omega arith in
    c.loop-cpu.invariant ∙ ap (λ (n : ℕ). map (part_of c.args.parts.now) (range_with_len 0 n)) all
