-- For `first_past` of src/parts.rt: the first mask that has a CPU past the machine.
use Rattle.std.proofs.Common.{not, length, arith, rules}
use Rattle.lb_base.specs.Sets.{is_below}
use Rattle.lb_levels.specs.Faults.{part_at, first_past}
use Rattle.lb_base.proofs.Ranges.{found, not_found}
use Rattle.lb_levels.proofs.parts.first_past.Goals as goal

pub returns-then-has_past : goal.returns-then-has_past
unfolding first_past
returns-then-has_past c =
    found (λ i. not (is_below (part_at c.args.parts.now i) c.args.cpus)) (length c.args.parts.now) c.loop-part.part
    (omega arith) c.loop-part.invariant (search rules)

pub returns : goal.returns
unfolding first_past
returns c =
    not_found (λ i. not (is_below (part_at c.args.parts.now i) c.args.cpus)) (length c.args.parts.now)
    (λ k lt. c.loop-part.invariant k (omega (arith, lt)))
