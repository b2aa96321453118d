-- For `first_sharing` of src/parts.rt: the first mask before this one that shares a CPU with it.
use Rattle.std.proofs.Common.{not, arith, rules}
use Rattle.lb_base.specs.Sets.{are_apart}
use Rattle.lb_levels.specs.Faults.{part_at, first_sharing}
use Rattle.lb_base.proofs.Ranges.{found, not_found}
use Rattle.lb_levels.proofs.parts.first_sharing.Goals as goal

pub returns-then-shares : goal.returns-then-shares
unfolding first_sharing
returns-then-shares c =
    found (λ i. not (are_apart (part_at c.args.parts.now i) (part_at c.args.parts.now c.args.second))) c.args.second
    c.loop-first.first (omega arith) c.loop-first.invariant (search rules)

pub returns : goal.returns
unfolding first_sharing
returns c =
    not_found (λ i. not (are_apart (part_at c.args.parts.now i) (part_at c.args.parts.now c.args.second)))
    c.args.second (λ k lt. c.loop-first.invariant k (omega (arith, lt)))
