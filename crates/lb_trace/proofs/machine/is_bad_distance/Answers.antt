-- For `is_bad_distance` of src/machine.rt: whether the last row of distances cannot stand below those before
-- it.
use Rattle.std.proofs.Common.{◌-◌, length, ◌∙◌, arith, rules}
use Rattle.lb_levels.specs.Rows.{is_bad_entry}
use Rattle.lb_base.proofs.Ranges.{one_passes, none_passes}
use Rattle.lb_trace.proofs.DistanceFacts.{bad_last}
use Rattle.lb_trace.proofs.machine.is_bad_distance.Goals as goal

pub returns-then-is_bad_entry : goal.returns-then-is_bad_entry
returns-then-is_bad_entry c earlier row e =
    one_passes (is_bad_entry c.args.distances.now (length c.args.distances.now - 1)) c.args.nodes c.loop-b.b
    c.loop-b-test.true (search rules)
    ∙ bad_last c.args.nodes c.args.distances.now earlier row c.requires.sizes c.requires.some e

pub returns : goal.returns
returns c earlier row e =
    none_passes (is_bad_entry c.args.distances.now (length c.args.distances.now - 1)) c.args.nodes
    (λ k lt. c.loop-b.invariant k (omega (arith, lt)))
    ∙ bad_last c.args.nodes c.args.distances.now earlier row c.requires.sizes c.requires.some e
