-- For `first_misfit` of src/rows.rt: the first row that is missing, too many or of the wrong size.
use Rattle.std.proofs.Common.{length, max, arith, rules}
use Rattle.lb_levels.specs.Faults.{is_misfit, first_misfit}
use Rattle.lb_base.proofs.Ranges.{found, not_found}
use Rattle.lb_levels.proofs.Tables.{past_is_misfit}
use Rattle.lb_levels.proofs.rows.first_misfit.Goals as goal

pub returns-then-is_misfit : goal.returns-then-is_misfit
unfolding first_misfit
returns-then-is_misfit c =
    found (is_misfit c.args.nodes c.args.distances.now) (max c.args.nodes (length c.args.distances.now)) c.loop-a.a
    (omega arith) c.loop-a.invariant (search rules)

pub returns-then-distances-nodes : goal.returns-then-distances-nodes
unfolding first_misfit
returns-then-distances-nodes c =
    found (is_misfit c.args.nodes c.args.distances.now) (max c.args.nodes (length c.args.distances.now)) c.args.nodes
    (omega arith) (λ k lt. c.loop-a.invariant k (omega (arith, lt))) (past_is_misfit c.args.nodes c.args.distances.now)

pub returns-else-distances-nodes : goal.returns-else-distances-nodes
unfolding first_misfit
returns-else-distances-nodes c =
    not_found (is_misfit c.args.nodes c.args.distances.now) (max c.args.nodes (length c.args.distances.now))
    (λ k lt. c.loop-a.invariant k (omega (arith, lt)))
