-- For `idle_average` of src/lib.rt: the average idle time of a CPU after it was idle for `sample`, both in
-- nanoseconds: it goes an eighth of the way to the sample, and is at most [`MAX_AVERAGE`]
-- (docs/rules/counters.md).
use Rattle.std.proofs.Common.{arith, rules}
use Rattle.lb_newidle.proofs.Averages.{average_above, average_below}
use Rattle.lb_newidle.proofs.idle_average.Goals as goal
use Rattle.lb_newidle.proofs.idle_average.Goals.{then-sample-avg, else-sample-avg}

pub returns-clause-value : goal.returns-clause-value
returns-clause-value c =
    elim c.if-sample-avg.branch [
      | then-sample-avg w ↦ let e = average_above c.args.avg c.args.sample (omega arith) in search (rules, e)
      | else-sample-avg w ↦ let e = average_below c.args.avg c.args.sample (omega arith) in search (rules, e)
    ]
