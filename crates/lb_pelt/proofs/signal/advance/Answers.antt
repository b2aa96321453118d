-- For `advance` of src/signal.rt: the signal at the moment `now`, in nanoseconds, after a time of `run` since
-- its stamp.
use Rattle.std.proofs.Common.{◌/◌, arith, rules}
use Rattle.lb_pelt.proofs.Bounds.{load_fits, sum_fits}
use Rattle.lb_pelt.proofs.signal.advance.Goals as goal

pub overflow_add-result-2 : goal.overflow_add-result-2
overflow_add-result-2 c =
    let bound = load_fits c.from-part.result (c.saturating_sub-units.result / 1024) c.s.inside.load_sum (omega arith)
    (omega arith) in
    search rules

pub overflow_mul-result-2 : goal.overflow_mul-result-2
overflow_mul-result-2 c =
    let bound = load_fits c.from-part.result (c.saturating_sub-units.result / 1024) c.s.inside.load_sum (omega arith)
    (omega arith) in
    search rules

pub invariant_of-result-2 : goal.invariant_of-result-2
invariant_of-result-2 c =
    let e = c.saturating_sub-units.result / 1024 in
    record {
      part_small = omega arith;
      load_small = omega (arith, load_fits c.from-part.result e c.s.inside.load_sum (omega arith) (omega arith));
      runnable_small = omega (arith, sum_fits c.from-part.result e c.s.inside.runnable_sum (omega arith) (omega arith));
      util_small = omega (arith, sum_fits c.from-part.result e c.s.inside.util_sum (omega arith) (omega arith));
    }

pub overflow_add-result-3 : goal.overflow_add-result-3
overflow_add-result-3 c =
    let bound = sum_fits c.from-part.result (c.saturating_sub-units.result / 1024) c.s.inside.runnable_sum (omega arith)
    (omega arith) in
    search rules

pub overflow_mul-result-3 : goal.overflow_mul-result-3
overflow_mul-result-3 c =
    let bound = load_fits c.from-part.result (c.saturating_sub-units.result / 1024) c.s.inside.load_sum (omega arith)
    (omega arith) in
    search rules

pub overflow_add-result-4 : goal.overflow_add-result-4
overflow_add-result-4 c =
    let bound = sum_fits c.from-part.result (c.saturating_sub-units.result / 1024) c.s.inside.util_sum (omega arith)
    (omega arith) in
    search rules

pub returns-clause-bounds : goal.returns-clause-bounds
returns-clause-bounds c =
    let e = c.saturating_sub-units.result / 1024 in
    record {
      part_small = omega arith;
      load_small = omega (arith, load_fits c.from-part.result e c.s.inside.load_sum (omega arith) (omega arith));
      runnable_small = omega (arith, sum_fits c.from-part.result e c.s.inside.runnable_sum (omega arith) (omega arith));
      util_small = omega (arith, sum_fits c.from-part.result e c.s.inside.util_sum (omega arith) (omega arith));
    }
