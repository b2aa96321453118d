-- For `write_all` of src/whole.rt: writes all of `bytes`, in as many calls as the sink asks for.
use Rattle.std.proofs.Common.{arith, length-drop, ◌∙◌}
use Rattle.std.proofs.lemmas.List.{take_rest}
use Rattle.std.proofs.lemmas.Result.{err_from_is_err_and}
use Rattle.lb_io.proofs.OneAfterAnother.{appends_kept, appends_next}
use Rattle.lb_io.proofs.whole.write_all.Goals as goal

pub returns-in_err-done-clause-refused : goal.returns-in_err-done-clause-refused
returns-in_err-done-clause-refused g c =
    let failed = err_from_is_err_and c.from_residual.result c.from_residual.ensures.1 in
    rw failed.1 (c.loop-done.done, appends_kept _ _ _ _ c.loop-done.invariant.wrote c.in_err-done.ensures.bytes)

pub loop-done-preserved : goal.loop-done-preserved
loop-done-preserved g c =
    let most = rw take_rest at c.in_ok-done.ensures.bound.most in record {
      within = omega (arith, most, length-drop c.loop-done.done c.args.bytes.now);
      wrote = appends_next _ _ _ c.args.bytes.now c.loop-done.done c.in_ok-done.field-0 c.loop-done.invariant.wrote
          (rw take_rest at c.in_ok-done.ensures.bytes);
      counts = c.in_ok-done.ensures.cause.still ∙ c.loop-done.invariant.counts;
    }
