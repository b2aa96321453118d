-- The loops of `run_end` of src/put.rt: the last CPU of the run that begins at this one.
use Rattle.std.proofs.Common.{◌≡◌, ℕ, ◌<◌, ◌≤◌, ◌-◌, true}
use Rattle.lb_base.specs.declared.mask.TheConstants.{MAX_CPUS}
use Rattle.lb_base.specs.Mask.{has}
use Rattle.lb_text.proofs.put.run_end.Given as goal

abbrev pub invariant-loop-last : goal.invariant-loop-last
invariant-loop-last l = record {
  from : l.first ≤ l.last;
  in_range : l.last < MAX_CPUS;
  there : (k : ℕ) → l.first < k → k ≤ l.last → has l.mask k ≡ true;
}

abbrev pub decreases-loop-last : goal.decreases-loop-last
decreases-loop-last l = MAX_CPUS - l.last
