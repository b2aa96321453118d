-- The loops of `all_leaders` of src/ring.rt: for each step below the uppermost level, the CPUs that come
-- first in their spans.
use Rattle.std.proofs.Common.{◌≡◌, ℕ, ◌<◌, ltb, ◌&&◌, length, None}
use Rattle.std.specs.List.{slice_index_or}
use Rattle.lb_base.specs.Mask.{has, no_cpus}
use Rattle.lb_domain.specs.Steps.{leads}
use Rattle.lb_domain.proofs.ring.all_leaders.Given as goal

abbrev pub invariant-loop-step : goal.invariant-loop-step
invariant-loop-step l = record {
  steps : length l.all ≡ l.step;
  lead : (step : ℕ) → step < l.step → (k : ℕ)
      → has (slice_index_or l.all step no_cpus) k ≡
      (ltb k (length l.own) && leads l.machine.cpus l.machine.distances (slice_index_or l.own k None) step k);
}
