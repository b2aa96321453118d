-- The loops of `leaders` of src/ring.rt: the CPUs that come first in their spans at a step, each within its
-- own mask.
use Rattle.std.proofs.Common.{◌≡◌, ℕ, ltb, ◌&&◌, None}
use Rattle.std.specs.List.{slice_index_or}
use Rattle.lb_base.specs.Mask.{has}
use Rattle.lb_domain.specs.Steps.{leads}
use Rattle.lb_domain.proofs.ring.leaders.Given as goal

abbrev pub invariant-loop-cpu : goal.invariant-loop-cpu
invariant-loop-cpu l =
    (k : ℕ) → has l.leaders k ≡ (ltb k l.cpu && leads l.machine.cpus l.machine.distances (slice_index_or l.own k None) l.step k)
