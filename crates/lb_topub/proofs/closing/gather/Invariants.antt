-- The loops of `gather` of src/closing.rt: spends a publisher and its lookers, and answers the last version.
use Rattle.std.proofs.Common.{ℕ, ◌<◌, get_or}
use mathlib.Core.List.{IsPrefix}
use Rattle.lb_topub.specs.Versions.{VersionsSeen}
use Rattle.lb_topub.proofs.closing.gather.Given as goal

abbrev pub invariant-loop-i : goal.invariant-loop-i
invariant-loop-i g l = (k : ℕ) (d : VersionsSeen) → k < l.i
    → IsPrefix (get_or l.fn.lookers.items k d).topologies l.fn.publisher.topologies
