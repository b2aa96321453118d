-- What a machine keeps beside its rows and distances: that they have no fault, and its levels and
-- spans.
-- What contracts see of the type `Machine`.
use Rattle.std.specs.Prelude.{◌≡◌, ◌<◌, ◌≤◌, None, length}
use Rattle.lb_base.specs.declared.mask.TheConstants.{MAX_CPUS}
use Rattle.lb_levels.specs.declared.limits.TheConstants.{MAX_NODES}
use Rattle.lb_levels.specs.declared.machine.Machine.TheInside.{Inside}
use Rattle.lb_levels.specs.Faults.{fault_of}
use Rattle.lb_levels.specs.Spans.{levels_of, spans_of}

pub record IsKept (m : Inside) : Type 0 where
  pub some : 0 < length m.cpus
  pub few : length m.cpus ≤ MAX_CPUS
  pub nodes : length m.distances ≤ MAX_NODES
  pub good : fault_of m.cpus m.distances ≡ None
  pub names : m.names ≡ levels_of m.distances
  pub spans : m.spans ≡ spans_of m.cpus m.distances
