-- The refusals of a topology: the faults of its masks.
-- Cited by the contract of `Topology::build`.
use Rattle.lb_levels.specs.declared.faults.PartsFault.{PartsFault}
use Rattle.lb_levels.specs.declared.faults.PartsFault.TheVariants as fault
use Rattle.lb_domain.specs.declared.topology.BuildError.{BuildError}
use Rattle.lb_domain.specs.declared.topology.BuildError.TheVariants as error

abbrev pub as_error : PartsFault → BuildError
as_error (fault.NoSuchCpu part) = error.NoSuchCpu part
as_error (fault.Overlap first second) = error.Overlap first second
