-- For `a_partition_has_no_fault` of src/laws.rt: masks have no fault exactly where each has CPUs of the
-- machine alone and no two share one.
use Rattle.lb_levels.proofs.NoFault.{partition_from_no_fault, no_fault_from_partition}
use Rattle.lb_levels.proofs.laws.a_partition_has_no_fault.Goals as goal

pub returns : goal.returns
returns c = λ cpus parts. (partition_from_no_fault cpus parts, no_fault_from_partition cpus parts)
