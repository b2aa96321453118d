-- For `a_machine_has_no_fault` of src/laws.rt: rows and a table have no fault exactly where each line can
-- stand after those before it, the table is square over the nodes, and the nodes are nested.
use Rattle.lb_levels.proofs.NoFault.{machine_from_no_fault, no_fault_from_machine}
use Rattle.lb_levels.proofs.laws.a_machine_has_no_fault.Goals as goal

pub returns : goal.returns
returns c = λ cpus table some. (machine_from_no_fault cpus table some, no_fault_from_machine cpus table some)
