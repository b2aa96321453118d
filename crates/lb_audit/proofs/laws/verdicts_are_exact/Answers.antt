-- For `verdicts_are_exact` of src/laws.rt: a history that was read is called legal exactly where its tickets
-- are the places of its entries and these are a legal history; and it is refused with a ticket and a rule
-- exactly where that is its first fault.
use Rattle.lb_audit.proofs.Faults.{legal_exactly, fault_exactly, own_verdict}
use Rattle.lb_audit.proofs.laws.verdicts_are_exact.Goals as goal

pub returns-clause-legal : goal.returns-clause-legal
returns-clause-legal c = legal_exactly

pub returns-clause-fault : goal.returns-clause-fault
returns-clause-fault c = fault_exactly

pub returns-clause-own : goal.returns-clause-own
returns-clause-own c = own_verdict
