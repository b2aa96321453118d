-- For `undeclared_lane` of src/laws.rt: what `declared` of the owner's test is for.
use Rattle.lb_journal_rows.proofs.Missing.{undeclared, declared_fit, stray_meets, stray_breaks}
use Rattle.lb_journal_rows.proofs.laws.undeclared_lane.Goals as goal

pub returns-clause-misses : goal.returns-clause-misses
returns-clause-misses c = undeclared

pub returns-clause-declared : goal.returns-clause-declared
returns-clause-declared c = declared_fit

pub returns-clause-others : goal.returns-clause-others
returns-clause-others c = stray_meets

pub returns-clause-breaks : goal.returns-clause-breaks
returns-clause-breaks c = stray_breaks
