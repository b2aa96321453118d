-- For `spells_worked_lines` of src/laws.rt: worked lines of a header and of entries of every kind have the
-- texts that are wanted (docs/rules/history-text.md).
use Rattle.lb_record.proofs.Worked.{rows, moves, turns, ends, header}
use Rattle.lb_record.proofs.laws.spells_worked_lines.Goals as goal

pub returns-clause-rows : goal.returns-clause-rows
returns-clause-rows c = rows

pub returns-clause-moves : goal.returns-clause-moves
returns-clause-moves c = moves

pub returns-clause-turns : goal.returns-clause-turns
returns-clause-turns c = turns

pub returns-clause-ends : goal.returns-clause-ends
returns-clause-ends c = ends

pub returns-clause-header : goal.returns-clause-header
returns-clause-header c = header
