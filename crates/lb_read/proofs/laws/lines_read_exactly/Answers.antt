-- For `lines_read_exactly` of src/laws.rt: a line reads as an entry with its ticket exactly where it is that
-- entry's line, and what it says is in range; and what was read has one text.
use Rattle.lb_read.proofs.Exactly.{lines_read_exactly, one_text}
use Rattle.lb_read.proofs.laws.lines_read_exactly.Goals as goal

pub returns-clause-lines : goal.returns-clause-lines
returns-clause-lines c = lines_read_exactly

pub returns-clause-text : goal.returns-clause-text
returns-clause-text c = one_text
