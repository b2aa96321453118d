-- For `read_history` of src/read.rt: the history that a text reads as, or its first line that is no line of a
-- history at its place (docs/rules/history-text.md).
use Rattle.lb_read.proofs.Refusals.{gives_read, gives_bad}
use Rattle.lb_read.proofs.read.read_history.Goals as goal

pub returns-clause-read : goal.returns-clause-read
returns-clause-read c = gives_read c.args.bytes.now c.read_lines.result c.read_lines.ensures

pub returns-clause-bad : goal.returns-clause-bad
returns-clause-bad c = gives_bad c.args.bytes.now c.read_lines.result c.read_lines.ensures
