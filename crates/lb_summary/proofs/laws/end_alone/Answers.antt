-- For `end_alone` of src/laws.rt: the summary of a history without rows, which is its end alone
-- (docs/rules/generator.md).
use Rattle.lb_summary.proofs.Alone.{end_alone}
use Rattle.lb_summary.proofs.laws.end_alone.Goals as goal

pub returns : goal.returns
returns c = end_alone
