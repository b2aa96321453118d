-- For `Cell::over` of src/ends.rt: ends the lane's open turn, by an `over`.
use Rattle.std.proofs.Common.{rules}
use Rattle.lb_cell.proofs.Closing.{may_over}
use Rattle.lb_cell.proofs.cell.Cell.over.Goals as goal

pub enter-requires-clause-may : goal.enter-requires-clause-may
enter-requires-clause-may g c = may_over g.N.Names.header c.of-before.result.cell c.of-before.result.lane (search rules)
