-- For `Cell::shut_turn` of src/opening.rt: the turn is shut.
use Rattle.std.proofs.Common.{rules}
use Rattle.lb_cell.proofs.Turning.{may_shut}
use Rattle.lb_cell.proofs.cell.Cell.shut_turn.Goals as goal

pub enter-requires-clause-may : goal.enter-requires-clause-may
enter-requires-clause-may g c =
    may_shut g.N.Names.header c.of-before.result.cell c.of-before.result.lane (search rules) (search rules) (search rules)
