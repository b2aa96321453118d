-- For `Cell::open_turn` of src/opening.rt: the turn opens.
use Rattle.std.proofs.Common.{rules}
use Rattle.lb_cell.proofs.Turning.{may_turn}
use Rattle.lb_cell.proofs.cell.Cell.open_turn.Goals as goal

pub enter-requires-clause-may : goal.enter-requires-clause-may
enter-requires-clause-may g c =
    may_turn g.N.Names.header c.of-before.result.cell c.of-before.result.lane c.args.positions (search rules) (search rules)
    (search rules) (search rules)
