-- For `Cell::ask` of src/requests.rt: asks the source of a failed pull for a push to the turn's CPU, by an
-- `ask`.
use Rattle.std.proofs.Common.{rules}
use Rattle.lb_cell.proofs.Asking.{may_ask}
use Rattle.lb_cell.proofs.cell.Cell.ask.Goals as goal

pub enter-requires-clause-may : goal.enter-requires-clause-may
enter-requires-clause-may g c =
    may_ask g.N.Names.header c.of-before.result.cell c.of-before.result.lane c.ask_active-reply.result
    (search rules) (search rules)
