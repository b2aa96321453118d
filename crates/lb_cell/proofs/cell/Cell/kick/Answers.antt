-- For `Cell::kick` of src/requests.rt: kicks a tickless CPU, by a `kick`.
use Rattle.std.proofs.Common.{rules}
use Rattle.lb_cell.proofs.Asking.{may_kick}
use Rattle.lb_cell.proofs.cell.Cell.kick.Goals as goal

pub enter-requires-clause-may : goal.enter-requires-clause-may
enter-requires-clause-may g c =
    may_kick g.N.Names.header c.of-before.result.cell c.of-before.result.lane c.kick-reply.result (search rules) (search rules)
