-- For `Cell::land` of src/landing.rt: the tasks of the lane's hand land here, by an `in`, for which room and
-- the landings are booked.
use Rattle.std.proofs.Common.{rules}
use Rattle.lb_cell.proofs.Moving.{may_land}
use Rattle.lb_cell.proofs.cell.Cell.land.Goals as goal

pub enter-requires-clause-may : goal.enter-requires-clause-may
enter-requires-clause-may g c =
    may_land g.N.Names.header c.of-before.result.cell c.of-before.result.lane c.replace-ids.result (search rules) (search rules)
