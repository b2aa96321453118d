-- For `Cell::close` of src/ends.rt: closes the position in work of the lane's open turn, by a `close`, and
-- answers how it ended.
use Rattle.std.proofs.Common.{rules, ◌≡◌, subst}
use Rattle.lb_core.specs.declared.entry.What.TheVariants as what
use Rattle.lb_core.specs.Rules.{closed_counters}
use Rattle.lb_cell.specs.Draws.{MayDraw}
use Rattle.lb_cell.specs.Turns.{closing}
use Rattle.lb_cell.proofs.Closing.{may_close}
use Rattle.lb_cell.proofs.cell.Cell.close.Goals as goal

pub enter-requires-clause-may : goal.enter-requires-clause-may
unfolding closed_counters
enter-requires-clause-may g c =
    let h = g.N.Names.header in
    let b = c.of-before.result in
    let is : closing h b.cell b.lane
    ≡ what.Close c.lane.inside.parts.course.position c.word_of-2.result c.counters_left-left.result.interval
    c.counters_left-left.result.failures = search rules in
    subst (MayDraw h b.cell b.lane) is (may_close h b.cell b.lane (search rules))
