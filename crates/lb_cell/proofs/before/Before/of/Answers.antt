-- For `Before::of` of src/before.rt: the cell and the lane as they are now.
use Rattle.std.proofs.Common.{subst, sym, ◌∙◌, ap}
use Rattle.lb_journal.specs.contracts.journal.Left.{the_row}
use Rattle.lb_cell.specs.Cells.{CellKeeps, LaneKeeps}
use Rattle.lb_cell.proofs.before.Before.of.Goals as goal

pub invariant_of-result : goal.invariant_of-result
invariant_of-result g c =
    let n = g.N.Names in (
      subst (λ x. CellKeeps n.header n.book n.board x) (c.cell.view_is ∙ sym c.of.ensures) c.cell.invariant,
      subst (λ x. LaneKeeps n.header n.book n.board the_row.coded x) (c.lane.view_is ∙ sym c.of-2.ensures) c.lane.invariant,
      c.of-3.ensures ∙ (ap (λ x. x.course) c.lane.view_is ∙ ap (λ x. x.course) (sym c.of-2.ensures)),
    )
