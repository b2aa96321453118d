-- For `Writer::publish` of src/writer.rt: adds a figure to those that the CPU published.
use Rattle.std.proofs.Common.{rules, sym, ◌∙◌, ap, length, slice_get}
use Rattle.lb_board.specs.Board.{Posts, seen_by}
use Rattle.lb_seen.proofs.Steps.{adds}
use Rattle.lb_board.proofs.Sights.{ends_more, image_at}
use Rattle.lb_board.proofs.writer.Writer.publish.Goals as goal

pub swap_as-requires : goal.swap_as-requires
swap_as-requires g c = (
  search rules,
  (
    search rules,
    (
      ap (λ w. w.cell) c.self.view_is
          ∙ image_at c.board.inside.cells.items
          (λ t. t.table.shared.table_id) c.self.inside.cpu c.index-cell.result.now c.args.self.now.cell
          (ap (λ l. slice_get l c.self.inside.cpu) c.board.view_is
          ∙ (ap (λ w. slice_get c.args.board.now w.cpu) c.self.view_is ∙ c.requires.board)) c.index-cell.ensures,
      adds Posts (λ p. p.fig) _ _ (record { fig = c.args.fig }) c.self.invariant.0
          (ends_more (seen_by c.self.inside.pass) c.args.fig
          (c.requires.next.0 ∙ sym (ap (λ w. length w.figures) c.self.view_is))),
    ),
  ),
)
