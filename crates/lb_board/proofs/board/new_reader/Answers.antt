-- For `new_reader` of src/board.rt: a reader that has seen what the writers have published.
use Rattle.std.proofs.Common.{rules, map, ap, ◌∙◌}
use Rattle.lb_board.proofs.Sights.{same_get}
use Rattle.lb_board.proofs.board.new_reader.Goals as goal

pub new_holder-requires : goal.new_holder-requires
new_holder-requires c =
    same_get c.loop-i.writers c.args.cells.now (λ w. w.cell)
    (λ t. t.table.shared.table_id) c.loop-i.i c.index-writers-i.result c.index-cells-i.result
    (ap (map (λ w. w.cell)) c.loop-i.invariant.0 ∙ c.requires) (search rules)
    c.index-cells-i.is
