-- For `count` of src/closing.rt: how many figures were published, the opening ones not counted.
use Rattle.std.proofs.Common.{rules, map, ap, ◌∙◌}
use Rattle.lb_board.proofs.Sights.{same_get}
use Rattle.lb_board.proofs.closing.count.Goals as goal

pub last_number-total-requires : goal.last_number-total-requires
last_number-total-requires g c =
    same_get c.loop-i.writers c.args.cells.now (λ w. w.cell)
    (λ t. t.table.shared.table_id) c.loop-i.i c.index-writers-i.result c.index-cells-i.result
    (ap (map (λ w. w.cell)) c.loop-i.invariant.0 ∙ c.requires.writers) (search rules)
    c.index-cells-i.is
