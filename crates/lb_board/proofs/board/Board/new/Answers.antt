-- For `Board::new` of src/board.rt: a cell with an opening figure for each of `cpus` CPUs, a writer for each
-- CPU and a reader for each of `lanes` lanes.
use Rattle.std.proofs.Common.{rules, map, ap, sym, ◌∙◌}
use Rattle.lb_board.proofs.Opening.{opened_more, writers_cells}
use Rattle.lb_board.proofs.board.Board.new.Goals as goal

pub loop-cpu-preserved : goal.loop-cpu-preserved
loop-cpu-preserved c = (
  opened_more (λ t. t.table.shared.table_id) c.loop-cpu.writers.items c.push_reserved-in-loop-cpu.new.self.items
      c.in_ok-cell.writer c.loop-cpu.cells.items c.push_reserved.new.self.items c.in_ok-cell.cell c.loop-cpu.cpu
      c.loop-cpu.invariant.0 c.loop-cpu.invariant.1 c.in_ok-cell.ensures c.push_reserved-in-loop-cpu.ensures.items
      c.push_reserved.ensures.items,
  search rules,
  search rules,
  search rules,
  search rules,
)

pub new_reader-requires : goal.new_reader-requires
new_reader-requires c =
    ap (map (λ w. w.cell)) (c.as_mut_slice.ensures.value ∙ c.loop-lane.invariant.0)
    ∙ (writers_cells 0 (map (λ t. t.table.shared.table_id) c.loop-cpu.cells.items)
    ∙ ap (map (λ t. t.table.shared.table_id)) (sym c.as_slice.ensures.value))
