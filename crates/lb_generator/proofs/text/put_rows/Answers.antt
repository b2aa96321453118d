-- For `put_rows` of src/text.rt: the lines of the rows.
use Rattle.std.proofs.Common.{ℕ, ◌+◌, ◌-◌, List, [], ◌∷◌, ◌++◌, map, sym, ap, ◌∙◌, arith}
use Rattle.std.proofs.lemmas.List.{append-nil}
use Rattle.lb_generator.specs.Generator.{rows_from}
use Rattle.lb_text.specs.Lines.{lines_text}
use Rattle.lb_generator.specs.Text.{row_line}
use Rattle.lb_generator.proofs.Growing.{rows_end, next_row, one_less}
use Rattle.lb_generator.proofs.text.put_rows.Goals as goal

pub loop-i-preserved : goal.loop-i-preserved
loop-i-preserved c =
    one_less c.loop-i.to.items c.put_row.new.to.items
    (c.args.to.now.items ++ lines_text (map row_line (rows_from c.args.rows 0 c.args.number)))
    (lines_text (map row_line (rows_from (c.args.rows - c.loop-i.i) c.loop-i.i c.loop-i.draws.state)))
    (lines_text (map row_line (rows_from (c.args.rows - (c.loop-i.i + 1)) (c.loop-i.i + 1) c.row.new.self.state)))
    (row_line c.in_ok-row.row ++ 10 ∷ [])
    c.in_ok-put_row.ensures
    (next_row c.args.rows c.loop-i.i c.loop-i.draws.state (omega arith) c.in_ok-row.row c.row.new.self.state
    c.in_ok-row.ensures.0 c.in_ok-row.ensures.1)
    c.loop-i.invariant

pub returns : goal.returns
returns c =
    let none = rows_end c.args.rows c.loop-i.i c.loop-i.draws.state (omega arith) in
    sym (append-nil c.loop-i.to.items) ∙ ap (λ (t : List ℕ). c.loop-i.to.items ++ t) (sym none) ∙ c.loop-i.invariant
