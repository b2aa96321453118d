-- The loops of `put_rows` of src/text.rt: the lines of the rows.
use Rattle.std.proofs.Common.{◌≡◌, ◌-◌, ◌++◌, map}
use Rattle.lb_generator.specs.Generator.{rows_from}
use Rattle.lb_text.specs.Lines.{lines_text}
use Rattle.lb_generator.specs.Text.{row_line}
use Rattle.lb_generator.proofs.text.put_rows.Given as goal

abbrev pub invariant-loop-i : goal.invariant-loop-i
invariant-loop-i l =
    l.to.items ++ lines_text (map row_line (rows_from (l.rows - l.i) l.i l.draws.state))
    ≡ l.fn.to.items ++ lines_text (map row_line (rows_from l.rows 0 l.fn.number))
