-- The loops of `put_entries` of src/history.rt: the lines of entries, from ticket 1.
use Rattle.std.proofs.Common.{◌≡◌, ◌+◌, ◌++◌, true, drop}
use Rattle.lb_core.specs.Ranges.{fit_from}
use Rattle.lb_text.specs.Lines.{lines_text, numbered}
use Rattle.lb_record.specs.Entries.{entry_line}
use Rattle.lb_record.proofs.history.put_entries.Given as goal

abbrev pub invariant-loop-i : goal.invariant-loop-i
invariant-loop-i l =
    (l.to.items ++ lines_text (numbered entry_line (l.i + 1) (drop l.i l.entries)) ≡ l.fn.to.items ++ lines_text
    (numbered entry_line 1 l.entries))
    × (fit_from (l.i + 1) (drop l.i l.entries) ≡ true)
