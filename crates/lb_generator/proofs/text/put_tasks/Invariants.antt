-- The loops of `put_tasks` of src/text.rt: the lines of the tasks.
use Rattle.std.proofs.Common.{◌≡◌, ◌++◌}
use Rattle.lb_text.specs.Lines.{lines_text}
use Rattle.lb_generator.specs.Text.{task_lines}
use Rattle.lb_generator.proofs.text.put_tasks.Given as goal

abbrev pub invariant-loop-i : goal.invariant-loop-i
invariant-loop-i l = l.to.items ≡ l.fn.to.items ++ lines_text (task_lines l.i)
