-- For `put_tasks` of src/text.rt: the lines of the tasks.
use Rattle.std.proofs.Common.{ℕ, ◌+◌, List, [], ◌∷◌, ◌++◌, sym, ap, ◌∙◌}
use Rattle.std.proofs.lemmas.List.{append-nil}
use Rattle.lb_text.specs.Lines.{lines_text}
use Rattle.lb_generator.specs.Text.{task_line, task_lines}
use Rattle.lb_generator.proofs.Growing.{no_task_lines, more_task_lines, one_more}
use Rattle.lb_generator.proofs.text.put_tasks.Goals as goal

pub loop-i-init : goal.loop-i-init
loop-i-init c = sym (ap (λ (t : List ℕ). c.args.to.now.items ++ t) no_task_lines ∙ append-nil c.args.to.now.items)

pub loop-i-preserved : goal.loop-i-preserved
loop-i-preserved c =
    one_more c.loop-i.to.items c.put_task.new.to.items c.args.to.now.items (lines_text (task_lines c.loop-i.i))
    (lines_text (task_lines (c.loop-i.i + 1))) (task_line c.loop-i.i c.task_at.result ++ 10 ∷ [])
    c.in_ok-put_task.ensures c.loop-i.invariant (more_task_lines c.loop-i.i c.task_at.result c.task_at.ensures)
