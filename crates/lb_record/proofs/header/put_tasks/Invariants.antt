-- The loops of `put_tasks` of src/header.rt: the lines of tasks, from task 0.
use Rattle.std.proofs.Common.{◌≡◌, ◌++◌, drop}
use Rattle.lb_text.specs.Lines.{lines_text, numbered, StillStands}
use Rattle.lb_record.specs.Header.{task_line}
use Rattle.lb_record.proofs.header.put_tasks.Given as goal

abbrev pub invariant-loop-id : goal.invariant-loop-id
invariant-loop-id l = record {
  written : l.to.items ++ lines_text
      (numbered task_line l.id (drop l.id l.tasks)) ≡ l.fn.to.items ++ lines_text
      (numbered task_line 0 l.tasks);
  stands : StillStands l.fn.to.items l.to.items;
}
