-- The loops of `put_cpus` of src/header.rt: the lines of CPUs, from CPU 0.
use Rattle.std.proofs.Common.{◌≡◌, ◌++◌, drop}
use Rattle.lb_text.specs.Lines.{lines_text, numbered, StillStands}
use Rattle.lb_record.specs.Header.{cpu_line}
use Rattle.lb_record.proofs.header.put_cpus.Given as goal

abbrev pub invariant-loop-id : goal.invariant-loop-id
invariant-loop-id l = record {
  written : l.to.items ++ lines_text
      (numbered cpu_line l.id (drop l.id l.cpus)) ≡ l.fn.to.items ++ lines_text
      (numbered cpu_line 0 l.cpus);
  stands : StillStands l.fn.to.items l.to.items;
}
