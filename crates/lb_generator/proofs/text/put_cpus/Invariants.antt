-- The loops of `put_cpus` of src/text.rt: the lines of the CPUs.
use Rattle.std.proofs.Common.{◌≡◌, ◌++◌}
use Rattle.lb_text.specs.Lines.{lines_text}
use Rattle.lb_generator.specs.Text.{cpu_lines}
use Rattle.lb_generator.proofs.text.put_cpus.Given as goal

abbrev pub invariant-loop-i : goal.invariant-loop-i
invariant-loop-i l = l.to.items ≡ l.fn.to.items ++ lines_text (cpu_lines l.i)
