-- For `put_cpus` of src/text.rt: the lines of the CPUs.
use Rattle.std.proofs.Common.{ℕ, ◌+◌, List, [], ◌∷◌, ◌++◌, sym, ap, ◌∙◌}
use Rattle.std.proofs.lemmas.List.{append-nil}
use Rattle.lb_text.specs.Lines.{lines_text}
use Rattle.lb_generator.specs.Text.{cpu_line, cpu_lines}
use Rattle.lb_generator.proofs.Growing.{no_cpu_lines, more_cpu_lines, one_more}
use Rattle.lb_generator.proofs.text.put_cpus.Goals as goal

pub loop-i-init : goal.loop-i-init
loop-i-init c = sym (ap (λ (t : List ℕ). c.args.to.now.items ++ t) no_cpu_lines ∙ append-nil c.args.to.now.items)

pub loop-i-preserved : goal.loop-i-preserved
loop-i-preserved c =
    one_more c.loop-i.to.items c.put_cpu.new.to.items c.args.to.now.items (lines_text (cpu_lines c.loop-i.i))
    (lines_text (cpu_lines (c.loop-i.i + 1))) (cpu_line c.loop-i.i c.cpu_at.result ++ 10 ∷ [])
    c.in_ok-put_cpu.ensures c.loop-i.invariant (more_cpu_lines c.loop-i.i c.cpu_at.result c.cpu_at.ensures)
