-- For `put_header` of src/text.rt: the lines of the header.
use Rattle.std.proofs.Common.{◌≡◌, ℕ, List, ◌++◌, sym, ap, ◌∙◌, codes}
use Rattle.lb_text.specs.Lines.{lines_text}
use Rattle.lb_generator.specs.Text.{cpu_lines, task_lines, header_lines}
use Rattle.lb_generator.proofs.Growing.{header_text, five_parts}
use Rattle.lb_generator.proofs.text.put_header.Goals as goal

pub returns : goal.returns
returns c =
    let to = c.args.to.now.items in
    let cpus = lines_text (cpu_lines 16) in
    let tasks = lines_text (task_lines 200) in
    let first = codes "lbtrace,1\n" in
    let middle = codes "dist,10,20\ndist,20,10\nlanes,4\n" in
    let front : c.extend_from_slice-2.new.self.items ≡ ((to ++ first) ++ cpus) ++ middle =
    c.in_ok-extend_from_slice-2.ensures.items
    ∙ ap (λ (t : List ℕ). t ++ middle)
    (c.in_ok-put_cpus.ensures ∙ ap (λ (t : List ℕ). t ++ cpus) c.in_ok-extend_from_slice.ensures.items) in
    let whole : (((to ++ first) ++ cpus) ++ middle) ++ tasks ≡ to ++ lines_text header_lines =
    five_parts to first cpus middle tasks
    ∙ ap (λ (t : List ℕ). to ++ t) (sym header_text) in
    rw (front, whole) at c.put_tasks.ensures
