-- For `with_cpu` of src/queue.rt: the source queue among the CPUs up to `cpu`.
use Rattle.std.proofs.Common.{rules, sym, ◌∙◌}
use Rattle.lb_busiest.proofs.Order.{source_in}
use Rattle.lb_busiest.proofs.queue.with_cpu.Goals as goal

pub bounds-figs-cpu : goal.bounds-figs-cpu
bounds-figs-cpu c = c.requires.figures c.args.cpu (source_in _ _ _ _ _ (sym c.is_source.ensures ∙ search rules))

pub bounds-figs-held : goal.bounds-figs-held
bounds-figs-held c =
    let held = rw c.in-Some.is at c.requires.so_far in
    c.requires.figures c.in-Some.held (source_in _ _ _ _ _ held.passes)
