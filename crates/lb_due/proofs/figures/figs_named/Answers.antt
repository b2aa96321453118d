-- For `figs_named` of src/figures.rt: the named figures, one for each CPU, from CPU 0. A CPU that is not
-- named has none.
use Rattle.std.proofs.Common.{ℕ, ◌≡◌, ◌==◌, ◌<◌, length, find, take, map, arith, ap, sym, ◌∙◌}
use Rattle.std.specs.List.{range_with_len}
use Rattle.std.proofs.Math.Seq.{take-length}
use Rattle.std.proofs.Math.ListN.{length-set}
use Rattle.lb_core.specs.Sight.{fig_or_none, by_cpu}
use Rattle.lb_core.specs.Machine.{figures_named}
use Rattle.lb_course.proofs.Filling.{filled_more}
use Rattle.lb_due.proofs.figures.figs_named.Goals as goal

pub loop-cpu-preserved : goal.loop-cpu-preserved
loop-cpu-preserved c =
    let inside : c.loop-cpu.cpu < length c.loop-cpu.figs = let r = c.loop-cpu.invariant.room in omega arith in
    record {
      room = length-set c.loop-cpu.figs c.loop-cpu.cpu c.fig_of.result ∙ c.loop-cpu.invariant.room;
      so_far = filled_more (λ (cpu : ℕ). fig_or_none
          (find (λ f. f.cpu == cpu) (figures_named c.args.engine.now.machine.figures c.args.names.now)))
          c.loop-cpu.figs c.loop-cpu.cpu c.fig_of.result inside c.fig_of.ensures c.loop-cpu.invariant.so_far;
    }

pub returns : goal.returns
unfolding by_cpu
returns c =
    let r = c.loop-cpu.invariant.room in
    let all : length c.loop-cpu.figs ≡ c.loop-cpu.cpu = omega arith in
    let end : c.loop-cpu.cpu ≡ 64 = omega arith in
    sym (take-length c.loop-cpu.figs) ∙ ap (λ (n : ℕ). take n c.loop-cpu.figs) all ∙ c.loop-cpu.invariant.so_far
    ∙ ap (λ (n : ℕ). map (λ (cpu : ℕ). fig_or_none
    (find (λ f. f.cpu == cpu) (figures_named c.args.engine.now.machine.figures c.args.names.now))) (range_with_len 0 n)) end
