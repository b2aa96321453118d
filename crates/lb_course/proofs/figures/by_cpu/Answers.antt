-- For `by_cpu` of src/figures.rt: the figures that were read, one for each CPU, from CPU 0. A CPU of which
-- none was read has none.
use Rattle.std.proofs.Common.{ℕ, ◌≡◌, ◌==◌, ◌<◌, length, find, take, map, arith, ap, sym, ◌∙◌}
use Rattle.std.specs.List.{range_with_len}
use Rattle.std.proofs.Math.Seq.{take-length}
use Rattle.std.proofs.Math.ListN.{length-set}
use Rattle.lb_base.specs.declared.figure.Fig.{Fig}
use Rattle.lb_core.specs.Sight.{fig_or_none, by_cpu}
use Rattle.lb_course.proofs.Filling.{filled_more}
use Rattle.lb_course.proofs.figures.by_cpu.Goals as goal

pub loop-cpu-preserved : goal.loop-cpu-preserved
loop-cpu-preserved c =
    let l = c.loop-cpu in
    let f : ℕ → Fig = λ cpu. fig_or_none (find (λ f. f.cpu == cpu) c.args.figures.now) in
    let inside : l.cpu < length l.figs = omega arith in
    record {
      room = length-set l.figs l.cpu c.fig_of.result ∙ l.invariant.room;
      so_far = filled_more f l.figs l.cpu c.fig_of.result inside c.fig_of.ensures l.invariant.so_far;
    }

pub returns : goal.returns
unfolding by_cpu
returns c =
    let l = c.loop-cpu in
    let f : ℕ → Fig = λ cpu. fig_or_none (find (λ f. f.cpu == cpu) c.args.figures.now) in
    let all : length l.figs ≡ l.cpu = omega arith in
    let end : l.cpu ≡ 64 = omega arith in
    sym (take-length l.figs) ∙ ap (λ (n : ℕ). take n l.figs) all ∙ l.invariant.so_far
    ∙ ap (λ (n : ℕ). map f (range_with_len 0 n)) end
