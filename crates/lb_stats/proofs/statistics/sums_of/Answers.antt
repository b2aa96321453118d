-- For `sums_of` of src/statistics.rt.
use Rattle.std.proofs.Common.{◌+◌, ℕ, List, [], ◌∷◌, ◌++◌, false, refl, sym, subst, arith}
use Rattle.lb_base.specs.declared.mask.TheConstants.{MAX_CPUS}
use Rattle.lb_base.specs.Mask.{members_below}
use Rattle.lb_base.specs.Figures.{fig_at}
use Rattle.lb_base.proofs.Members.{members_all}
use Rattle.lb_stats.specs.Statistics.{is_idle}
use Rattle.lb_base.proofs.Walks.{stands, comes_further, walk_starts, walk_steps, IsAt}
use Rattle.lb_stats.proofs.Running.{sums_more, fits, one_at_most, all_summed, IsSumOver}
use Rattle.lb_stats.proofs.statistics.sums_of.Goals as goal
use Rattle.lb_stats.proofs.statistics.sums_of.Goals.{In-Some}

pub loop-next-init : goal.loop-next-init
loop-next-init c =
    let starts = walk_starts c.args.group c.first-next.result c.first-next.ensures.cpus in
    record {
      at = stands c.args.group 0 c.first-next.result c.first-next.ensures.cpus;
      so_far = subst (λ (cpus : List ℕ). IsSumOver c.args.position c.args.figs.now cpus
          (record { nr = 0; load = 0; util = 0; runnable = 0; idle = 0; marked = false })) (sym starts)
          (record { nr = refl; load = refl; util = refl; runnable = refl; idle = refl; marked = refl });
      few_idle = omega arith;
    }

at : (c : In-Some) → IsAt c.args.group c.in-Some.cpu
at c = rw c.in-Some.is at c.loop-next.invariant.at

so_far : (c : In-Some) → IsSumOver c.args.position c.args.figs.now (members_below c.args.group c.in-Some.cpu) c.loop-next.sums
so_far c = rw c.in-Some.is at c.loop-next.invariant.so_far

pub add-requires-clause-nr : goal.add-requires-clause-nr
add-requires-clause-nr c =
    let d = (goal.at.add-requires-clause-nr c).In-Some in
    omega (
      arith,
      fits (λ fig. fig.nr) c.args.figs.now c.args.group c.in-Some.cpu c.loop-next.sums.nr (at d)
          (so_far d).nr,
      c.requires.sums.nr,
    )

pub add-requires-clause-load : goal.add-requires-clause-load
add-requires-clause-load c =
    let d = (goal.at.add-requires-clause-load c).In-Some in
    omega (
      arith,
      fits (λ fig. fig.load) c.args.figs.now c.args.group c.in-Some.cpu c.loop-next.sums.load (at d)
          (so_far d).load,
      c.requires.sums.load,
    )

pub add-requires-clause-util : goal.add-requires-clause-util
add-requires-clause-util c =
    let d = (goal.at.add-requires-clause-util c).In-Some in
    omega (
      arith,
      fits (λ fig. fig.util) c.args.figs.now c.args.group c.in-Some.cpu c.loop-next.sums.util (at d)
          (so_far d).util,
      c.requires.sums.util,
    )

pub add-requires-clause-runnable : goal.add-requires-clause-runnable
add-requires-clause-runnable c =
    let d = (goal.at.add-requires-clause-runnable c).In-Some in
    omega (
      arith,
      fits (λ fig. fig.runnable) c.args.figs.now c.args.group c.in-Some.cpu c.loop-next.sums.runnable
          (at d) (so_far d).runnable,
      c.requires.sums.runnable,
    )

pub loop-next-preserved : goal.loop-next-preserved
loop-next-preserved c =
    let d = (goal.at.loop-next-preserved c).In-Some in
    let here = at d in
    let room = here.in_range in
    let more : IsSumOver c.args.position c.args.figs.now
    (members_below c.args.group c.in-Some.cpu ++ c.in-Some.cpu ∷ []) c.add.new.self =
    sums_more c.args.position c.args.figs.now
    (members_below c.args.group c.in-Some.cpu) c.in-Some.cpu c.loop-next.sums c.add.new.self (so_far d)
    (record {
      nr = c.add.ensures.nr;
      load = c.add.ensures.load;
      util = c.add.ensures.util;
      runnable = c.add.ensures.runnable;
      idle = c.add.ensures.idle;
      marked = c.add.ensures.marked;
    }) in
    let few = rw c.in-Some.is at c.loop-next.invariant.few_idle in
    let one = one_at_most (is_idle (fig_at c.args.figs.now c.in-Some.cpu)) in
    record {
      at = stands c.args.group (c.in-Some.cpu + 1) c.next_after-next.result c.next_after-next.ensures.cpus;
      so_far = subst (λ (cpus : List ℕ). IsSumOver c.args.position c.args.figs.now cpus c.add.new.self)
          (sym (walk_steps c.args.group c.in-Some.cpu c.next_after-next.result here c.next_after-next.ensures.cpus)) more;
      few_idle = omega (
        arith,
        c.add.ensures.idle,
        comes_further c.args.group
            (c.in-Some.cpu + 1) c.next_after-next.result (omega arith) c.next_after-next.ensures.cpus,
      );
    }

pub returns : goal.returns
returns c =
    let sums : IsSumOver c.args.position c.args.figs.now (members_below c.args.group MAX_CPUS) c.loop-next.sums =
    rw c.in_default.is at c.loop-next.invariant.so_far in
    let all = all_summed c.args.position c.args.figs.now c.args.group c.loop-next.sums
    (rw (sym (members_all c.args.group)) at sums) in
    record { nr = all.nr; load = all.load; util = all.util; runnable = all.runnable; idle = all.idle; marked = all.marked }
