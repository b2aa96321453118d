-- For `decide` of src/decision.rt: the decision of `cpu` about one of its domains, of the given shape and
-- groups (docs/rules/decision.md).
use Rattle.std.proofs.Common.{◌≤◌, length, get_or, arith, rules}
use Rattle.lb_base.specs.Mask.{no_cpus}
use Rattle.lb_imbalance.specs.Decision.{all_stats}
use Rattle.lb_imbalance.proofs.Groups.{some_group, group_in_span, all_have_figures, all_have_small_sums, left_has}
use Rattle.lb_imbalance.proofs.Statistics.{all_in_range, all_loads, caps_small, first_cap, length-all_stats}
use Rattle.lb_imbalance.proofs.decision.decide.Goals as goal

pub bounds-groups-0 : goal.bounds-groups-0
bounds-groups-0 c = some_group c.args.groups.now c.args.cpu c.requires.local

pub balances-requires : goal.balances-requires
balances-requires c = λ k here. c.requires.figures k
    (group_in_span c.args.shape.now.span c.args.groups.now c.requires.union 0
    (some_group c.args.groups.now c.args.cpu c.requires.local) k here)

pub stats_of_groups-stats-requires-clause-figures : goal.stats_of_groups-stats-requires-clause-figures
stats_of_groups-stats-requires-clause-figures c =
    all_have_figures c.args.figs.now c.args.shape.now.span c.args.excluded c.args.groups.now c.requires.union c.requires.figures

pub busy-requires : goal.busy-requires
busy-requires c = c.requires.figures c.args.cpu
    (group_in_span c.args.shape.now.span c.args.groups.now c.requires.union 0
    (some_group c.args.groups.now c.args.cpu c.requires.local) c.args.cpu c.requires.local)

pub decide_over-requires-clause-some : goal.decide_over-requires-clause-some
decide_over-requires-clause-some c = some_group c.args.groups.now c.args.cpu c.requires.local

pub decide_over-requires-clause-figures : goal.decide_over-requires-clause-figures
decide_over-requires-clause-figures c = all_have_figures c.args.figs.now c.args.shape.now.span c.args.excluded
    c.args.groups.now c.requires.union c.requires.figures

pub decide_over-requires-clause-ranges : goal.decide_over-requires-clause-ranges
decide_over-requires-clause-ranges c =
    rw c.stats_of_groups-stats.ensures (all_in_range c.args.shape.now c.args.groups.now c.args.figs.now
    c.args.excluded (all_have_small_sums c.args.figs.now c.args.excluded c.args.groups.now c.requires.sums))

pub decide_over-requires-clause-load : goal.decide_over-requires-clause-load
decide_over-requires-clause-load c =
    rw (c.stats_of_groups-stats.ensures, all_loads c.args.shape.now c.args.groups.now c.args.figs.now c.args.excluded)
    c.requires.sums.load

pub decide_over-requires-clause-some_cap : goal.decide_over-requires-clause-some_cap
decide_over-requires-clause-some_cap c =
    let local = get_or c.args.groups.now 0 no_cpus in
    let lt = c.balances.ensures.below c.requires.local in
    rw c.stats_of_groups-stats.ensures
    (first_cap c.args.shape.now c.args.groups.now c.args.figs.now c.args.excluded
    (some_group c.args.groups.now c.args.cpu c.requires.local) c.args.cpu lt
    (left_has local c.args.excluded c.args.cpu (search rules) lt c.requires.local (c.requires.kept c.args.cpu c.requires.local)))

pub decide_over-requires-clause-cap : goal.decide_over-requires-clause-cap
decide_over-requires-clause-cap c =
    let few : length (all_stats c.args.shape.now c.args.groups.now c.args.figs.now c.args.excluded) ≤ 64 =
    omega (arith, length-all_stats c.args.shape.now c.args.groups.now c.args.figs.now c.args.excluded, c.requires.count) in
    rw c.stats_of_groups-stats.ensures (caps_small _ few
    (all_in_range c.args.shape.now c.args.groups.now c.args.figs.now c.args.excluded
    (all_have_small_sums c.args.figs.now c.args.excluded c.args.groups.now c.requires.sums)))
