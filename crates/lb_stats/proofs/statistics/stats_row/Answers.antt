use Rattle.std.proofs.Common.{◌≡◌, ◌<◌, length, get_or, arith, refl, ◌∙◌}
use Rattle.std.proofs.lemmas.List.{get_or_default, drop-set-lt}
use Rattle.std.proofs.Math.ListN.{length-set}
use Rattle.lb_base.specs.Mask.{no_cpus}
use Rattle.lb_stats.proofs.Rows.{one_group_more}
use Rattle.lb_stats.proofs.statistics.stats_row.Goals as goal

pub loop-i-init : goal.loop-i-init
loop-i-init c = record { places = refl; so_far = refl; rest = refl }

pub loop-i-preserved : goal.loop-i-preserved
loop-i-preserved c =
    let room : c.loop-i.i < length c.loop-i.row = omega arith in
    let g = get_or c.args.groups.now c.loop-i.i no_cpus in
    let read : g ≡ get_or c.args.groups.now c.loop-i.i g = get_or_default c.args.groups.now c.loop-i.i no_cpus g c.loop-i-test.true in
    record {
      places = length-set c.loop-i.row c.loop-i.i c.group_stats.result ∙ c.loop-i.invariant.places;
      so_far = one_group_more c.args.figs.now c.args.groups.now c.args.excluded c.args.position c.args.pct c.loop-i.row
          c.loop-i.i g c.without-group.result c.group_stats.result c.loop-i-test.true room read
          c.without-group.ensures.value c.group_stats.ensures c.loop-i.invariant.so_far;
      rest = drop-set-lt (length c.args.groups.now) c.loop-i.row c.loop-i.i c.group_stats.result c.loop-i-test.true
          ∙ c.loop-i.invariant.rest;
    }
