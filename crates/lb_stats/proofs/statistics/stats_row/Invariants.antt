use Rattle.std.proofs.Common.{◌≡◌, length, take, drop}
use Rattle.lb_stats.specs.Statistics.{stats_of_groups}
use Rattle.lb_stats.proofs.statistics.stats_row.Given as goal

abbrev pub invariant-loop-i : goal.invariant-loop-i
invariant-loop-i l = record {
  places : length l.row ≡ length l.fn.row;
  so_far : take l.i l.row ≡ stats_of_groups l.figs (take l.i l.groups) l.excluded l.position l.pct;
  rest : drop (length l.groups) l.row ≡ drop (length l.groups) l.fn.row;
}
