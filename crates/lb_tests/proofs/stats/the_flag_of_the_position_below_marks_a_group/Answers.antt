-- For `the_flag_of_the_position_below_marks_a_group` of src/stats.rt.
use Rattle.std.proofs.Common.{◌≡◌, ℕ, ◌<◌, true, [], ◌∷◌, lit<, inl, inr}
use Rattle.std.proofs.lemmas.Bool.{both_ways, cases_lt}
use Rattle.lb_base.specs.declared.mask.Mask.{Mask}
use Rattle.lb_base.specs.declared.figure.Fig.{Fig}
use Rattle.lb_base.specs.Mask.{has, members, members_below}
use Rattle.lb_base.specs.Figures.{total}
use Rattle.lb_base.proofs.Bits.{bit_set_above}
use Rattle.lb_stats.specs.Statistics.{HasSmallSums}
use Rattle.lb_tests.proofs.stats.the_flag_of_the_position_below_marks_a_group.Goals as goal

two : Mask
two = record { bits = 6 }

below : (cpu : ℕ) → has two cpu ≡ true → cpu < 3
unfolding has two
below cpu here = elim (cases_lt cpu 3) [
  | inl lt ↦ lt
  | inr above ↦ absurd
      (both_ways (has two cpu) (bit_set_above 6 3 cpu (lit< tt) above) here)
]

fig : ℕ → ℕ → ℕ → ℕ → ℕ → Fig
fig nr load util runnable flags = record {
  n = 0;
  ticket = 0;
  nr = nr;
  load = load;
  util = util;
  runnable = runnable;
  flags = flags;
}

small : HasSmallSums (fig 2 1500 1024 1024 0 ∷ fig 0 120 40 0 256 ∷ fig 3 2100 640 700 512 ∷ []) two
unfolding total members members_below has two fig
small = record { nr = lit< tt; load = lit< tt; util = lit< tt; runnable = lit< tt }

pub group_stats-requires-clause-figures : goal.group_stats-requires-clause-figures
unfolding two
group_stats-requires-clause-figures g c = below

pub group_stats-requires-clause-sums : goal.group_stats-requires-clause-sums
unfolding two fig
group_stats-requires-clause-sums g c = rw (c.fig.ensures, c.fig-2.ensures, c.fig-3.ensures) small

pub group_stats-requires-2-clause-figures : goal.group_stats-requires-2-clause-figures
unfolding two
group_stats-requires-2-clause-figures g c = below

pub group_stats-requires-2-clause-sums : goal.group_stats-requires-2-clause-sums
unfolding two fig
group_stats-requires-2-clause-sums g c = rw (c.fig.ensures, c.fig-2.ensures, c.fig-3.ensures) small
