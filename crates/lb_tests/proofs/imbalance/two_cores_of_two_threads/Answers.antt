-- For `two_cores_of_two_threads` of src/imbalance.rt.
use Rattle.std.proofs.Common.{ℕ, [], ◌∷◌, lit<, lit≤, refl}
use Rattle.lb_base.specs.declared.mask.Mask.{Mask}
use Rattle.lb_base.specs.declared.figure.Fig.{Fig}
use Rattle.lb_base.specs.Mask.{has, members, members_below, without}
use Rattle.lb_base.specs.Figures.{total}
use Rattle.lb_imbalance.specs.Conditions.{HaveSmallSums}
use Rattle.lb_imbalance.proofs.TwoGroups.{union_of_two, below, apart}
use Rattle.lb_tests.proofs.imbalance.two_cores_of_two_threads.Goals as goal

mask : ℕ → Mask
mask bits = record { bits = bits }

fig : ℕ → ℕ → ℕ → ℕ → Fig
fig nr load util runnable = record { n = 0; ticket = 0; nr = nr; load = load; util = util; runnable = runnable; flags = 0 }

small : HaveSmallSums (fig 0 0 0 0 ∷ fig 1 100 100 100 ∷ fig 3 2000 800 900 ∷ fig 3 900 700 700 ∷ []) (mask 0)
    (mask 3 ∷ mask 12 ∷ [])
unfolding total members members_below has without fig mask
small = record { nr = lit< tt; load = lit< tt; util = lit< tt; runnable = lit< tt }

small_without : HaveSmallSums (fig 0 0 0 0 ∷ fig 1 100 100 100 ∷ fig 3 2000 800 900 ∷ fig 3 900 700 700 ∷ []) (mask 4)
    (mask 3 ∷ mask 12 ∷ [])
unfolding total members members_below has without fig mask
small_without = record { nr = lit< tt; load = lit< tt; util = lit< tt; runnable = lit< tt }

pub decide-requires : goal.decide-requires
unfolding has mask fig
decide-requires g c = record {
  count = lit≤ tt;
  union = union_of_two (mask 3) (mask 12);
  local = refl;
  kept = apart (mask 3) (mask 0) refl;
  figures = below (mask 15) 4 (lit< tt);
  sums = rw (c.fig.ensures.value, c.fig-2.ensures.value, c.fig-3.ensures.value, c.fig-4.ensures.value) small;
}

pub decide-requires-2 : goal.decide-requires-2
unfolding has mask fig
decide-requires-2 g c = record {
  count = lit≤ tt;
  union = union_of_two (mask 3) (mask 12);
  local = refl;
  kept = apart (mask 3) (mask 0) refl;
  figures = below (mask 15) 4 (lit< tt);
  sums = rw (c.fig.ensures.value, c.fig-2.ensures.value, c.fig-3.ensures.value, c.fig-4.ensures.value) small;
}

pub decide-requires-3 : goal.decide-requires-3
unfolding has mask fig
decide-requires-3 g c = record {
  count = lit≤ tt;
  union = union_of_two (mask 3) (mask 12);
  local = refl;
  kept = apart (mask 3) (mask 4) refl;
  figures = below (mask 15) 4 (lit< tt);
  sums = rw (c.fig.ensures.value, c.fig-2.ensures.value, c.fig-3.ensures.value, c.fig-4.ensures.value) small_without;
}
