-- For `decide_for_two` of src/imbalance.rt: the decision of CPU 0 of two that share a cache, by their tasks,
-- loads, utilisations and runnable averages.
use Rattle.std.proofs.Common.{◌^◌, ◌<◌, [], ◌∷◌, lit<, refl, arith}
use Rattle.lb_base.specs.declared.figure.Fig.{Fig}
use Rattle.lb_base.specs.Mask.{has, members, members_below, without}
use Rattle.lb_base.specs.Figures.{total}
use Rattle.lb_imbalance.specs.Conditions.{HaveSmallSums}
use Rattle.lb_imbalance.proofs.TwoGroups.{union_of_two, below, apart}
use Rattle.lb_tests.proofs.imbalance.decide_for_two.Goals as goal

small : (f g : Fig) → (f.nr < 2 ^ 32) × (f.load < 2 ^ 32) × (f.util < 2 ^ 32) × (f.runnable < 2 ^ 32)
    → (g.nr < 2 ^ 32) × (g.load < 2 ^ 32) × (g.util < 2 ^ 32) × (g.runnable < 2 ^ 32) →
    HaveSmallSums (f ∷ g ∷ []) (record { bits = 0 }) (record { bits = 1 } ∷ record { bits = 2 } ∷ [])
unfolding total members members_below has without
small f g small_f small_g = record { nr = omega arith; load = omega arith; util = omega arith; runnable = omega arith }

pub decide-requires-clause-union : goal.decide-requires-clause-union
decide-requires-clause-union c = union_of_two (record { bits = 1 }) (record { bits = 2 })

pub decide-requires-clause-local : goal.decide-requires-clause-local
unfolding has
decide-requires-clause-local c = refl

pub decide-requires-clause-kept : goal.decide-requires-clause-kept
decide-requires-clause-kept c = apart (record { bits = 1 }) (record { bits = 0 }) refl

pub decide-requires-clause-figures : goal.decide-requires-clause-figures
decide-requires-clause-figures c = below (record { bits = 3 }) 2 (lit< tt)

pub decide-requires-clause-sums : goal.decide-requires-clause-sums
decide-requires-clause-sums c = small c.fig.result c.fig-2.result c.fig.ensures.small c.fig-2.ensures.small
