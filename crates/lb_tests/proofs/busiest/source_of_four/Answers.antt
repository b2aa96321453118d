-- For `source_of_four` of src/busiest.rt: the source among four CPUs beside a busier one that is not of the
-- group.
use Rattle.std.proofs.Common.{◌≡◌, ℕ, ◌<◌, true, lit<, inl, inr}
use Rattle.std.proofs.lemmas.Bool.{both_ways, cases_lt}
use Rattle.lb_base.specs.declared.mask.Mask.{Mask}
use Rattle.lb_base.specs.Mask.{has}
use Rattle.lb_base.proofs.Bits.{bit_set_above}
use Rattle.lb_tests.proofs.busiest.source_of_four.Goals as goal

four : Mask
four = record { bits = 30 }

below : (cpu : ℕ) → has four cpu ≡ true → cpu < 5
unfolding has four
below cpu here = elim (cases_lt cpu 5) [
  | inl lt ↦ lt
  | inr above ↦ absurd
      (both_ways (has four cpu) (bit_set_above 30 5 cpu (lit< tt) above) here)
]

pub source-requires : goal.source-requires
unfolding four
source-requires c = below
