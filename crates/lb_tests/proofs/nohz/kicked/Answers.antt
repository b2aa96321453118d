-- For `kicked` of src/nohz.rt.
use Rattle.std.proofs.Common.{◌≡◌, ℕ, ◌^◌, ◌<◌, true, rules, inl, inr}
use Rattle.std.proofs.lemmas.Bool.{cases_lt, both_ways}
use Rattle.lb_base.specs.declared.mask.Mask.{Mask}
use Rattle.lb_base.specs.Mask.{has}
use Rattle.lb_base.proofs.Members.{has_above}
use Rattle.lb_tests.proofs.nohz.kicked.Goals as goal

in_range : (span : Mask) (cpu : ℕ) → span.bits < 2 ^ 64 → has span cpu ≡ true → cpu < 64
in_range span cpu fits there =
    elim (cases_lt cpu 64) [
      | inl below ↦ below
      | inr past ↦ absurd (both_ways (has span cpu) (has_above span cpu fits past) there)
    ]

pub kick_target-requires : goal.kick_target-requires
kick_target-requires c cpu there = let fits : c.args.span.bits < 2 ^ 64 = search rules in in_range c.args.span cpu fits there

pub turns-requires : goal.turns-requires
turns-requires c cpu there = let fits : c.args.span.bits < 2 ^ 64 = search rules in in_range c.args.span cpu fits there
