-- The loops of `number_within` of src/number.rt: the number from `least` to `most` that a text spells: `0`,
-- or digits of which the first is not 0 (docs/rules/history-text.md).
use Rattle.lb_text.proofs.Prefix.{IsRead}
use Rattle.lb_text.proofs.number.number_within.Given as goal

abbrev pub invariant-loop-at : goal.invariant-loop-at
invariant-loop-at l = IsRead l.least l.most l.text l.at l.value
