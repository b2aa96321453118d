-- For `spells_decimal` of src/laws.rt: a text spells a number exactly where it is that number in decimal.
use Rattle.lb_text.proofs.RoundTrip.{spells_decimal}
use Rattle.lb_text.proofs.laws.spells_decimal.Goals as goal

pub returns : goal.returns
returns c = spells_decimal
