-- For `first_of_the_greatest` of src/laws.rt: the first of the greatest is found wherever candidates are
-- ranked, and there is only one.
use Rattle.lb_base.proofs.Greatest.{first_greatest_picks, picks_first_greatest}
use Rattle.lb_base.proofs.laws.first_of_the_greatest.Goals as goal

pub returns : goal.returns
returns c = record { found = first_greatest_picks; unique = picks_first_greatest }
