-- For `busiest_group` of src/laws.rt: the busiest group is found wherever a group may be it, and there is
-- only one.
use Rattle.std.proofs.Common.{length, refl}
use Rattle.lb_busiest.proofs.Order.{busiest_of_picks, busiest_of-found}
use Rattle.lb_busiest.proofs.laws.busiest_group.Goals as goal

pub returns-clause-found : goal.returns-clause-found
returns-clause-found c = busiest_of_picks

pub returns-clause-unique : goal.returns-clause-unique
returns-clause-unique c stats o found = busiest_of-found stats (length stats) o refl found
