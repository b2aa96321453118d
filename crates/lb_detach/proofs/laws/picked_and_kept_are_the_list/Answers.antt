-- For `picked_and_kept_are_the_list` of src/laws.rt: no task is lost, and none is doubled.
use Rattle.lb_detach.proofs.Rearranged.{rearranged}
use Rattle.lb_detach.proofs.laws.picked_and_kept_are_the_list.Goals as goal

pub returns : goal.returns
returns c = rearranged
