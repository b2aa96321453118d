-- For `picked_is_sound` of src/laws.rt: no task is picked that the rule leaves.
use Rattle.lb_detach.proofs.Sound.{sound}
use Rattle.lb_detach.proofs.laws.picked_is_sound.Goals as goal

pub returns : goal.returns
returns c = sound
