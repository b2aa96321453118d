-- For `pulls_follow_picks` of src/laws.rt: by a pull those tasks leave that docs/rules/picked-list.md picks,
-- in that order and no more than one pull examines; the others stand in the order that the examination left.
use Rattle.lb_queue.proofs.Allowed.{follows_picks}
use Rattle.lb_queue.proofs.laws.pulls_follow_picks.Goals as goal

pub returns : goal.returns
returns c = follows_picks c.picked_is_sound.ensures
