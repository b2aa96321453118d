-- For `sound` of src/laws.rt: whatever calls are made on an empty queue, or on one that is sound: each known
-- task stands exactly once among those awake, asleep and gone; one task runs exactly where somebody is awake;
-- an awake task is asked to leave exactly where its mask lacks the CPU; and every task's id, nice value, mask
-- and signal keep their bounds.
use Rattle.lb_queue.proofs.Reached.{empty_sound, calls_keep_sound}
use Rattle.lb_queue.proofs.laws.sound.Goals as goal

pub returns-clause-empty : goal.returns-clause-empty
returns-clause-empty c = empty_sound

pub returns-clause-kept : goal.returns-clause-kept
returns-clause-kept c = calls_keep_sound c.advanced_is_bounded.ensures c.picked_is_sound.ensures
