-- For `calls_move` of src/laws.rt: each call moves the tasks that it says from one side to another (awake,
-- asleep, gone, or on hand with the caller), and no other: each other id stands where it stood.
use Rattle.lb_queue.proofs.Moving.{calls_move}
use Rattle.lb_queue.proofs.laws.calls_move.Goals as goal

pub returns : goal.returns
returns c = calls_move
