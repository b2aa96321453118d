-- For `breaks_owed` of src/answers.rt: whether the entry breaks the rule `owed`.
use Rattle.std.proofs.Common.{refl}
use Rattle.lb_judge.proofs.Staged.{has_queue, staged_use}
use Rattle.lb_judge.proofs.answers.breaks_owed.Goals as goal

pub queue_of-requires : goal.queue_of-requires
queue_of-requires c = has_queue c.args.engine.now.machine c.args.entry.now _ c.requires.stage c.in-Did.is refl

pub queue-requires : goal.queue-requires
queue-requires c = staged_use c.args.engine.now.machine c.args.entry.now _ _ _ c.requires.ready c.requires.stage c.in-Adopt.is
