-- The tasks that are to leave a queue, as an entry says it: without their records.
-- Cited by the contracts of `out_of_queue`, `stop_due`, `wake_due` and others; also by `lb_judge`.
use Rattle.std.specs.Prelude.{Option, Some, None}
use Rattle.lb_queue.specs.Tasks.{ids}
use Rattle.lb_core.specs.Leaving.{Leaving}
use Rattle.lb_due.specs.declared.leaving.Out.{Out}

abbrev pub out_due : Option Leaving → Option Out
out_due None = None
out_due (Some l) = Some (record { cause = l.cause; to = l.to; ids = ids l.hand })
