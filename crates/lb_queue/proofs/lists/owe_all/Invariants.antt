-- The loops of `owe_all` of src/lists.rt: pending requests become owed.
use Rattle.std.proofs.Common.{◌≡◌}
use Rattle.lb_queue.specs.Requests.{owes}
use Rattle.lb_queue.proofs.Mapped.{mapped}
use Rattle.lb_queue.proofs.lists.owe_all.Given as goal

abbrev pub invariant-loop-a : goal.invariant-loop-a
invariant-loop-a l = l.a-items ≡ mapped owes l.a-index l.fn.awake.items
