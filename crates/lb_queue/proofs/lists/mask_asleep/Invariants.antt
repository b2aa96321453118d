-- The loops of `mask_asleep` of src/lists.rt: the task of that id, which sleeps, gets a mask.
use Rattle.std.proofs.Common.{◌≡◌, ◌==◌}
use Rattle.std.specs.Prelude.{if◌then◌else◌}
use Rattle.lb_queue.specs.declared.record.TaskRecord.{TaskRecord}
use Rattle.lb_queue.specs.Commands.{with_mask}
use Rattle.lb_queue.proofs.Mapped.{mapped}
use Rattle.lb_queue.proofs.lists.mask_asleep.Given as goal

abbrev pub invariant-loop-t : goal.invariant-loop-t
invariant-loop-t l = l.t-items ≡ mapped (λ (t : TaskRecord). if t.id == l.fn.id then with_mask l.fn.mask t else t)
    l.t-index l.fn.tasks.items
