-- The loops of `mask_awake` of src/lists.rt: the task of that id gets a mask.
use Rattle.std.proofs.Common.{◌≡◌, ◌==◌}
use Rattle.std.specs.Prelude.{if◌then◌else◌}
use Rattle.lb_queue.specs.declared.awake.Awake.{Awake}
use Rattle.lb_queue.specs.Commands.{masked}
use Rattle.lb_queue.proofs.Mapped.{mapped}
use Rattle.lb_queue.proofs.lists.mask_awake.Given as goal

abbrev pub invariant-loop-a : goal.invariant-loop-a
invariant-loop-a l = l.a-items ≡ mapped (λ (a : Awake). if a.task.id == l.fn.id then masked l.fn.cpu l.fn.mask a
    else a) l.a-index l.fn.awake.items
