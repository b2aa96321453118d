-- The invariant under Permitted: each awake task may be where it is or is asked to leave, and no
-- mask is empty.
-- For the lemmas of `Permits` and `Permitting`, and so for the laws `permitted_stays` and `permitted`.
use Rattle.std.proofs.Common.{ℕ, Bool, not, ◌&&◌, ◌||◌}
use Rattle.lb_base.specs.Mask.{has}
use Rattle.lb_base.specs.Sets.{is_empty}
use Rattle.lb_queue.specs.declared.awake.StopRequest.{StopRequest}
use Rattle.lb_queue.specs.declared.record.TaskRecord.{TaskRecord}
use Rattle.lb_queue.specs.Tasks.{is_pending}
use Rattle.lb_queue.specs.Queue.{QueueState}
use Rattle.lb_queue.specs.Moves.{AllPass}

-- an awake task may be here or is asked to leave, and its mask is not empty
abbrev pub may_be : ℕ → StopRequest → TaskRecord → Bool
may_be cpu stop t = (has t.mask cpu || is_pending stop) && not (is_empty t.mask)

abbrev pub may_go_to : ℕ → TaskRecord → Bool
may_go_to cpu t = has t.mask cpu && not (is_empty t.mask)

abbrev pub may_run : TaskRecord → Bool
may_run t = not (is_empty t.mask)

-- so it is for each task of a queue
abbrev pub IsAllowed : QueueState → Type 0
IsAllowed q = AllPass (may_be q.cpu) may_run q
