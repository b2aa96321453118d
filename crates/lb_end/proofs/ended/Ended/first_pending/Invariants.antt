-- The loops of `Ended::first_pending` of src/requests.rt: the least CPU with a pending stop request.
use Rattle.std.proofs.Common.{◌≡◌, ◌<◌, ℕ, false}
use Rattle.lb_queue.specs.Requests.{has_pending}
use Rattle.lb_end.specs.Drawing.{state_at}
use Rattle.lb_end.proofs.ended.Ended.first_pending.Given as goal

abbrev pub invariant-loop-cpu : goal.invariant-loop-cpu
invariant-loop-cpu g l = (k : ℕ) → k < l.cpu → has_pending (state_at g.N.Names.header l.self k) ≡ false
