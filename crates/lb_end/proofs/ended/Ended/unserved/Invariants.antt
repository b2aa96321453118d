-- The loops of `Ended::unserved` of src/finish.rt: the CPUs whose active request is unserved.
use Rattle.std.proofs.Common.{◌≡◌, ◌&&◌, ℕ, ltb, is_some}
use Rattle.lb_base.specs.Mask.{has}
use Rattle.lb_end.specs.Drawing.{state_at}
use Rattle.lb_end.proofs.ended.Ended.unserved.Given as goal

abbrev pub invariant-loop-cpu : goal.invariant-loop-cpu
invariant-loop-cpu g l = (k : ℕ) → has l.mask k ≡ (ltb k l.cpu && is_some (state_at g.N.Names.header l.self k).active)
