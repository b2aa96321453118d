-- For `unserved` of src/ends.rt: the CPUs whose active request is unserved.
use Rattle.std.proofs.Common.{arith, ◌≡◌, ℕ, ◌&&◌, ltb, length, is_some, subst}
use Rattle.lb_base.specs.Mask.{has}
use Rattle.lb_base.proofs.Sets.{same_where}
use Rattle.lb_core.specs.Machine.{queue_at}
use Rattle.lb_core.specs.Elsewhere.{unserved}
use Rattle.lb_due.proofs.ends.unserved.Goals as goal

pub returns : goal.returns
unfolding unserved
returns c =
    let m = c.args.engine.now.machine in
    let end : c.loop-cpu.cpu ≡ length m.queues = omega arith in
    same_where c.loop-cpu.mask (length m.queues) (λ k. is_some (queue_at m.queues k).active)
    (let q = c.requires.sizes.queues in let most = c.requires.accepted.most_cpus in omega arith)
    (subst (λ (n : ℕ). (k : ℕ) → has c.loop-cpu.mask k ≡ (ltb k n && is_some (queue_at m.queues k).active)) end
    c.loop-cpu.invariant)
