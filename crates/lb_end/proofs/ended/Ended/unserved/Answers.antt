-- For `Ended::unserved` of src/finish.rt: the CPUs whose active request is unserved.
use Rattle.std.proofs.Common.{rules, arith, ◌≡◌, ◌≤◌, ℕ, ◌&&◌, ltb, length, is_some, subst}
use Rattle.lb_base.specs.Mask.{has}
use Rattle.lb_base.proofs.Sets.{same_where}
use Rattle.lb_end.specs.Drawing.{state_at}
use Rattle.lb_end.proofs.ended.Ended.unserved.Goals as goal

pub returns : goal.returns
returns g c =
    let h = g.N.Names.header in
    let low : length h.cpus ≤ c.loop-cpu.cpu = search rules in
    let high : c.loop-cpu.cpu ≤ length h.cpus = search rules in
    let end : c.loop-cpu.cpu ≡ length h.cpus = omega (arith, low, high) in
    same_where c.loop-cpu.mask (length h.cpus) (λ k. is_some (state_at h c.args.self.now k).active)
    (let most = c.keeps.ensures.accepted.most_cpus in omega (arith, most))
    (subst (λ (n : ℕ). (k : ℕ) → has c.loop-cpu.mask k ≡ (ltb k n && is_some (state_at h c.args.self.now k).active)) end
    c.loop-cpu.invariant)
