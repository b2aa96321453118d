-- For `Ended::first_pending` of src/requests.rt: the least CPU with a pending stop request.
use Rattle.std.proofs.Common.{rules, ℕ, ◌<◌, ◌≤◌, length, arith}
use Rattle.lb_base.proofs.Ranges.{found, not_found}
use Rattle.lb_queue.specs.Requests.{has_pending}
use Rattle.lb_end.specs.Drawing.{state_at}
use Rattle.lb_end.proofs.ended.Ended.first_pending.Goals as goal

pub returns-then-is_pending : goal.returns-then-is_pending
returns-then-is_pending g c =
    let h = g.N.Names.header in
    let within : c.loop-cpu.cpu < length h.cpus = search rules in
    found (λ (cpu : ℕ). has_pending (state_at h c.args.self.now cpu)) (length h.cpus) c.loop-cpu.cpu within c.loop-cpu.invariant
    (search rules)

pub returns : goal.returns
returns g c =
    let h = g.N.Names.header in
    let end : length h.cpus ≤ c.loop-cpu.cpu = search rules in
    not_found (λ (cpu : ℕ). has_pending (state_at h c.args.self.now cpu)) (length h.cpus)
    (λ k lt. c.loop-cpu.invariant k (omega (arith, lt, end)))
