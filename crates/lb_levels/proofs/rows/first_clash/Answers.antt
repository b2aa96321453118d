-- For `first_clash` of src/rows.rt: the first CPU that cannot stand beside those before it.
use Rattle.std.proofs.Common.{length, take, arith, rules}
use Rattle.lb_levels.specs.Rows.{row_at, cpu_clashes}
use Rattle.lb_levels.specs.Faults.{first_clash}
use Rattle.lb_base.proofs.Ranges.{found, not_found}
use Rattle.lb_levels.proofs.rows.first_clash.Goals as goal

pub returns-then-cpu_clashes : goal.returns-then-cpu_clashes
unfolding first_clash
returns-then-cpu_clashes c =
    found (λ k. cpu_clashes (take k c.args.cpus.now) (row_at c.args.cpus.now k)) (length c.args.cpus.now) c.loop-cpu.cpu
    (omega arith) c.loop-cpu.invariant (search rules)

pub returns : goal.returns
unfolding first_clash
returns c =
    not_found (λ k. cpu_clashes (take k c.args.cpus.now) (row_at c.args.cpus.now k)) (length c.args.cpus.now)
    (λ k lt. c.loop-cpu.invariant k (omega (arith, lt)))
