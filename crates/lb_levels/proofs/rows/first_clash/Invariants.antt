-- The loops of `first_clash` of src/rows.rt: the first CPU that cannot stand beside those before it.
use Rattle.std.proofs.Common.{◌≡◌, ℕ, ◌<◌, take, false}
use Rattle.lb_levels.specs.Rows.{row_at, cpu_clashes}
use Rattle.lb_levels.proofs.rows.first_clash.Given as goal

abbrev pub invariant-loop-cpu : goal.invariant-loop-cpu
invariant-loop-cpu l = (k : ℕ) → k < l.cpu → cpu_clashes (take k l.cpus) (row_at l.cpus k) ≡ false
