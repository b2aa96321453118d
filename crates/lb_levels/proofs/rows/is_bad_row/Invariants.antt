-- The loops of `is_bad_row` of src/rows.rt: whether the row of node `a` cannot stand below those before it.
use Rattle.std.proofs.Common.{◌≡◌, ℕ, ◌<◌, false}
use Rattle.lb_levels.specs.Rows.{is_bad_entry}
use Rattle.lb_levels.proofs.rows.is_bad_row.Given as goal

abbrev pub invariant-loop-b : goal.invariant-loop-b
invariant-loop-b l = (k : ℕ) → k < l.b → is_bad_entry l.distances l.a k ≡ false
