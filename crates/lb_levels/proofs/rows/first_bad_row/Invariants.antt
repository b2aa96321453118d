-- The loops of `first_bad_row` of src/rows.rt: the first row that cannot stand below those before it.
use Rattle.std.proofs.Common.{◌≡◌, ℕ, ◌<◌, take, false}
use Rattle.lb_levels.specs.Rows.{distances_at, is_bad_distance}
use Rattle.lb_levels.proofs.rows.first_bad_row.Given as goal

abbrev pub invariant-loop-a : goal.invariant-loop-a
invariant-loop-a l = (k : ℕ) → k < l.a → is_bad_distance (take k l.distances) (distances_at l.distances k) ≡ false
