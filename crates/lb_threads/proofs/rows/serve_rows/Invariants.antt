-- The loops of `serve_rows` of src/rows.rt: serves the rows of a lane, in file order.
use Rattle.lb_threads.proofs.Going.{HasServed}
use Rattle.lb_threads.proofs.rows.serve_rows.Given as goal

-- the lane has served its own of the rows that were passed
abbrev pub invariant-loop-row : goal.invariant-loop-row
invariant-loop-row g l = HasServed l.rows l.row-index l.initial.lane l.lane
