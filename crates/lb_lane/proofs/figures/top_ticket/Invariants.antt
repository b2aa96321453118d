-- The loops of `top_ticket` of src/figures.rt: the greatest ticket of figures.
use Rattle.std.proofs.Common.{◌≤◌, take, All}
use Rattle.lb_lane.proofs.figures.top_ticket.Given as goal

abbrev pub invariant-loop-i : goal.invariant-loop-i
invariant-loop-i l = All (λ f. f.fig.ticket ≤ l.top) (take l.i l.figs)
