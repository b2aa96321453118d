-- For `Seat::mark` of src/seat.rt: the next ticket at this moment: each later ticket of this seat is that or
-- a greater one.
use Rattle.std.proofs.Common.{rules}
use Rattle.lb_ticket.proofs.seat.Seat.mark.Goals as goal

pub invariant_of-self : goal.invariant_of-self
invariant_of-self g c =
    let was = c.self.invariant in
    (search rules, was.1, was.2, c.load.ensures.below c.self.inside.list.items was.3)
