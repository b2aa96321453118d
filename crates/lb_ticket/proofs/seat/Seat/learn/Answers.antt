-- For `Seat::learn` of src/seat.rt: learns a note, which is spent: this seat may quote its ticket, and each
-- later ticket of this seat is above it.
use Rattle.std.proofs.Common.{rules}
use Rattle.lb_ticket.proofs.seat.Seat.learn.Goals as goal

pub invariant_of-self : goal.invariant_of-self
invariant_of-self g c =
    let was = c.self.invariant in
    (search rules, was.1, was.2, c.take_in.ensures.below c.self.inside.list.items was.3)
