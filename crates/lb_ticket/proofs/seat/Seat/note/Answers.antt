-- For `Seat::note` of src/seat.rt: the note of the ticket `k`, which this seat drew and did not note before.
use Rattle.std.proofs.Common.{rules}
use Rattle.lb_ticket.proofs.seat.Seat.note.Goals as goal

pub invariant_of-self : goal.invariant_of-self
invariant_of-self g c =
    let was = c.self.invariant in
    (search rules, was.1, was.2, c.note_as-token.ensures.below c.self.inside.list.items was.3)
