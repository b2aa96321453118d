-- The loops of `Seat::draw` of src/seat.rt: draws the next ticket for an item, and answers it; the first
-- ticket of a book is 1. It is above the one that the item quotes and above all that this seat drew before.
use Rattle.std.proofs.Common.{[], ◌∷◌}
use Rattle.lb_ticket.proofs.seat.Seat.draw.Given as goal

abbrev pub ghosts-draw_as : goal.ghosts-draw_as
ghosts-draw_as g a = record { picked = a.item.now ∷ [] }
