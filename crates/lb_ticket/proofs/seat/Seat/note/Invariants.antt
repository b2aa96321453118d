-- The loops of `Seat::note` of src/seat.rt: the note of the ticket `k`, which this seat drew and did not note
-- before.
use Rattle.lb_ticket.proofs.seat.Seat.note.Given as goal

abbrev pub ghosts-note_as : goal.ghosts-note_as
ghosts-note_as g a = record { picked = a.k }
