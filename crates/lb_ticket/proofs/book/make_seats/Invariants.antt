-- The loops of `make_seats` of src/book.rt: the seats, made from the root.
use Rattle.std.proofs.Common.{◌≡◌, ◌-◌, ◌≤◌, [], length, vec_capacity}
use Rattle.lb_ticket.specs.Bare.{bare_root}
use Rattle.lb_ticket.specs.Seats.{Numbered, AllEmpty}
use Rattle.lb_ticket.proofs.book.make_seats.Given as goal

abbrev pub invariant-loop-number : goal.invariant-loop-number
invariant-loop-number g l =
    (l.root.table_id ≡ l.shared.table_id) × (l.root.me ≡ (bare_root l.number (l.owners - l.number), []))
    × Numbered l.shared.table_id 0 l.seats.items × AllEmpty l.seats.items × (length l.seats.items ≡ l.number)
    × (l.owners ≤ vec_capacity l.seats)
