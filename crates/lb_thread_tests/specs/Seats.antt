-- A seat as a test has it from its book: of the table of the book, with its number and room, and nothing drawn or known.
-- Cited by the contract of `two_seats`.
use Rattle.std.specs.Prelude.{◌≡◌, ℕ, ◌≤◌, []}
use Rattle.atomic_table.specs.Seated.{TableId}
use Rattle.lb_ticket.specs.Seats.{SeatIs}

-- it is of that book and has that number, drew and learnt nothing, and has room for so many entries
abbrev pub HasRoom : {I : Type 0} → TableId → ℕ → ℕ → SeatIs I → Type 0
HasRoom table number room s =
    (s.table ≡ table) × (s.number ≡ number) × (s.list ≡ []) × (s.known ≡ []) × (room ≤ s.spare)
