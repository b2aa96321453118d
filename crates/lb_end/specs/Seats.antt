-- The seats of a machine by the numbers of their owners: what each drew, where its next ticket stands and its room; and
-- one seat that reads what another drew.
-- Cited by the contracts of `Ended::can_grow`, `Ended::reserve`, `Ended::make_room` and others.
use Rattle.std.specs.Prelude.{ℕ, ◌≡◌, ◌<◌, ◌≤◌, ◌++◌, [], Some, List, map, slice_get, slice_set, All}
use Rattle.std.specs.List.{slice_index_or}
use base.Stored.{Coded}
use Rattle.lb_ticket.specs.declared.item.Drawn.{Drawn}
use Rattle.lb_ticket.specs.Seats.{KeepsList, SeatIs}
use Rattle.lb_ticket.specs.Facts.{held_of}
use Rattle.lb_ticket.specs.Tickets.{AllBelow}
use Rattle.lb_journal.specs.Journal.{Journal}
use Rattle.lb_journal.specs.Owners.{lists_of}

-- what the owner of a number drew
abbrev pub list_at : List (SeatIs Journal) → ℕ → List (Drawn Journal)
list_at seats k = slice_index_or (lists_of seats) k []

-- a number that each later ticket of its seat is not below
abbrev pub next_at : List (SeatIs Journal) → ℕ → ℕ
next_at seats k = slice_index_or (map (λ s. s.next) seats) k 0

-- its room for entries
abbrev pub spare_at : List (SeatIs Journal) → ℕ → ℕ
spare_at seats k = slice_index_or (map (λ s. s.spare) seats) k 0

-- seat a has read all that seat b drew, and its next ticket is above it; all else is as it was
pub record Followed (code : Coded Journal) (a b : ℕ) (ss ss' : List (SeatIs Journal)) : Type 0 where
  pub seat : SeatIs Journal
  pub other : SeatIs Journal
  pub seat' : SeatIs Journal
  pub here : slice_get ss a ≡ Some seat
  pub there : slice_get ss b ≡ Some other
  pub now : ss' ≡ slice_set ss a seat'
  pub same : KeepsList seat seat'
  pub read : seat'.read ≡ seat.read ++ map (held_of code) other.list
  pub view : (seat'.fresh ≡ seat.fresh) × (seat'.known ≡ seat.known)
  pub below : AllBelow seat'.next other.list
  pub later : (seat.next ≤ seat'.next) × (other.next ≤ seat'.next)

-- what is known of that by the numbers alone: of all other seats nothing has changed
pub record Follows (a b : ℕ) (ss ss' : List (SeatIs Journal)) : Type 0 where
  pub lists : lists_of ss' ≡ lists_of ss
  pub others : (j : ℕ) → (j ≡ a → ⊥) → slice_get ss' j ≡ slice_get ss j
  pub nexts : (j : ℕ) → (j ≡ a → ⊥) → next_at ss' j ≡ next_at ss j
  pub spares : (j : ℕ) → spare_at ss' j ≡ spare_at ss j
  pub below : All (λ d. d.ticket < next_at ss' a) (list_at ss' b)
  pub later : (next_at ss a ≤ next_at ss' a) × (next_at ss b ≤ next_at ss' a)
