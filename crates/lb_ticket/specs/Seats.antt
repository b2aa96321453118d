-- What contracts see of a book, of its seats and of a note.
-- Cited by the contracts of `Book::new`, `Book::close`, `Seat::reserve` and others; also by `lb_cell`, `lb_cpu` and
-- other crates.
use Rattle.std.specs.Prelude.{◌≡◌, ℕ, ◌+◌, List, [], ◌∷◌, ◌++◌}
use Rattle.atomic_table.specs.Seated.{TableId}
use Rattle.lb_ticket.specs.declared.item.Drawn.{Drawn}
use Rattle.lb_ticket.specs.declared.view.Fact.{Fact}
use Rattle.lb_ticket.specs.declared.view.Held.{Held}

pub record BookIs : Type 0 where
  -- which book it is
  pub table : TableId
  pub owners : ℕ

-- its owner's number; what it drew, and the room for more; the facts that it drew and did not note, and those
-- that it learnt and did not quote; what it read of others' lists, by the codes of the items; and a number that
-- each later ticket of it is not below
pub record SeatIs (I : Type 0) : Type 0 where
  pub table : TableId
  pub number : ℕ
  pub list : List (Drawn I)
  pub spare : ℕ
  pub fresh : List Fact
  pub known : List Fact
  pub read : List Held
  pub next : ℕ

-- the fact of one ticket
pub record NoteIs : Type 0 where
  pub table : TableId
  pub facts : List Fact

module _ {I : Type 0} where
  -- whose seat it is, what it drew and its room are as they were
  abbrev pub KeepsList : SeatIs I → SeatIs I → Type 0
  KeepsList s t = (t.table ≡ s.table) × (t.number ≡ s.number) × (t.list ≡ s.list) × (t.spare ≡ s.spare)

  -- what it knows and has read is as it was
  abbrev pub KeepsView : SeatIs I → SeatIs I → Type 0
  KeepsView s t = (t.fresh ≡ s.fresh) × (t.known ≡ s.known) × (t.read ≡ s.read) × (t.next ≡ s.next)

  -- the seats are of one book, and have the numbers from k on
  abbrev pub Numbered : TableId → ℕ → List (SeatIs I) → Type 0
  Numbered t k [] = Unit {0}
  Numbered t k (s ∷ ss) = (s.table ≡ t) × (s.number ≡ k) × Numbered t (k + 1) ss

  -- nothing was drawn, learnt or read
  abbrev pub AllEmpty : List (SeatIs I) → Type 0
  AllEmpty [] = Unit {0}
  AllEmpty (s ∷ ss) =
      (s.list ≡ []) × (s.spare ≡ 0) × (s.fresh ≡ []) × (s.known ≡ []) × (s.read ≡ []) × AllEmpty ss

  -- what each of the seats has, one after the other
  abbrev pub gathered : {A : Type 0} → (SeatIs I → List A) → List (SeatIs I) → List A
  gathered f [] = []
  gathered f (s ∷ ss) = f s ++ gathered f ss

  -- the facts that the seats hold: those that they drew and did not note, and those that they know
  abbrev pub all_facts : List (SeatIs I) → List Fact
  all_facts ss = gathered (λ s. s.fresh ++ s.known) ss

  -- what the seats have read of others' lists
  abbrev pub all_read : List (SeatIs I) → List Held
  all_read ss = gathered (λ s. s.read) ss
