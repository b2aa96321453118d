-- The loops of `Book::close` of src/book.rt: takes all seats back, in the order of their numbers, and answers
-- their lists.
use Rattle.std.proofs.Common.{◌≡◌, ◌⊎◌, ◌+◌, ◌++◌, ◌≤◌, [], length, vec_capacity, map, reverse}
use Rattle.lb_ticket.specs.Tickets.{Among}
use Rattle.lb_ticket.specs.Bare.{bare_columns_of}
use Rattle.lb_ticket.specs.declared.view.Fact.{Fact}
use Rattle.lb_ticket.specs.declared.view.Held.{Held}
use Rattle.lb_ticket.specs.Seats.{Numbered, all_facts, all_read}
use Rattle.lb_ticket.proofs.book.Book.close.Given as goal

abbrev pub invariant-loop-seat : goal.invariant-loop-seat
invariant-loop-seat g l =
    (l.table.shared.table_id ≡ l.fn.self.table)
    × (l.root.table_id ≡ l.fn.self.table)
    × (l.root.me.1 ≡ [])
    × (l.root.me.0.vacant ≡ 0)
    × (l.root.me.0.columns ≡ bare_columns_of g.row.I.coded (length l.seats.items)
    (map (λ v. v.items) (reverse l.of.items)))
    × Numbered l.fn.self.table 0 l.seats.items
    × (length l.seats.items + length l.of.items ≡ l.fn.self.owners)
    × (l.fn.self.owners ≤ vec_capacity l.of)
    × ((f : Fact) → Among f (all_facts l.fn.seats.items) → Among f (all_facts l.seats.items)
    ⊎ Among f (l.root.me.0.fresh ++ l.root.me.0.known))
    × ((h : Held) → Among h (all_read l.fn.seats.items) → Among h (all_read l.seats.items) ⊎ Among h l.root.me.0.read)
    × (map (λ s. s.list) l.fn.seats.items ≡ map (λ s. s.list) l.seats.items ++ map (λ v. v.items) (reverse l.of.items))

abbrev pub decreases-loop-seat : goal.decreases-loop-seat
decreases-loop-seat g l = goal.left-loop-seat g l
