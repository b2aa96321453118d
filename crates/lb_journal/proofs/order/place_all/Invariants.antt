-- The loops of `place_all` of src/order.rt: the entry of each item of the lists goes into its ticket's slot.
use Rattle.std.proofs.Common.{◌≡◌, length, map, All}
use Rattle.lb_journal.specs.Ordering.{placed_lists, HaveSlots}
use Rattle.lb_journal.proofs.order.place_all.Given as goal

abbrev pub invariant-loop-list : goal.invariant-loop-list
invariant-loop-list l =
    (goal.iterator-loop-list).can_next l.list-iterator
    × (goal.iterator-loop-list).is_finite l.list-iterator
    × All (HaveSlots (length l.slots)) (map (λ v. v.items) l.list-iterator.rest.items)
    × (placed_lists (map (λ v. v.items) l.list-iterator.rest.items) l.slots ≡ placed_lists
    (map (λ v. v.items) l.fn.lists.items) l.initial.slots)
