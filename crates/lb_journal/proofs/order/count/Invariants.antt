-- The loops of `count` of src/order.rt: how many items there are, where that can be counted.
use Rattle.std.proofs.Common.{◌≡◌, ◌+◌, map, drop}
use Rattle.lb_journal.specs.Ordering.{total_length}
use Rattle.lb_journal.proofs.order.count.Given as goal

abbrev pub invariant-loop-list : goal.invariant-loop-list
invariant-loop-list l =
    l.total + total_length (drop l.list-index (map (λ v. v.items) l.lists)) ≡ total_length (map (λ v. v.items) l.lists)
