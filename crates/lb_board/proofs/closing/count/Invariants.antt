-- The loops of `count` of src/closing.rt: how many figures were published, the opening ones not counted.
use Rattle.std.proofs.Common.{◌≡◌, ◌+◌, ◌*◌, ◌≤◌, length, take}
use Rattle.std.specs.List.{sum_by}
use Rattle.lb_board.proofs.closing.count.Given as goal

abbrev pub invariant-loop-i : goal.invariant-loop-i
invariant-loop-i g l = (l.writers ≡ l.initial.writers)
    × (l.total + l.i ≡ sum_by (λ w. length w.figures) (take l.i l.initial.writers)) × (l.total ≤ l.i * 1099511627776)
