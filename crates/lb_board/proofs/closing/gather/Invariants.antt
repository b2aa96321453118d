-- The loops of `gather` of src/closing.rt: spends the board, its writers and its readers, and answers how
-- many figures were published, the opening ones not counted.
use Rattle.std.proofs.Common.{◌≡◌, ℕ, ◌<◌, length, get_or}
use Rattle.lb_board.specs.Board.{Sight, Witnesses}
use Rattle.lb_board.proofs.closing.gather.Given as goal

abbrev pub invariant-loop-j : goal.invariant-loop-j
invariant-loop-j g l = (l.writers.items ≡ l.initial.writers.items) × (l.readers.items ≡ l.initial.readers.items)
    × ((k : ℕ) (d : Sight) → k < l.j → Witnesses (length l.fn.board) l.initial.writers.items (get_or l.initial.readers.items k d))
