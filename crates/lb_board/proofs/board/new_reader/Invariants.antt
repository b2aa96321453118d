-- The loops of `new_reader` of src/board.rt: a reader that has seen what the writers have published.
use Rattle.std.proofs.Common.{◌≡◌, ◌≤◌, length, take, vec_capacity}
use Rattle.lb_board.specs.Board.{sight_of, sight_of_all}
use Rattle.lb_board.proofs.board.new_reader.Given as goal

abbrev pub invariant-loop-i : goal.invariant-loop-i
invariant-loop-i l = (l.writers ≡ l.initial.writers)
    × (sight_of l.passes.items ≡ sight_of_all (take l.i l.initial.writers)) × (length l.passes.items ≡ l.i)
    × (length l.cells ≤ vec_capacity l.passes)
