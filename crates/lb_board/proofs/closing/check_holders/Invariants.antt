-- The loops of `check_holders` of src/closing.rt: the same for each CPU.
use Rattle.std.proofs.Common.{◌≡◌}
use Rattle.lb_board.specs.Board.{sight_of, Witnesses}
use Rattle.lb_board.proofs.closing.check_holders.Given as goal

abbrev pub invariant-loop-i : goal.invariant-loop-i
invariant-loop-i g l = (l.writers ≡ l.initial.writers) × (sight_of l.passes.items ≡ sight_of l.initial.passes.items)
    × Witnesses l.i l.initial.writers (sight_of l.initial.passes.items)
