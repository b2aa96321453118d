-- For `open` of src/board.rt: a cell with the opening figure, and the right to write it.
use Rattle.std.proofs.Common.{rules, refl, [], ◌∷◌}
use Rattle.lb_board.specs.Board.{Posts, opening}
use Rattle.lb_seen.proofs.Steps.{begins}
use Rattle.lb_board.proofs.board.open.Goals as goal

pub ruled-requires : goal.ruled-requires
ruled-requires c = (search rules, (search rules, begins Posts (record { fig = opening }) (opening ∷ []) (refl, refl)))
