-- For `look_told` of src/cell.rt: a holder is told what another one saw, and looks.
use Rattle.std.proofs.Common.{rules}
use Rattle.lb_board.specs.Board.{Posts}
use Rattle.lb_seen.proofs.Steps.{forks, merges}
use Rattle.lb_board.proofs.cell.look_told.Goals as goal

pub split_pass-part-requires : goal.split_pass-part-requires
split_pass-part-requires g c = (search rules, (search rules, (search rules, forks Posts _ _)))

pub join_pass-requires : goal.join_pass-requires
join_pass-requires g c = (search rules, (search rules, (search rules, merges Posts _ _ _ _)))
