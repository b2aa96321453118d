-- For `new_holder` of src/board.rt: a further holder of a writer's cell, which has seen what the writer has
-- published.
use Rattle.std.proofs.Common.{rules}
use Rattle.lb_board.specs.Board.{Posts}
use Rattle.lb_seen.proofs.Steps.{forks}
use Rattle.lb_board.proofs.board.new_holder.Goals as goal

pub split_pass-requires : goal.split_pass-requires
split_pass-requires c = (search rules, (search rules, (search rules, forks Posts _ _)))
